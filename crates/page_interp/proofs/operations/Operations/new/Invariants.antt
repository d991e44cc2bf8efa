use Rattle.page_interp.specs.OpIndex.{AreNamed}
use Rattle.page_interp.proofs.operations.Operations.new.Given as goal

abbrev pub invariant-loop-name : goal.invariant-loop-name
invariant-loop-name l = AreNamed l.ops
