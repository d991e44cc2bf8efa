use Rattle.std.proofs.Common.{length}
use Rattle.page_interp.specs.StackClauses.{RowBrings}
use Rattle.page_interp.proofs.at_once.first_values.Given as goal

abbrev pub invariant-taken : goal.invariant-taken
invariant-taken g l = RowBrings g.H.Host.rules l.code l.store l.current l.fn.values l.exprs l.values l.rest

abbrev pub decreases-taken : goal.decreases-taken
decreases-taken g l = length l.rest
