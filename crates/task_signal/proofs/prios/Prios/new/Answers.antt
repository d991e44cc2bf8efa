use Rattle.std.proofs.Common.{ap}
use Rattle.task_signal.specs.Seen.{prios_of}
use Rattle.task_signal.proofs.RecordLemmas.{placed_none}
use Rattle.task_signal.proofs.prios.Prios.new.Goals as goal

pub invariant_of-result : goal.invariant_of-result
invariant_of-result c = placed_none (prios_of c.new.result.items) c.new-2.result (ap prios_of c.new.ensures.items) c.new-2.ensures.empty
