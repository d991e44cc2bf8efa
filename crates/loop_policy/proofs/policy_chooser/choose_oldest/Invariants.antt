use Rattle.std.proofs.Common.{◌≡◌, length}
use Rattle.page_parts.specs.WrittenChoices.{by_fifo}
use Rattle.loop_policy.specs.Views.{first_of, listed, runnables}
use Rattle.loop_policy.specs.Choosing.{fifo_behind}
use Rattle.loop_policy.proofs.policy_chooser.choose_oldest.Given as goal

abbrev pub invariant-loop-source : goal.invariant-loop-source
invariant-loop-source l = fifo_behind l.oldest (listed (first_of l.view.first) l.rest) ≡ by_fifo (runnables l.view)

abbrev pub decreases-loop-source : goal.decreases-loop-source
decreases-loop-source l = length l.rest
