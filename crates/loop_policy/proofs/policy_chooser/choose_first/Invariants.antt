use Rattle.std.proofs.Common.{◌≡◌, length}
use Rattle.page_parts.specs.WrittenChoices.{by_rank}
use Rattle.loop_policy.specs.Views.{runnables}
use Rattle.loop_policy.proofs.policy_chooser.choose_first.Given as goal

abbrev pub invariant-loop-source : goal.invariant-loop-source
invariant-loop-source l = by_rank l.rest (runnables l.view) ≡ by_rank l.sources (runnables l.view)

abbrev pub decreases-loop-source : goal.decreases-loop-source
decreases-loop-source l = length l.rest
