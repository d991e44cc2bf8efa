use Rattle.std.proofs.Common.{◌≡◌, ◌&&◌, length, nat_le, filter}
use Rattle.page_parts.specs.Sources.{default_list}
use Rattle.page_parts.specs.WrittenChoices.{is_runnable, count_of, greatest}
use Rattle.loop_policy.specs.Views.{runnables}
use Rattle.loop_policy.specs.Choosing.{greatest_behind}
use Rattle.loop_policy.proofs.policy_chooser.choose_fairly.Given as goal

abbrev pub invariant-loop-source : goal.invariant-loop-source
invariant-loop-source l =
    greatest_behind l.counts l.chosen (filter (λ s. is_runnable (runnables l.view) s && nat_le l.most (count_of l.counts s)) l.rest)
    ≡ greatest l.counts (filter (λ s. is_runnable (runnables l.view) s && nat_le l.most (count_of l.counts s)) default_list)

abbrev pub decreases-loop-source : goal.decreases-loop-source
decreases-loop-source l = length l.rest
