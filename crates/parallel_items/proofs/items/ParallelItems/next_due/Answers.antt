use Rattle.timer_map.specs.Counted.{entries_of}
use Rattle.std.proofs.Common.{◌∙◌, ap}
use Rattle.parallel_items.specs.InParallel.{InParallel}
use Rattle.parallel_items.specs.Items.{first_waiting, due_of}
use Rattle.parallel_items.specs.contracts.items.ParallelItems.{the_view}
use Rattle.parallel_items.specs.Seen.{steps_of}
use Rattle.parallel_items.proofs.FirstLemmas.{least_of_four}
use Rattle.parallel_items.proofs.KeptLemmas.{timer_due}
use Rattle.parallel_items.proofs.items.ParallelItems.next_due.Goals as goal

pub returns : goal.returns
returns c =
    let i = c.self.inside in
    let v : InParallel = the_view i in
    let timer = c.next_due-3.ensures ∙ timer_due i.timers (steps_of i.completions) i.delayed.keys (entries_of i.owners.items) c.self.invariant.parts in
    least_of_four v.waiting c.next_due.result c.next_due-2.result c.next_due-3.result c.next_due-4.result c.sooner-outside.result c.sooner.result c.sooner-2.result
    c.next_due.ensures c.next_due-2.ensures timer c.next_due-4.ensures c.sooner-outside.ensures c.sooner.ensures c.sooner-2.ensures
    ∙ ap (λ (s : InParallel). due_of (first_waiting s.waiting)) c.self.view_is
