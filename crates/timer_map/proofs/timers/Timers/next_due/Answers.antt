use Rattle.std.proofs.Common.{◌∙◌, sym, ap}
use Rattle.std.specs.Option.{option_map}
use Rattle.page_parts.specs.Timers.{ActiveTimer, next_due}
use Rattle.timer_map.proofs.DueLemmas.{first_is_due, due_of_seen}
use Rattle.timer_map.proofs.timers.Timers.next_due.Goals as goal

pub returns : goal.returns
returns c =
    let first = first_is_due c.self.inside.starts_made c.self.inside.active c.self.invariant.active in
    c.next_due.ensures ∙ due_of_seen c.self.inside.active ∙ sym (ap (option_map (λ (t : ActiveTimer). t.due)) first) ∙ ap next_due c.self.view_is
