use Rattle.std.proofs.Common.{◌+◌, ◌*◌, subst, sym, ap, ◌∙◌, add-one}
use Rattle.timer_map.specs.Kept.{IsKept}
use Rattle.timer_map.specs.Seen.{timers_in_order}
use Rattle.timer_map.proofs.DueLemmas.{kept_inserted, timers_inserted}
use Rattle.timer_map.proofs.timers.Timers.after.Goals as goal

pub invariant_of-self-2 : goal.invariant_of-self-2
invariant_of-self-2 c =
    let starts = c.self.inside.starts_made in
    let active = kept_inserted starts (c.args.now.0 + c.args.ms * 1000) c.self.inside.active c.self.invariant.active in
    record { ids = c.self.invariant.ids; active = subst (IsKept (starts + 1)) (sym c.in_ok-add.ensures.added) active }

pub returns-clause-set : goal.returns-clause-set
returns-clause-set c =
    let starts = c.self.inside.starts_made in
    let inserted = ap (timers_in_order (starts + 1)) c.in_ok-add.ensures.added ∙ timers_inserted starts (c.args.now.0 + c.args.ms * 1000) _ c.self.invariant.active in
    rw (← c.self.view_is, inserted, add-one)
