use Rattle.std.proofs.Common.{◌∙◌}
use Rattle.idle_periods.proofs.CallbackLemmas.{joined, found_seen, left_removed, rise_removed, filter_without}
use Rattle.idle_periods.proofs.idle.Idle.cancel.Goals as goal

pub invariant_of-self : goal.invariant_of-self
invariant_of-self c = rw c.remove.ensures.entries (rise_removed c.args.handle 0 _ _ c.self.invariant.0, c.self.invariant.1)

pub returns-clause-registration : goal.returns-clause-registration
returns-clause-registration c =
    let both = joined c.self.inside.last_runnable 0 _ _ c.self.invariant.0 in
    rw (← c.self.view_is, both) (c.remove.ensures.value ∙ found_seen c.args.handle _)

pub returns-clause-gone : goal.returns-clause-gone
returns-clause-gone c =
    let left = left_removed c.args.handle 0 _ _ c.self.invariant.0 in
    rw (← c.self.view_is, c.remove.ensures.entries, left, filter_without, filter_without)
