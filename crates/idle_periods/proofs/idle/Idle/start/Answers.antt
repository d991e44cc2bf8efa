use Rattle.idle_periods.proofs.CallbackLemmas.{joined, all_up_to, none_beyond}
use Rattle.idle_periods.proofs.idle.Idle.start.Goals as goal

pub returns-clause-started : goal.returns-clause-started
returns-clause-started c =
    let rise = c.self.invariant.0 in
    let last = c.self.inside.last_handle in
    let es = c.self.inside.callbacks.entries in
    let both = joined c.self.inside.last_runnable 0 last es rise in
    rw (← c.self.view_is, both, all_up_to 0 last es rise, none_beyond 0 last es rise)
