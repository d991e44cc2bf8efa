use Rattle.std.proofs.Common.{◌∙◌}
use Rattle.idle_periods.proofs.CallbackLemmas.{joined, found_seen}
use Rattle.idle_periods.proofs.idle.Idle.registration.Goals as goal

pub returns : goal.returns
returns c =
    let both = joined c.self.inside.last_runnable 0 _ _ c.self.invariant.0 in
    rw (← c.self.view_is, both) (c.copied.ensures ∙ c.get.ensures.value ∙ found_seen c.args.handle _)
