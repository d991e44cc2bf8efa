use Rattle.std.proofs.Common.{ap, nat_eq, Some, ◌∙◌}
use Rattle.std.specs.Option.{option_eq}
use Rattle.timer_map.proofs.IdLemmas.{live_in_order}
use Rattle.timer_map.proofs.timers.Timers.live.Goals as goal

pub returns : goal.returns
returns c =
    rw (← c.self.view_is) (c.eq.ensures ∙ ap (λ r. option_eq nat_eq r (Some c.args.handle)) c.value_of.ensures ∙ live_in_order c.args.id c.args.handle _ _ c.self.invariant.ids)
