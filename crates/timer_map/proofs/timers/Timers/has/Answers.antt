use Rattle.std.proofs.Common.{◌∙◌, ap, is_some}
use Rattle.timer_map.proofs.IdLemmas.{has_in_order}
use Rattle.timer_map.proofs.timers.Timers.has.Goals as goal

pub returns : goal.returns
returns c = rw (← c.self.view_is) (c.is_some.ensures ∙ ap is_some c.value_of.ensures ∙ has_in_order c.args.id _ _ c.self.invariant.ids)
