use Rattle.std.proofs.Common.{ap, sym, subst, is_some, ◌∙◌}
use Rattle.timer_map.specs.Kept.{AreIdsKept}
use Rattle.timer_map.specs.Seen.{ids_in_order}
use Rattle.timer_map.proofs.IdLemmas.{has_in_order, kept_rest, ids_rest}
use Rattle.timer_map.proofs.timers.Timers.clear.Goals as goal

pub invariant_of-self : goal.invariant_of-self
invariant_of-self c =
    let ids = subst (AreIdsKept c.self.inside.handles_made) (sym c.take.ensures.left) (kept_rest c.args.id _ _ c.self.invariant.ids) in
    record { ids = ids; active = c.self.invariant.active }

pub returns-clause-was : goal.returns-clause-was
returns-clause-was c = rw (← c.self.view_is) (c.is_some.ensures ∙ ap is_some c.take.ensures.value ∙ has_in_order c.args.id _ _ c.self.invariant.ids)

pub returns-clause-gone : goal.returns-clause-gone
returns-clause-gone c =
    let gone = ap (ids_in_order c.self.inside.handles_made) c.take.ensures.left ∙ ids_rest c.args.id _ _ c.self.invariant.ids in
    rw (← c.self.view_is, gone)
