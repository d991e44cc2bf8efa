use Rattle.std.proofs.Common.{◌≡◌, ◌≤◌, ◌^◌, ◌∙◌, sym, ap, is_some, arith}
use Rattle.page_parts.specs.Timers.{has_id}
use Rattle.timer_map.proofs.IdLemmas.{has_in_order, large_in_order}
use Rattle.timer_map.proofs.timers.Timers.has_number.Goals as goal

pub returns-in-Ok : goal.returns-in-Ok
returns-in-Ok c =
    let same : c.in-Ok.id ≡ c.args.number = omega (arith, c.in-Ok.ensures) in
    rw (← c.self.view_is, ← same) (c.is_some.ensures ∙ ap is_some c.value_of.ensures ∙ has_in_order c.in-Ok.id _ _ c.self.invariant.ids)

pub returns-in-Err : goal.returns-in-Err
returns-in-Err c =
    let large : 2 ^ 32 ≤ c.args.number = omega (arith, c.in-Err.ensures) in
    sym (ap (has_id c.args.number) (sym c.self.view_is) ∙ large_in_order c.args.number _ _ large c.self.invariant.ids)
