use Rattle.std.proofs.Common.{◌<◌, arith}
use Rattle.idle_periods.proofs.CallbackLemmas.{joined, above_absent, above_kept}
use Rattle.idle_periods.proofs.idle.Idle.cancel_number.Goals as goal

pub returns-then-number-from-clause-registration : goal.returns-then-number-from-clause-registration
returns-then-number-from-clause-registration c =
    let above : c.self.inside.last_handle < c.args.number = grind (arith, c.from.ensures, c.if-number-from.true) in
    let both = joined c.self.inside.last_runnable 0 _ _ c.self.invariant.0 in
    let absent = above_absent c.args.number 0 _ _ above c.self.invariant.0 in
    rw (← c.self.view_is, both, absent)

pub returns-then-number-from-clause-gone : goal.returns-then-number-from-clause-gone
returns-then-number-from-clause-gone c =
    let above : c.self.inside.last_handle < c.args.number = grind (arith, c.from.ensures, c.if-number-from.true) in
    let kept = above_kept c.args.number c.self.inside.last_runnable 0 _ _ above c.self.invariant.0 in
    rw (← c.self.view_is, kept.0, kept.1)
