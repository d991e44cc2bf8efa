use Rattle.std.proofs.Common.{◌<◌, arith}
use Rattle.raf_frames.proofs.CallbackLemmas.{above_absent, above_kept}
use Rattle.raf_frames.proofs.callback_map.CallbackMap.cancel_number.Goals as goal

pub returns-then-number-from-clause-registration : goal.returns-then-number-from-clause-registration
returns-then-number-from-clause-registration c =
    let above : c.self.inside.last_handle < c.args.number = grind (arith, c.from.ensures, c.if-number-from.true) in
    let absent = above_absent _ _ _ _ c.self.invariant above in
    rw (← c.self.view_is, absent)

pub returns-then-number-from-clause-gone : goal.returns-then-number-from-clause-gone
returns-then-number-from-clause-gone c =
    let above : c.self.inside.last_handle < c.args.number = grind (arith, c.from.ensures, c.if-number-from.true) in
    let kept = above_kept _ _ _ _ c.self.invariant above in
    rw (← c.self.view_is, kept)
