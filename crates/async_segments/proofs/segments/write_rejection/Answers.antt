use Rattle.async_segments.proofs.Writing.{then_ok}
use Rattle.async_segments.proofs.segments.write_rejection.Goals as goal

pub returns : goal.returns
returns c = (then_ok _ _ c.sign-4.result c.in_ok-sign.ensures (then_ok _ _ c.sign-4.result c.in_ok-name.ensures (then_ok _ _ c.sign-4.result c.in_ok-sign-2.ensures (then_ok _ _ c.sign-4.result c.in_ok-name-2.ensures (then_ok _ _ c.sign-4.result c.in_ok-sign-3.ensures (then_ok _ _ c.sign-4.result c.in_ok-name-3.ensures (then_ok _ _ c.sign-4.result c.in_ok-write_call_end.ensures c.sign-4.ensures)))))))
