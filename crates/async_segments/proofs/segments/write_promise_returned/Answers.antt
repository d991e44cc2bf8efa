use Rattle.async_segments.proofs.Writing.{then_ok}
use Rattle.async_segments.proofs.segments.write_promise_returned.Goals as goal

pub returns : goal.returns
returns c = (then_ok _ _ c.sign-2.result c.in_ok-word.ensures (then_ok _ _ c.sign-2.result c.in_ok-name.ensures (then_ok _ _ c.sign-2.result c.in_ok-sign.ensures c.sign-2.ensures)))
