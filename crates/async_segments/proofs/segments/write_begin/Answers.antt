use Rattle.async_segments.proofs.Writing.{then_ok}
use Rattle.async_segments.proofs.segments.write_begin.Goals as goal

pub returns : goal.returns
returns c = (then_ok _ _ c.sign-3.result c.in_ok-sign.ensures (then_ok _ _ c.sign-3.result c.in_ok-sign-2.ensures (then_ok _ _ c.sign-3.result c.in_ok-word.ensures c.sign-3.ensures)))
