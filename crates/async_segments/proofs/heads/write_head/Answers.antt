use Rattle.async_segments.proofs.Writing.{then_ok}
use Rattle.async_segments.proofs.heads.write_head.Goals as goal

pub returns : goal.returns
returns c = (then_ok _ _ c.sign-2.result c.in_ok-word.ensures (then_ok _ _ c.sign-2.result c.in_ok-own_name.ensures (then_ok _ _ c.sign-2.result c.in_ok-sign.ensures (then_ok _ _ c.sign-2.result c.in_ok-write_parameters.ensures c.sign-2.ensures))))
