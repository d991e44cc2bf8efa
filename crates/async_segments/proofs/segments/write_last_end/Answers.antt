use Rattle.async_segments.proofs.Writing.{then_ok}
use Rattle.async_segments.proofs.segments.write_last_end.Goals as goal

pub returns : goal.returns
returns c = then_ok _ _ c.write_end.result c.in_ok-write_resolve.ensures (then_ok _ _ c.write_end.result c.in_ok-word.ensures (then_ok _ _ c.write_end.result c.in_ok-write_call_end.ensures c.write_end.ensures))
