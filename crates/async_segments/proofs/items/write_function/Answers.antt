use Rattle.async_segments.proofs.Writing.{then_ok}
use Rattle.async_segments.proofs.items.write_function.Goals as goal

pub returns : goal.returns
returns c = then_ok _ _ c.write_block.result c.in_ok-write_head.ensures c.write_block.ensures
