use Rattle.async_segments.proofs.Writing.{then_ok}
use Rattle.async_segments.proofs.statements.write_assigned.Goals as goal

pub returns : goal.returns
returns c = then_ok _ _ c.write_ended.result c.in_ok-own_name.ensures (then_ok _ _ c.write_ended.result c.in_ok-sign.ensures c.write_ended.ensures)
