use Rattle.async_segments.proofs.Writing.{then_ok}
use Rattle.async_segments.proofs.statements.write_return.Goals as goal

pub returns : goal.returns
returns c = then_ok _ _ c.sign.result c.in_ok-word.ensures c.sign.ensures
