use Rattle.async_segments.proofs.Writing.{then_ok, adds_as}
use Rattle.async_segments.proofs.Operands.{joined_operand}
use Rattle.async_segments.proofs.segments.write_resolved.Goals as goal

pub returns : goal.returns
returns c = (then_ok _ _ c.sign-4.result c.in_ok-name.ensures (then_ok _ _ c.sign-4.result c.in_ok-sign.ensures (then_ok _ _ c.sign-4.result c.in_ok-name-2.ensures (then_ok _ _ c.sign-4.result c.in_ok-sign-2.ensures (then_ok _ _ c.sign-4.result (adds_as (joined_operand c.args.operands.now.items c.requires) c.in_ok-write_joined.ensures) (then_ok _ _ c.sign-4.result c.in_ok-sign-3.ensures c.sign-4.ensures))))))
