use Rattle.lang_place.proofs.Tables.{value_before, name_before, round_before, square_before, sign_before, no_second_sign, no_operand}
use Rattle.lang_place.proofs.following.operand.Goals as goal

pub returns-in-Value : goal.returns-in-Value
returns-in-Value c = rw c.in-Value.is (value_before _ _ _)

pub returns-in-Name : goal.returns-in-Name
returns-in-Name c = rw c.in-Name.is (name_before _ _ _)

pub returns-in-OpenRound : goal.returns-in-OpenRound
returns-in-OpenRound c = rw c.in-OpenRound.is (round_before _ _ _)

pub returns-in-OpenSquare : goal.returns-in-OpenSquare
returns-in-OpenSquare c = rw c.in-OpenSquare.is (square_before _ _ _)

pub returns-then-is_signed : goal.returns-then-is_signed
returns-then-is_signed c = rw c.if-is_signed.true (no_second_sign _ _ _ c.in-Minus.is)

pub returns-else-is_signed : goal.returns-else-is_signed
returns-else-is_signed c = rw c.if-is_signed.false (sign_before _ _ _ c.in-Minus.is)

pub returns-in_default : goal.returns-in_default
returns-in_default c = no_operand _ _ _ _ c.in_default.not-Value c.in_default.not-Name c.in_default.not-OpenRound c.in_default.not-OpenSquare c.in_default.not-Minus c.in_default.not-Not
