use Rattle.std.proofs.Common.{refl}
use Rattle.lang_place.proofs.Derive.{found}
use Rattle.lang_place.proofs.Tables.{var_in, if_in, while_in, return_in, throw_in, try_in, name_in, value_in, round_in, square_in, sign_in, no_statement}
use Rattle.lang_place.proofs.following.statement.Goals as goal

pub returns-in-Var : goal.returns-in-Var
returns-in-Var c = rw c.in-Var.is (var_in _)

pub returns-in-If : goal.returns-in-If
returns-in-If c = rw c.in-If.is (if_in _)

pub returns-in-While : goal.returns-in-While
returns-in-While c = rw c.in-While.is (while_in _)

pub returns-in-Return : goal.returns-in-Return
returns-in-Return c = rw c.in-Return.is (return_in _)

pub returns-in-Throw : goal.returns-in-Throw
returns-in-Throw c = rw c.in-Throw.is (throw_in _)

pub returns-in-Try : goal.returns-in-Try
returns-in-Try c = rw c.in-Try.is (try_in _)

pub returns-in-Name : goal.returns-in-Name
returns-in-Name c = rw c.in-Name.is (name_in _)

pub returns-in-Value : goal.returns-in-Value
returns-in-Value c = rw c.in-Value.is (value_in _)

pub returns-in-OpenRound : goal.returns-in-OpenRound
returns-in-OpenRound c = rw c.in-OpenRound.is (round_in _)

pub returns-in-OpenSquare : goal.returns-in-OpenSquare
returns-in-OpenSquare c = rw c.in-OpenSquare.is (square_in _)

pub returns-in-Minus : goal.returns-in-Minus
returns-in-Minus c = sign_in _ _ c.in-Minus.is

pub returns-in-Script : goal.returns-in-Script
returns-in-Script c = rw (c.in-Fn.is, c.in-Script.is) (found _ _ _ (λ fs. refl))

pub returns-in-Block : goal.returns-in-Block
returns-in-Block c = rw (c.in-Fn.is, c.in-Block.is) (found _ _ _ (λ fs. refl))

pub returns-in-Script-within : goal.returns-in-Script-within
returns-in-Script-within c = rw (c.in-CloseBrace.is, c.in-Script-within.is) (found _ _ _ (λ fs. refl))

pub returns-in-Block-within : goal.returns-in-Block-within
returns-in-Block-within c = rw (c.in-CloseBrace.is, c.in-Block-within.is) (found _ _ _ (λ fs. refl))

pub returns-in_default : goal.returns-in_default
returns-in_default c = no_statement _ _ c.in_default.not-Var c.in_default.not-If c.in_default.not-While c.in_default.not-Return c.in_default.not-Throw c.in_default.not-Try c.in_default.not-Name c.in_default.not-Value c.in_default.not-OpenRound c.in_default.not-OpenSquare c.in_default.not-Minus c.in_default.not-Not c.in_default.not-Fn c.in_default.not-CloseBrace
