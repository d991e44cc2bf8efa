use Rattle.std.proofs.Common.{refl}
use Rattle.lang_place.proofs.Derive.{found}
use Rattle.lang_place.proofs.Tables.{no_else, else_after, closes_arguments, closes_items, closes_return, only_is, block_is, no_parameters, no_more_parameters}
use Rattle.lang_place.proofs.following.part.Goals as goal

pub returns-in-Else-terminal : goal.returns-in-Else-terminal
returns-in-Else-terminal c = rw (c.in-Else.is, c.in-Else-terminal.is) (else_after _)

pub returns-in_default : goal.returns-in_default
returns-in_default c = rw c.in-Else.is (no_else _ _ _ c.in_default.not-Else c.statement-in_default.ensures)

pub returns-in-Arguments : goal.returns-in-Arguments
returns-in-Arguments c = rw c.in-Arguments.is (closes_arguments _ _ c.perhaps_expr.ensures.same c.perhaps_expr.ensures.other)

pub returns-in-Items : goal.returns-in-Items
returns-in-Items c = rw c.in-Items.is (closes_items _ _ c.perhaps_expr-in-Items.ensures.same c.perhaps_expr-in-Items.ensures.other)

pub returns-in-Returned : goal.returns-in-Returned
returns-in-Returned c = rw c.in-Returned.is (closes_return _ _ c.perhaps_expr-in-Returned.ensures.same c.perhaps_expr-in-Returned.ensures.other)

pub returns-in-Name : goal.returns-in-Name
returns-in-Name c = rw (c.in-Parameters.is, c.in-Name.is) (found _ _ _ (λ fs. refl))

pub returns-in-CloseRound : goal.returns-in-CloseRound
returns-in-CloseRound c = rw (c.in-Parameters.is, c.in-CloseRound.is) (found _ _ _ (λ fs. refl))

pub returns-in_default-terminal : goal.returns-in_default-terminal
returns-in_default-terminal c = rw c.in-Parameters.is (no_parameters _ c.in_default-terminal.not-Name c.in_default-terminal.not-CloseRound)

pub returns-in-Comma : goal.returns-in-Comma
returns-in-Comma c = rw (c.in-MoreParameters.is, c.in-Comma.is) (found _ _ _ (λ fs. refl))

pub returns-in-CloseRound-terminal : goal.returns-in-CloseRound-terminal
returns-in-CloseRound-terminal c = rw (c.in-MoreParameters.is, c.in-CloseRound-terminal.is) (found _ _ _ (λ fs. refl))

pub returns-in_default-terminal-2 : goal.returns-in_default-terminal-2
returns-in_default-terminal-2 c = rw c.in-MoreParameters.is (no_more_parameters _ c.in_default-terminal-2.not-Comma c.in_default-terminal-2.not-CloseRound)

pub returns-in-Block : goal.returns-in-Block
returns-in-Block c = rw c.in-Block.is (block_is _ _ (only_is _ _ _ _ c.only.ensures.same c.only.ensures.other))

pub returns-in-Function : goal.returns-in-Function
returns-in-Function c = rw c.in-Function.is (only_is _ _ _ _ c.only-in-Function.ensures.same c.only-in-Function.ensures.other)

pub returns-in-ParameterList : goal.returns-in-ParameterList
returns-in-ParameterList c = rw c.in-ParameterList.is (only_is _ _ _ _ c.only-in-ParameterList.ensures.same c.only-in-ParameterList.ensures.other)

pub returns-in-Parameter : goal.returns-in-Parameter
returns-in-Parameter c = rw c.in-Parameter.is (only_is _ _ _ _ c.only-in-Parameter.ensures.same c.only-in-Parameter.ensures.other)

pub returns-in-Variable : goal.returns-in-Variable
returns-in-Variable c = rw c.in-Variable.is (only_is _ _ _ _ c.only-in-Variable.ensures.same c.only-in-Variable.ensures.other)

pub returns-in-Assigned : goal.returns-in-Assigned
returns-in-Assigned c = rw c.in-Assigned.is (only_is _ _ _ _ c.only-in-Assigned.ensures.same c.only-in-Assigned.ensures.other)

pub returns-in-Condition : goal.returns-in-Condition
returns-in-Condition c = rw c.in-Condition.is (only_is _ _ _ _ c.only-in-Condition.ensures.same c.only-in-Condition.ensures.other)

pub returns-in-Catch : goal.returns-in-Catch
returns-in-Catch c = rw c.in-Catch.is (only_is _ _ _ _ c.only-in-Catch.ensures.same c.only-in-Catch.ensures.other)

pub returns-in-CatchList : goal.returns-in-CatchList
returns-in-CatchList c = rw c.in-CatchList.is (only_is _ _ _ _ c.only-in-CatchList.ensures.same c.only-in-CatchList.ensures.other)

pub returns-in-CatchName : goal.returns-in-CatchName
returns-in-CatchName c = rw c.in-CatchName.is (only_is _ _ _ _ c.only-in-CatchName.ensures.same c.only-in-CatchName.ensures.other)

pub returns-in-CatchEnd : goal.returns-in-CatchEnd
returns-in-CatchEnd c = rw c.in-CatchEnd.is (only_is _ _ _ _ c.only-in-CatchEnd.ensures.same c.only-in-CatchEnd.ensures.other)
