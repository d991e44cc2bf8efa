use Rattle.page_interp.proofs.NameSteps.{called_op, called_value}
use Rattle.page_interp.proofs.expressions.purpose_of.Goals as goal

pub returns-in-Some : goal.returns-in-Some
returns-in-Some c = called_op _ _ _ c.in-Some.ensures

pub returns-in_ok-named-in-None : goal.returns-in_ok-named-in-None
returns-in_ok-named-in-None c = called_value _ _ _ c.in-None.ensures c.in_ok-named-in-None.ensures
