use Rattle.lang_parse.proofs.StmtSteps.{assignment_begins, assignment_sign}
use Rattle.lang_parse.proofs.parts.begins_assignment.Goals as goal

pub returns-in-Some-clause-yes : goal.returns-in-Some-clause-yes
returns-in-Some-clause-yes c = λ h. assignment_begins _ _ _ _ c.in-Some.ensures.found (c.begins_with.ensures.yes h)

pub returns-in-Some-clause-no : goal.returns-in-Some-clause-no
returns-in-Some-clause-no c = λ f b. c.begins_with.ensures.no f (assignment_sign _ _ _ _ c.in-Some.ensures.found b)
