use Rattle.lang_parse.proofs.Built.{true_built, false_built, unit_built}
use Rattle.lang_parse.proofs.leaves.after_literal.Goals as goal

pub returns-in-Some-clause-found : goal.returns-in-Some-clause-found
returns-in-Some-clause-found c = true_built _ _ c.in-Some.ensures.found

pub returns-in-Some-after_word-clause-found : goal.returns-in-Some-after_word-clause-found
returns-in-Some-after_word-clause-found c = false_built _ _ c.in-Some-after_word.ensures.found

pub returns-clause-found : goal.returns-clause-found
returns-clause-found c = unit_built _ _ c.in_ok-rest.ensures.found
