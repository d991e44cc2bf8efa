use Rattle.lang_place.proofs.Machine.{popped}
use Rattle.lang_place.proofs.recogniser.Recogniser.advance.Goals as goal

pub returns-in-Some-clause-same : goal.returns-in-Some-clause-same
returns-in-Some-clause-same c = λ _. popped _ _ _ _ c.in-Done.is c.in-Some.ensures.items
