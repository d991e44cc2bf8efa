use Rattle.page_fields.proofs.FieldLemmas.{asked_is, fired_is, dropped_is}
use Rattle.page_fields.proofs.closures_change_as_those_laid_over.Goals as goal

pub returns-clause-asked : goal.returns-clause-asked
returns-clause-asked c = asked_is

pub returns-clause-fired : goal.returns-clause-fired
returns-clause-fired c p k = fired_is k p

pub returns-clause-dropped : goal.returns-clause-dropped
returns-clause-dropped c hosts k = dropped_is k hosts
