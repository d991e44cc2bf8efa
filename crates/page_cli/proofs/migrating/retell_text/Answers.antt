use Rattle.std.proofs.Common.{Err, ap}
use Rattle.page_cli.proofs.MigrateLemmas.{legal-choices, text-retold, no-bad-line, none-retold}
use Rattle.page_cli.proofs.migrating.retell_text.Goals as goal

pub retell-requires-clause-legal : goal.retell-requires-clause-legal
retell-requires-clause-legal g c = legal-choices _ _ _ _ c.requires.legal _ _ c.in-Ok.ensures.found.1

pub returns-in-Ok-clause-answers : goal.returns-in-Ok-clause-answers
returns-in-Ok-clause-answers g c = text-retold _ _ _ _ c.requires.legal _ _ c.in-Ok.ensures.found.1 _ _ _ c.retell.ensures.answers

pub unreachable-requires : goal.unreachable-requires
unreachable-requires g c = no-bad-line _ _ _ _ c.requires.legal _ (c.in-Err-Is.ensures.bad _ (ap Err c.in-Err-Is.field-0-is))

pub returns-in-Err-OutOfMemory-clause-answers : goal.returns-in-Err-OutOfMemory-clause-answers
returns-in-Err-OutOfMemory-clause-answers g c = none-retold _ _ _ _ c.requires.legal _
