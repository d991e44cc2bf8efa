use Rattle.page_cli.proofs.RunLemmas.{none-run}
use Rattle.page_cli.proofs.running.run_program.Goals as goal

pub returns-in_default-clause-answers : goal.returns-in_default-clause-answers
returns-in_default-clause-answers g c = rw c.without_memory.ensures (none-run _ _ _ _)

pub returns-then-has_too_many-clause-answers : goal.returns-then-has_too_many-clause-answers
returns-then-has_too_many-clause-answers g c = rw c.without_memory-then-has_too_many.ensures (none-run _ _ _ _)
