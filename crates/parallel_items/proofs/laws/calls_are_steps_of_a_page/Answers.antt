use Rattle.parallel_items.proofs.FirstLemmas.{clears_timer}
use Rattle.parallel_items.proofs.laws.calls_are_steps_of_a_page.Goals as goal

pub returns-clause-clear_timer : goal.returns-clause-clear_timer
returns-clause-clear_timer c = clears_timer
