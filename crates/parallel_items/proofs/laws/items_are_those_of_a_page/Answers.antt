use Rattle.parallel_items.proofs.FirstLemmas.{first_of_page, frame_is_first, due_of_page}
use Rattle.parallel_items.proofs.laws.items_are_those_of_a_page.Goals as goal

pub returns-clause-first : goal.returns-clause-first
returns-clause-first c = first_of_page

pub returns-clause-frame : goal.returns-clause-frame
returns-clause-frame c = frame_is_first

pub returns-clause-due : goal.returns-clause-due
returns-clause-due c = due_of_page
