use Rattle.page_frames.proofs.PageLemmas.{requests_idle, cancels_idle}
use Rattle.page_frames.proofs.laws.idle_calls_are_steps_of_a_page.Goals as goal

pub returns-clause-request : goal.returns-clause-request
returns-clause-request c = requests_idle

pub returns-clause-cancel : goal.returns-clause-cancel
returns-clause-cancel c = cancels_idle
