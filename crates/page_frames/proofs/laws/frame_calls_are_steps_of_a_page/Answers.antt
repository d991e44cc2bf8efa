use Rattle.page_frames.proofs.PageLemmas.{cancels_frame}
use Rattle.page_frames.proofs.laws.frame_calls_are_steps_of_a_page.Goals as goal

pub returns-clause-cancel : goal.returns-clause-cancel
returns-clause-cancel c = cancels_frame
