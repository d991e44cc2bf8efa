use Rattle.page_frames.proofs.PageLemmas.{calls_frame, runs_frame, invokes_again, first_is, calls_idle, times_out}
use Rattle.page_frames.proofs.laws.callbacks_called_are_those_of_a_page.Goals as goal

pub returns-clause-frame_callback : goal.returns-clause-frame_callback
returns-clause-frame_callback c = calls_frame

pub returns-clause-frame : goal.returns-clause-frame
returns-clause-frame c = runs_frame

pub returns-clause-again : goal.returns-clause-again
returns-clause-again c = invokes_again

pub returns-clause-first : goal.returns-clause-first
returns-clause-first c = first_is

pub returns-clause-idle : goal.returns-clause-idle
returns-clause-idle c = calls_idle

pub returns-clause-timed_out : goal.returns-clause-timed_out
returns-clause-timed_out c = times_out
