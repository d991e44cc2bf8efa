use Rattle.page_frames.proofs.PageLemmas.{starts_period, steps_idle, remains}
use Rattle.page_frames.proofs.laws.idle_periods_are_those_of_a_page.Goals as goal

pub returns-clause-start : goal.returns-clause-start
returns-clause-start c = starts_period

pub returns-clause-step : goal.returns-clause-step
returns-clause-step c = steps_idle

pub returns-clause-remaining : goal.returns-clause-remaining
returns-clause-remaining c = remains
