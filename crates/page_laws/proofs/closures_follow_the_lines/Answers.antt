use Rattle.page_laws.proofs.ClosureFates.{fired_in_order}
use Rattle.page_laws.proofs.ClosureMarks.{closures_follow_runs}
use Rattle.page_laws.proofs.closures_follow_the_lines.Goals as goal

pub returns-clause-pages : goal.returns-clause-pages
returns-clause-pages g c = λ program setup hosts choices h. closures_follow_runs g.R.Choosing.rules program setup hosts choices h

pub returns-clause-fired : goal.returns-clause-fired
returns-clause-fired g c = λ program setup hosts choices h k. fired_in_order k (closures_follow_runs g.R.Choosing.rules program setup hosts choices h)
