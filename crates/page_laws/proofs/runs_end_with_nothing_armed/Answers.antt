use Rattle.page_laws.proofs.RunLaws.{laws_of_runs}
use Rattle.page_laws.proofs.runs_end_with_nothing_armed.Goals as goal

pub returns-clause-arms : goal.returns-clause-arms
returns-clause-arms g c = λ program setup hosts choices h. (laws_of_runs g.R.Choosing.rules program setup hosts choices h).13

pub returns-clause-frames : goal.returns-clause-frames
returns-clause-frames g c = λ program setup hosts choices h. (laws_of_runs g.R.Choosing.rules program setup hosts choices h).14

pub returns-clause-idles : goal.returns-clause-idles
returns-clause-idles g c = λ program setup hosts choices h. (laws_of_runs g.R.Choosing.rules program setup hosts choices h).15
