use Rattle.page_laws.proofs.RunLaws.{runs_end_truly as whole_runs, gaps_end_truly}
use Rattle.page_laws.proofs.runs_end_truly.Goals as goal

pub returns-clause-in_runs : goal.returns-clause-in_runs
returns-clause-in_runs g c = λ program setup hosts choices h. whole_runs g.R.Choosing.rules program setup hosts choices h

pub returns-clause-in_pieces : goal.returns-clause-in_pieces
returns-clause-in_pieces g c = λ program setup choices list h. gaps_end_truly g.R.Choosing.rules program setup choices list h
