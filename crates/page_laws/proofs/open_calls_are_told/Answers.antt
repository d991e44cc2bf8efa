use Rattle.page_laws.proofs.RunLaws.{laws_of_runs, laws_of_gaps}
use Rattle.page_laws.proofs.open_calls_are_told.Goals as goal

pub returns-clause-in_runs : goal.returns-clause-in_runs
returns-clause-in_runs g c = λ program setup hosts choices h. (laws_of_runs g.R.Choosing.rules program setup hosts choices h).4

pub returns-clause-in_pieces : goal.returns-clause-in_pieces
returns-clause-in_pieces g c = λ program setup choices list h. (laws_of_gaps g.R.Choosing.rules program setup choices list h).4
