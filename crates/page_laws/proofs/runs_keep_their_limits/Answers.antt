use Rattle.page_laws.proofs.Scans.{kept-each}
use Rattle.page_laws.proofs.SpendingTurns.{gaps_keep_limits, run_keeps_limits}
use Rattle.page_laws.proofs.Spent.{limits_test}
use Rattle.page_laws.proofs.runs_keep_their_limits.Goals as goal

pub returns-clause-in_runs : goal.returns-clause-in_runs
returns-clause-in_runs g c = λ program setup hosts choices. kept-each (limits_test setup.until setup.fuel) _ (run_keeps_limits g.R.Choosing.rules program setup hosts choices)

pub returns-clause-in_pieces : goal.returns-clause-in_pieces
returns-clause-in_pieces g c = λ program setup choices list. kept-each (limits_test setup.until setup.fuel) _ (gaps_keep_limits g.R.Choosing.rules program setup choices list)
