use Rattle.page_laws.proofs.RunLaws.{gaps_timers_in_order, run_timers_in_order}
use Rattle.page_laws.proofs.timers_go_in_order.Goals as goal

pub returns-clause-in_runs : goal.returns-clause-in_runs
returns-clause-in_runs g c = λ program setup hosts choices h. run_timers_in_order g.R.Choosing.rules program setup hosts choices h

pub returns-clause-in_pieces : goal.returns-clause-in_pieces
returns-clause-in_pieces g c = λ program setup choices list h. gaps_timers_in_order g.R.Choosing.rules program setup choices list h
