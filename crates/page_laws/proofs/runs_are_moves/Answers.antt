use Rattle.page_laws.proofs.Turns.{turns_are_moves, run_is_moves}
use Rattle.page_laws.proofs.runs_are_moves.Goals as goal

pub returns-clause-after : goal.returns-clause-after
returns-clause-after g c = λ program setup hosts choices until most h. turns_are_moves g.R.Choosing.rules program setup hosts choices until most h

pub returns-clause-at_end : goal.returns-clause-at_end
returns-clause-at_end g c = λ program setup hosts choices h. run_is_moves g.R.Choosing.rules program setup hosts choices h
