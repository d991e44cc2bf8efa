use Rattle.std.proofs.Common.{suc}
use Rattle.page_model.specs.Turns.{first_state, run_by}
use Rattle.page_model.proofs.GivenNumbers.Turns.{first_state-given, turns-keep}
use Rattle.page_model.proofs.numbers.numbers_of_runs_are_given.Goals as goal

pub returns-clause-after : goal.returns-clause-after
returns-clause-after g c = λ program setup hosts choices most h.
    (turns-keep g.R.Choosing.rules program setup.until most (first_state program setup hosts) choices (first_state-given program setup hosts h)).given

pub returns-clause-at_end : goal.returns-clause-at_end
unfolding run_by
returns-clause-at_end g c = λ program setup hosts choices h.
    (turns-keep g.R.Choosing.rules program setup.until (suc setup.fuel) (first_state program setup hosts) choices (first_state-given program setup hosts h)).given
