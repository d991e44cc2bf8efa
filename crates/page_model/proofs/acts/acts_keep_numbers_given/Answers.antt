use Rattle.std.specs.Prelude.{[]}
use Rattle.page_model.specs.Turns.{first_state}
use Rattle.page_model.specs.Gaps.{run_gaps_by}
use Rattle.page_model.proofs.GivenNumbers.Turns.{first_state-given, acts-keep}
use Rattle.page_model.proofs.acts.acts_keep_numbers_given.Goals as goal

pub returns-clause-many : goal.returns-clause-many
returns-clause-many g c = acts-keep g.R.Choosing.rules

pub returns-clause-whole_run : goal.returns-clause-whole_run
unfolding run_gaps_by
returns-clause-whole_run g c = λ program setup list choices h.
    (acts-keep g.R.Choosing.rules program setup.until list (first_state program setup []) choices (first_state-given program setup [] h)).given
