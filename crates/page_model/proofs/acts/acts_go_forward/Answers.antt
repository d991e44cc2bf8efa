use Rattle.std.specs.Prelude.{[]}
use Rattle.lang_meaning.specs.Evaluation.{call_from_outside}
use Rattle.page_model.specs.Operations.{page_operations}
use Rattle.page_model.specs.Turns.{first_state}
use Rattle.page_model.specs.Gaps.{serve, run_gaps_by}
use Rattle.page_model.proofs.Holding.Operations.{outside-go}
use Rattle.page_model.proofs.Holding.Turns.{serve-kept, acts-kept}
use Rattle.page_model.proofs.Holding.FuelAndTime.{forward, Took, took_on, took, turn_forward}
use Rattle.page_model.proofs.acts.acts_go_forward.Goals as goal

pub returns-clause-served : goal.returns-clause-served
returns-clause-served g c = λ program until m choices.
    turn_forward program m (serve g.R.Choosing.rules (call_from_outside program page_operations) until choices m)
    (serve-kept program forward Took took_on took g.R.Choosing.rules (call_from_outside program page_operations) (outside-go program forward) until choices m tt)

pub returns-clause-many : goal.returns-clause-many
returns-clause-many g c = λ program until list m choices.
    (acts-kept program forward Took took_on took g.R.Choosing.rules (call_from_outside program page_operations) (outside-go program forward) until list m choices tt).0

pub returns-clause-whole_run : goal.returns-clause-whole_run
unfolding run_gaps_by
returns-clause-whole_run g c = λ program setup list choices.
    (acts-kept program forward Took took_on took g.R.Choosing.rules (call_from_outside program page_operations) (outside-go program forward) setup.until list (first_state program setup []) choices tt).0
