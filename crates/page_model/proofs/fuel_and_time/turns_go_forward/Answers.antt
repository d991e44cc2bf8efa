use Rattle.std.proofs.Common.{suc}
use Rattle.lang_meaning.specs.Evaluation.{call_from_outside}
use Rattle.page_model.specs.Operations.{page_operations}
use Rattle.page_model.specs.Turns.{turn, first_state, run_by}
use Rattle.page_model.proofs.Holding.Operations.{outside-go}
use Rattle.page_model.proofs.Holding.Turns.{turn-kept, turns-kept}
use Rattle.page_model.proofs.Holding.FuelAndTime.{forward, Took, took_on, took, turn_forward}
use Rattle.page_model.proofs.fuel_and_time.turns_go_forward.Goals as goal

pub returns-clause-one_turn : goal.returns-clause-one_turn
returns-clause-one_turn g c = λ program until m choices.
    turn_forward program m (turn g.R.Choosing.rules (call_from_outside program page_operations) until m choices)
    (turn-kept program forward Took took_on took g.R.Choosing.rules (call_from_outside program page_operations) (outside-go program forward) until m choices tt)

pub returns-clause-many_turns : goal.returns-clause-many_turns
returns-clause-many_turns g c = λ program until n m choices.
    (turns-kept program forward Took took_on took g.R.Choosing.rules (call_from_outside program page_operations) (outside-go program forward) until n m choices tt).0

pub returns-clause-whole_run : goal.returns-clause-whole_run
unfolding run_by
returns-clause-whole_run g c = λ program setup hosts choices.
    (turns-kept program forward Took took_on took g.R.Choosing.rules (call_from_outside program page_operations) (outside-go program forward) setup.until (suc setup.fuel) (first_state program setup hosts) choices tt).0
