use Rattle.std.proofs.Common.{suc}
use Rattle.lang_meaning.specs.Evaluation.{calls, call_from_outside}
use Rattle.page_model.specs.State.{State}
use Rattle.page_model.specs.Operations.{page_operations}
use Rattle.page_model.specs.Turns.{first_state, run_by}
use Rattle.page_model.proofs.Holding.Evaluation.{every_any}
use Rattle.page_model.proofs.Holding.Operations.{page_operations-go, calls-go, outside-go}
use Rattle.page_model.proofs.Holding.Turns.{turns-kept}
use Rattle.page_model.proofs.Bounding.OneDeep.{one_deep, kept_of, no_priorities}
use Rattle.page_model.proofs.bounds.following_stays_one_deep.Goals as goal

-- of a turn nothing more is asked
abbrev Any : State → State → Type 0
Any m n = Unit {0}

pub returns-clause-at_first : goal.returns-clause-at_first
returns-clause-at_first g c = λ program setup hosts. no_priorities 0

pub returns-clause-after_calls : goal.returns-clause-after_calls
returns-clause-after_calls g c = λ program depth f args m h. kept_of program m (calls program page_operations depth f args m) (calls-go program one_deep depth f args m h (every_any args))

pub returns-clause-after_operations : goal.returns-clause-after_operations
returns-clause-after_operations g c = λ program depth op args m h.
    kept_of program m (page_operations (calls program page_operations depth) op args m)
    (page_operations-go program one_deep (calls program page_operations depth) (calls-go program one_deep depth) op args m h (every_any args))

pub returns-clause-after_turns : goal.returns-clause-after_turns
returns-clause-after_turns g c = λ program until n m choices h.
    (turns-kept program one_deep Any (λ m n r le w. tt) (λ m n left e le. tt) g.R.Choosing.rules (call_from_outside program page_operations) (outside-go program one_deep) until n m choices h).1

pub returns-clause-after_a_run : goal.returns-clause-after_a_run
unfolding run_by
returns-clause-after_a_run g c = λ program setup hosts choices.
    (turns-kept program one_deep Any (λ m n r le w. tt) (λ m n left e le. tt) g.R.Choosing.rules (call_from_outside program page_operations) (outside-go program one_deep) setup.until (suc setup.fuel) (first_state program setup hosts) choices (no_priorities 0)).1
