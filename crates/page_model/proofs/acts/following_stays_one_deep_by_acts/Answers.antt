use Rattle.lang_meaning.specs.Evaluation.{call_from_outside}
use Rattle.page_model.specs.State.{State}
use Rattle.page_model.specs.Operations.{page_operations}
use Rattle.page_model.proofs.Holding.Operations.{outside-go}
use Rattle.page_model.proofs.Holding.Turns.{acts-kept}
use Rattle.page_model.proofs.Bounding.OneDeep.{one_deep}
use Rattle.page_model.proofs.acts.following_stays_one_deep_by_acts.Goals as goal

-- of a turn nothing more is asked
abbrev Any : State → State → Type 0
Any m n = Unit {0}

pub returns : goal.returns
returns g c = λ program until list m choices h.
    (acts-kept program one_deep Any (λ m n r le w. tt) (λ m n left e le. tt) g.R.Choosing.rules (call_from_outside program page_operations) (outside-go program one_deep) until list m choices h).1
