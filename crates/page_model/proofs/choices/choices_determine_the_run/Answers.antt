use Rattle.std.proofs.Common.{sym, ap, ◌∙◌}
use Rattle.page_parts.specs.WrittenChoices.{Choices}
use Rattle.page_model.specs.Turns.{run}
use Rattle.page_model.proofs.ChosenAlone.Replaying.{run-again}
use Rattle.page_model.proofs.choices.choices_determine_the_run.Goals as goal

pub returns : goal.returns
returns g c = λ program setup hosts held other same.
    sym (run-again g.R.Choosing.rules program setup hosts held)
    ∙ (ap (λ (x : Choices). run program setup hosts x) same ∙ run-again g.S.Choosing.rules program setup hosts other)
