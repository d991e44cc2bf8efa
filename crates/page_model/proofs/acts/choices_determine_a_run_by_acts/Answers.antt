use Rattle.std.proofs.Common.{sym, ap, ◌∙◌}
use Rattle.page_parts.specs.WrittenChoices.{Choices}
use Rattle.page_model.specs.Gaps.{run_gaps}
use Rattle.page_model.proofs.ChosenAlone.Replaying.{gaps-again}
use Rattle.page_model.proofs.acts.choices_determine_a_run_by_acts.Goals as goal

pub returns : goal.returns
returns g c = λ program setup list held other same.
    sym (gaps-again g.R.Choosing.rules program setup list held)
    ∙ (ap (λ (x : Choices). run_gaps program setup list x) same ∙ gaps-again g.S.Choosing.rules program setup list other)
