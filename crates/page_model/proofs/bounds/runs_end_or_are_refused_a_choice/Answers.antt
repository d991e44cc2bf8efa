use Rattle.std.proofs.Common.{refl}
use Rattle.page_model.specs.Turns.{first_state, run_by}
use Rattle.page_model.proofs.Bounding.Ending.{turns-end}
use Rattle.page_model.proofs.bounds.runs_end_or_are_refused_a_choice.Goals as goal

pub returns : goal.returns
unfolding run_by
returns g c = λ program setup hosts choices. turns-end g.R.Choosing.rules program setup.until (first_state program setup hosts) choices (λ z. refl)
