use Rattle.std.proofs.Common.{suc}
use Rattle.lang_meaning.specs.Evaluation.{call_from_outside}
use Rattle.page_model.specs.Operations.{page_operations}
use Rattle.page_model.specs.Turns.{first_state, run_by}
use Rattle.page_model.specs.Hosted.{call_by_steps}
use Rattle.page_model.proofs.Bounding.FirstBounds.{first-bounded}
use Rattle.page_model.proofs.Stepping.Runs.{turns-agree, callers-agree}
use Rattle.page_model.proofs.steps.runs_by_steps_are_the_runs.Goals as goal

pub returns : goal.returns
unfolding run_by
returns g c = λ program setup hosts held.
    (turns-agree g.R.Choosing.rules (call_from_outside program page_operations) (call_by_steps program) (callers-agree program) setup.until (suc setup.fuel) held (first_state program setup hosts) (first-bounded program setup hosts)).0
