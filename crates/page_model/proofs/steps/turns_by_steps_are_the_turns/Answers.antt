use Rattle.lang_meaning.specs.Evaluation.{call_from_outside}
use Rattle.page_model.specs.Operations.{page_operations}
use Rattle.page_model.specs.Hosted.{call_by_steps}
use Rattle.page_model.proofs.Stepping.Runs.{turns-agree, callers-agree}
use Rattle.page_model.proofs.steps.turns_by_steps_are_the_turns.Goals as goal

pub returns : goal.returns
returns g c = λ program until most choices m b. (turns-agree g.R.Choosing.rules (call_from_outside program page_operations) (call_by_steps program) (callers-agree program) until most choices m b).0
