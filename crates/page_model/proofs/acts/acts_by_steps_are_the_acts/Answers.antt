use Rattle.lang_meaning.specs.Evaluation.{call_from_outside}
use Rattle.page_model.specs.Operations.{page_operations}
use Rattle.page_model.specs.Hosted.{call_by_steps}
use Rattle.page_model.proofs.Stepping.Runs.{acts-agree, callers-agree}
use Rattle.page_model.proofs.acts.acts_by_steps_are_the_acts.Goals as goal

pub returns-clause-same : goal.returns-clause-same
returns-clause-same g c = λ program until list choices m b. (acts-agree g.R.Choosing.rules (call_from_outside program page_operations) (call_by_steps program) (callers-agree program) until list choices m b).0

pub returns-clause-bounded : goal.returns-clause-bounded
returns-clause-bounded g c = λ program until list choices m b. (acts-agree g.R.Choosing.rules (call_from_outside program page_operations) (call_by_steps program) (callers-agree program) until list choices m b).1
