use Rattle.page_model.proofs.Stepping.Hosting.{calls-follow-by-steps}
use Rattle.page_model.proofs.steps.steps_do_what_nesting_does_outside.Goals as goal

pub returns : goal.returns
returns c = λ program folds f args m b. (calls-follow-by-steps program 256 folds f args m b).0.1
