use Rattle.page_model.proofs.Stepping.Hosting.{calls-follow-by-steps}
use Rattle.page_model.proofs.steps.steps_do_what_nesting_does.Goals as goal

pub returns : goal.returns
returns c = λ program n folds f args m b. (calls-follow-by-steps program n folds f args m b).0.1
