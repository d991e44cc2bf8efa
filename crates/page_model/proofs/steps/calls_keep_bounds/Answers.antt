use Rattle.page_model.proofs.Stepping.Hosting.{calls-bounded}
use Rattle.page_model.proofs.steps.calls_keep_bounds.Goals as goal

pub returns : goal.returns
returns c = calls-bounded
