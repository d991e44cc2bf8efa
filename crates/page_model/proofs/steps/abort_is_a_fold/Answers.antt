use Rattle.page_model.proofs.Bounding.Unrolling.{abort-unrolls}
use Rattle.page_model.proofs.steps.abort_is_a_fold.Goals as goal

pub returns : goal.returns
returns c = abort-unrolls
