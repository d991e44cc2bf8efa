use Rattle.page_model.proofs.Bounding.Unrolling.{dispatch-unrolls}
use Rattle.page_model.proofs.steps.dispatch_is_a_fold.Goals as goal

pub returns : goal.returns
returns c = dispatch-unrolls
