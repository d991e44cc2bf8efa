use Rattle.page_model.proofs.Bounding.Unrolling.{fold-unrolls}
use Rattle.page_model.proofs.steps.folds_go_on_by_steps.Goals as goal

pub returns : goal.returns
returns c = fold-unrolls
