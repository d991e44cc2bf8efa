use Rattle.page_model.proofs.Bounding.Unrolling.{change-unrolls-whole}
use Rattle.page_model.proofs.steps.priority_change_is_a_fold.Goals as goal

pub returns : goal.returns
returns c = change-unrolls-whole
