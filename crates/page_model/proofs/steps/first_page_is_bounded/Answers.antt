use Rattle.page_model.proofs.Bounding.FirstBounds.{first-bounded}
use Rattle.page_model.proofs.steps.first_page_is_bounded.Goals as goal

pub returns : goal.returns
returns c = first-bounded
