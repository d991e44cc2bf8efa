use Rattle.page_model.proofs.Bounding.HostBounds.{known-within}
use Rattle.page_model.proofs.steps.operations_keep_bounds.Goals as goal

pub returns : goal.returns
returns c = λ op args h b. let w = known-within h.folds h.page b.0 b.1 op args in (w.0, w.1)
