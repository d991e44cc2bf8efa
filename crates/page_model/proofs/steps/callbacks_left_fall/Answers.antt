use Rattle.page_model.proofs.Bounding.HostBounds.{resume-within}
use Rattle.page_model.proofs.steps.callbacks_left_fall.Goals as goal

pub returns : goal.returns
returns c = λ ticket end h b. resume-within h.folds end h.page ticket b
