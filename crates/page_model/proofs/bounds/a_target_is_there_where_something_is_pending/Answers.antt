use Rattle.page_model.proofs.Bounding.Pending.{target-pending}
use Rattle.page_model.proofs.bounds.a_target_is_there_where_something_is_pending.Goals as goal

pub returns : goal.returns
returns g = target-pending
