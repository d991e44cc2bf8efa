use Rattle.page_interp.proofs.SmallSteps.{stacked_push}
use Rattle.page_interp.proofs.stack.push.Goals as goal

pub returns-in-Ok-clause-pushed : goal.returns-in-Ok-clause-pushed
returns-in-Ok-clause-pushed g c = stacked_push _ _ _ c.in-Ok.ensures.items
