use Rattle.page_parts.specs.Notices.{queue_micro}
use Rattle.page_model.specs.State.{on_notices, context}
use Rattle.page_script.proofs.Touching.{queue_micro-only}
use Rattle.page_state.proofs.Lifted.{Does-lifted}
use Rattle.page_state.proofs.state.PageState.queue_micro.Goals as goal

pub returns : goal.returns
returns g c = Does-lifted (λ p. on_notices (queue_micro (context p) c.args.r) p) (queue_micro-only c.args.r) c.self.view_is c.queue_micro.ensures
