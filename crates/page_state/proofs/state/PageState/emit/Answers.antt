use Rattle.trace_text.specs.EventSeen.{event_seen}
use Rattle.page_model.specs.State.{emit}
use Rattle.page_script.proofs.Lifting.{emit-only}
use Rattle.page_state.proofs.Lifted.{Does-kept}
use Rattle.page_state.proofs.state.PageState.emit.Goals as goal

pub returns : goal.returns
returns g c = Does-kept (emit (event_seen c.args.event)) (emit-only (event_seen c.args.event)) c.self.view_is c.emit.ensures
