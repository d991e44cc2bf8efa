use Rattle.page_types.specs.Events.{EndLine}
use Rattle.page_model.specs.State.{emit}
use Rattle.page_script.proofs.Lifting.{emit-only}
use Rattle.page_state.proofs.Lifted.{Does-kept}
use Rattle.page_state.proofs.state.PageState.finish.Goals as goal

pub returns : goal.returns
returns g c = Does-kept (emit (EndLine c.args.end)) (emit-only (EndLine c.args.end)) c.self.view_is c.finish.ensures
