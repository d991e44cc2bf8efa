use Rattle.page_model.specs.Invoke.{call_begun}
use Rattle.page_script.proofs.Touching.{call_begun-only}
use Rattle.page_state.proofs.Lifted.{Does-lifted}
use Rattle.page_state.proofs.state.PageState.call_begun.Goals as goal

pub returns : goal.returns
returns g c = Does-lifted (call_begun c.args.r) (call_begun-only c.args.r) c.self.view_is c.call_begun.ensures
