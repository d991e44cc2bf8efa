use Rattle.page_types.specs.Events.{Ret}
use Rattle.page_model.specs.Invoke.{call_ended}
use Rattle.page_script.proofs.Touching.{call_ended-only}
use Rattle.page_state.proofs.Lifted.{Does-lifted}
use Rattle.page_state.proofs.state.PageState.returned.Goals as goal

pub returns : goal.returns
returns g c = Does-lifted (call_ended Ret) (call_ended-only Ret) c.self.view_is c.returned.ensures
