use Rattle.page_model.specs.Invoke.{checkpoint_begun}
use Rattle.page_script.proofs.Touching.{checkpoint_begun-only}
use Rattle.page_state.proofs.Lifted.{changed-lifted}
use Rattle.page_state.proofs.state.PageState.checkpoint_begun.Goals as goal

pub returns : goal.returns
returns g c = changed-lifted (checkpoint_begun) (checkpoint_begun-only) c.self.view_is c.checkpoint_begun.ensures
