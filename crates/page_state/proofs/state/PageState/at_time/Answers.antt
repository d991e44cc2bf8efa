use Rattle.page_model.specs.Turns.{at_time}
use Rattle.page_script.proofs.Touching.{at_time-only}
use Rattle.page_state.proofs.Lifted.{changed-lifted}
use Rattle.page_state.proofs.state.PageState.at_time.Goals as goal

pub returns : goal.returns
returns g c = changed-lifted (at_time c.args.time.0) (at_time-only c.args.time.0) c.self.view_is c.set_now.ensures
