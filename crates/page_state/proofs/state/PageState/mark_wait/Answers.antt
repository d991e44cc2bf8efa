use Rattle.page_types.specs.Events.{Wait}
use Rattle.page_model.specs.State.{emit}
use Rattle.page_model.specs.Turns.{at_time}
use Rattle.page_script.proofs.Touching.{wait-only}
use Rattle.page_state.proofs.Lifted.{Does-lifted}
use Rattle.page_state.proofs.state.PageState.mark_wait.Goals as goal

pub returns : goal.returns
returns g c = Does-lifted (λ p. emit (Wait c.args.target.0) (at_time c.args.time.0 p)) (wait-only c.args.target.0 c.args.time.0) c.self.view_is c.mark_wait.ensures
