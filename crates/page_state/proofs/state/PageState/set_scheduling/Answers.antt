use Rattle.page_script.proofs.Touching.{scheduling-only}
use Rattle.page_state.proofs.Lifted.{changed-lifted}
use Rattle.page_state.proofs.state.PageState.set_scheduling.Goals as goal

pub returns : goal.returns
returns g c = changed-lifted (λ p. record p { scheduling = c.args.state }) (scheduling-only c.args.state) c.self.view_is c.set_scheduling.ensures
