use Rattle.page_script.proofs.Touching.{level-only}
use Rattle.page_state.proofs.Lifted.{changed-lifted}
use Rattle.page_state.proofs.state.PageState.set_level.Goals as goal

pub returns : goal.returns
returns g c = changed-lifted (λ p. record p { level = c.args.level }) (level-only c.args.level) c.self.view_is c.set_level.ensures
