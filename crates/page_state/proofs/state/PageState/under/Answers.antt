use Rattle.page_model.specs.Invoke.{under}
use Rattle.page_notices.specs.Seen.{current}
use Rattle.page_script.proofs.Touching.{under-only}
use Rattle.page_state.proofs.Lifted.{changed-lifted}
use Rattle.page_state.proofs.state.PageState.under.Goals as goal

pub returns : goal.returns
returns g c = changed-lifted (under (current c.args.level c.args.state)) (under-only (current c.args.level c.args.state)) c.self.view_is c.set_context.ensures
