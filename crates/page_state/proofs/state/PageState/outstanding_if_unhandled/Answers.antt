use Rattle.page_model.specs.Tasks.{outstanding_if_unhandled}
use Rattle.page_script.proofs.Touching.{outstanding_if_unhandled-only}
use Rattle.page_state.proofs.Lifted.{changed-lifted}
use Rattle.page_state.proofs.state.PageState.outstanding_if_unhandled.Goals as goal

pub returns-clause-noted : goal.returns-clause-noted
returns-clause-noted g c = changed-lifted (outstanding_if_unhandled c.args.p) (outstanding_if_unhandled-only c.args.p) c.self.view_is c.in-Ok.ensures.ok
