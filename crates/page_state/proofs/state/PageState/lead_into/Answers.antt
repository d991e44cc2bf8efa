use Rattle.promise_core.specs.Seen.{settled_seen}
use Rattle.page_model.specs.PageCombinators.{lead_into}
use Rattle.page_script.proofs.Touching.{lead_into-only}
use Rattle.page_state.proofs.Lifted.{Does-lifted}
use Rattle.page_state.proofs.state.PageState.lead_into.Goals as goal

pub returns : goal.returns
returns g c = Does-lifted (lead_into c.args.into (settled_seen c.args.how)) (lead_into-only c.args.into (settled_seen c.args.how)) c.self.view_is c.lead_into.ensures
