use Rattle.promise_core.specs.Seen.{reaction_seen}
use Rattle.page_state.specs.Handling.{reacted}
use Rattle.page_state.proofs.Handled.{Does-handled, Does-unhandled}
use Rattle.page_state.proofs.state.PageState.subscribe.Goals as goal

pub returns-in_err-outstanding : goal.returns-in_err-outstanding
returns-in_err-outstanding g c = Does-unhandled (reacted c.args.p (reaction_seen c.args.reaction)) c.args.p c.args.self.now _ c.from_residual.ensures.1 c.in_err-outstanding.ensures.does

pub returns : goal.returns
returns g c =
    Does-handled (reacted c.args.p (reaction_seen c.args.reaction)) c.args.p c.in_ok-outstanding.outstanding c.args.self.now c.react.new.self _ c.in_ok-outstanding.ensures.was c.in_ok-outstanding.ensures.does
    c.tell_handled.ensures.queued c.tell_handled.ensures.memory
