use Rattle.page_state.specs.Handling.{element_reacted}
use Rattle.page_state.proofs.Handled.{Does-handled, Does-unhandled}
use Rattle.page_state.proofs.state.PageState.element_made.Goals as goal

pub returns-in_err-outstanding : goal.returns-in_err-outstanding
returns-in_err-outstanding g c = Does-unhandled (element_reacted c.args.combinator c.args.place c.args.p) c.args.p c.args.self.now _ c.from_residual.ensures.1 c.in_err-outstanding.ensures.does

pub returns : goal.returns
returns g c =
    Does-handled (element_reacted c.args.combinator c.args.place c.args.p) c.args.p c.in_ok-outstanding.outstanding c.args.self.now c.element.new.self _ c.in_ok-outstanding.ensures.was c.in_ok-outstanding.ensures.does
    c.tell_handled.ensures.queued c.tell_handled.ensures.memory
