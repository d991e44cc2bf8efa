use Rattle.page_values.specs.Seen.{seen_func}
use Rattle.page_state.proofs.Handled.{Does-micro, Does-no_micro}
use Rattle.page_state.proofs.state.PageState.micro_registered.Goals as goal

pub returns-in_err-r : goal.returns-in_err-r
returns-in_err-r g c = Does-no_micro (seen_func c.args.callback) c.args.self.now _ c.from_residual.ensures.1 c.in_err-r.ensures.does

pub returns : goal.returns
returns g c = Does-micro (seen_func c.args.callback) c.in_ok-r.r c.args.self.now c.register_as.new.self c.in_ok-r.ensures.number c.in_ok-r.ensures.does c.queue_micro.ensures
