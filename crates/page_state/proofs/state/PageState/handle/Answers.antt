use Rattle.page_script.specs.Seen.{registration_seen}
use Rattle.page_state.proofs.Handled.{Does-handling, Does-unregistered, handled-last}
use Rattle.page_state.proofs.state.PageState.handle.Goals as goal

pub returns-in_err-r-clause-does : goal.returns-in_err-r-clause-does
returns-in_err-r-clause-does g c = Does-unregistered c.args.p (registration_seen c.args.registration) c.args.self.now _ c.from_residual.ensures.1 c.in_err-r.ensures.does

pub returns-clause-does : goal.returns-clause-does
returns-clause-does g c =
    Does-handling c.args.p (registration_seen c.args.registration) c.in_ok-r.r c.args.into c.scheduling.result c.args.self.now c.register_as.new.self c.requires c.in_ok-r.ensures.number c.scheduling.ensures
    c.in_ok-r.ensures.does c.subscribe.ensures

pub returns-clause-kept : goal.returns-clause-kept
returns-clause-kept g c =
    handled-last c.args.p c.args.into (registration_seen c.args.registration) _ c.args.self.now c.register_as.new.self c.subscribe.new.self _ c.requires c.in_ok-r.ensures.does c.subscribe.ensures
