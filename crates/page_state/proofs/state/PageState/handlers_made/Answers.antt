use Rattle.page_script.specs.Seen.{registration_seen}
use Rattle.page_state.specs.Handling.{handlers_made}
use Rattle.page_state.proofs.Acting.{Does-last}
use Rattle.page_state.proofs.Handled.{Does-handlers}
use Rattle.page_state.proofs.Telling.{Does-wanted}
use Rattle.page_state.proofs.state.PageState.handlers_made.Goals as goal

pub returns-in_err-into-clause-does : goal.returns-in_err-into-clause-does
returns-in_err-into-clause-does g c =
    Does-wanted g.L.Lines.keeping (handlers_made c.args.p (registration_seen c.args.registration)) c.args.self.now c.new_promise.new.self _ _ c.from_residual.ensures.1 c.in_err-into.ensures.memory

pub returns-in_err-handle-clause-does : goal.returns-in_err-handle-clause-does
returns-in_err-handle-clause-does g c =
    Does-last _ c.from_residual-in_err-handle.ensures.1
    (Does-handlers c.args.p (registration_seen c.args.registration) c.args.self.now c.new_promise.new.self c.in_ok-into.ensures.made c.in_err-handle.ensures.does)

pub returns-clause-does : goal.returns-clause-does
returns-clause-does g c = Does-handlers c.args.p (registration_seen c.args.registration) c.args.self.now c.new_promise.new.self c.in_ok-into.ensures.made c.in_ok-handle.ensures.does
