use Rattle.std.proofs.Common.{refl}
use Rattle.page_model.specs.Invoke.{register_as}
use Rattle.page_script.specs.Seen.{registration_seen}
use Rattle.page_script.proofs.Touching.{register_as-only}
use Rattle.page_state.proofs.Acting.{Does-wants}
use Rattle.page_state.proofs.Lifted.{Does-lifted}
use Rattle.page_state.proofs.Lifted.{registered-number}
use Rattle.page_state.proofs.state.PageState.register_as.Goals as goal

pub returns-then-registered-clause-does : goal.returns-then-registered-clause-does
returns-then-registered-clause-does g c = Does-wants g.L.Lines.keeping (register_as c.args.kind (registration_seen c.args.registration)) c.args.self.now c.args.self.now (g.L.Lines.seen c.args.lines.now) refl

pub returns-clause-does : goal.returns-clause-does
returns-clause-does g c = Does-lifted (register_as c.args.kind (registration_seen c.args.registration)) (register_as-only c.args.kind (registration_seen c.args.registration)) c.self.view_is c.register.ensures.does

pub returns-clause-number : goal.returns-clause-number
returns-clause-number g c =
    registered-number c.args.kind (registration_seen c.args.registration) _ c.register.new.self _ c.register.ensures.does c.register.ensures.number
