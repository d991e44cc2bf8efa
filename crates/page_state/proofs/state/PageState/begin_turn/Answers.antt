use Rattle.std.proofs.Common.{suc, refl}
use Rattle.page_types.specs.Events.{Turn}
use Rattle.page_model.specs.State.{emit}
use Rattle.page_script.proofs.Touching.{turn-only}
use Rattle.page_state.proofs.Acting.{Does-wants}
use Rattle.page_state.proofs.Lifted.{Does-lifted}
use Rattle.page_state.proofs.state.PageState.begin_turn.Goals as goal

pub returns-then-turns : goal.returns-then-turns
returns-then-turns g c = Does-wants g.L.Lines.keeping (λ p. emit (Turn (suc p.turns) c.args.source) (record p { turns = suc p.turns })) c.args.self.now c.args.self.now (g.L.Lines.seen c.args.lines.now) refl

pub returns : goal.returns
returns g c = Does-lifted (λ p. emit (Turn (suc p.turns) c.args.source) (record p { turns = suc p.turns })) (turn-only c.args.source) c.self.view_is c.begin_turn.ensures
