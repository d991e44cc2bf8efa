use Rattle.std.proofs.Common.{refl}
use Rattle.page_values.specs.Seen.{seen}
use Rattle.page_model.specs.PageCombinators.{item_made}
use Rattle.page_script.proofs.Touching.{item_made-only}
use Rattle.page_state.proofs.Acting.{Does-wants}
use Rattle.page_state.proofs.Lifted.{Does-lifted}
use Rattle.page_state.proofs.state.PageState.item_made.Goals as goal

pub returns-then-not-is_item-clause-does : goal.returns-then-not-is_item-clause-does
returns-then-not-is_item-clause-does g c = Does-wants g.L.Lines.keeping (item_made (seen c.args.value)) c.args.self.now c.args.self.now (g.L.Lines.seen c.args.lines.now) refl

pub returns-clause-does : goal.returns-clause-does
returns-clause-does g c = Does-lifted (item_made (seen c.args.value)) (item_made-only (seen c.args.value)) c.self.view_is c.item.ensures.does
