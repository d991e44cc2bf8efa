use Rattle.page_values.specs.Seen.{seen}
use Rattle.page_model.specs.PageCombinators.{element_made}
use Rattle.page_state.specs.Handling.{item_taken}
use Rattle.page_state.proofs.Telling.{Does-wanted, wanted-still}
use Rattle.page_state.proofs.Combined.{element_made-adds, Does-taken, Does-untaken, Does-same_item}
use Rattle.page_state.proofs.state.PageState.element_of.Goals as goal

pub returns-in_err-item : goal.returns-in_err-item
returns-in_err-item g c =
    Does-wanted g.L.Lines.keeping (item_taken (element_made c.args.combinator) c.args.place (seen c.args.value.now)) c.args.self.now c.args.self.now _ _ c.from_residual.ensures.1 (wanted-still c.in_err-item.ensures.memory)

pub returns-in_err-n : goal.returns-in_err-n
returns-in_err-n g c =
    Does-same_item (element_made c.args.combinator) c.args.place c.in_ok-item.item c.args.value.now c.args.self.now c.in_ok-item.ensures.copy
    (Does-untaken (element_made c.args.combinator) (element_made-adds c.args.combinator) c.args.place (seen c.in_ok-item.item) c.args.self.now _ c.from_residual-in_err-n.ensures.1 c.in_err-n.ensures.does)

pub returns : goal.returns
returns g c =
    Does-same_item (element_made c.args.combinator) c.args.place c.in_ok-item.item c.args.value.now c.args.self.now c.in_ok-item.ensures.copy
    (Does-taken (element_made c.args.combinator) (element_made-adds c.args.combinator) c.args.place c.in_ok-n.n (seen c.in_ok-item.item) c.args.self.now c.item_made.new.self c.in_ok-n.ensures.number c.in_ok-n.ensures.does c.element_made.ensures)
