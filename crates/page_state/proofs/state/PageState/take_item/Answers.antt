use Rattle.page_state.specs.ItemActs.{item_taken}
use Rattle.page_state.proofs.Items.{frame_is_silent}
use Rattle.page_state.proofs.Telling.{Does-quiet}
use Rattle.page_state.proofs.state.PageState.take_item.Goals as goal

pub returns-in-Some-clause-does : goal.returns-in-Some-clause-does
returns-in-Some-clause-does g c =
    Does-quiet g.L.Lines.keeping item_taken c.args.self.now c.take_frame_item.new.self _ c.take_frame_item.result
    (frame_is_silent c.in-Some.frame.0 c.args.self.now c.in-Some.ensures.some) c.take_frame_item.ensures.taken c.take_frame_item.ensures.memory
