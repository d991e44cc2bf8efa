use Rattle.std.proofs.Common.{Option}
use Rattle.page_model.specs.Parallel.{parallel}
use Rattle.page_model.proofs.Bounding.Items.{items_waiting}
use Rattle.trace_text.specs.declared.lines.NoLine.{NoLine}
use Rattle.trace_text.specs.Acts.{At}
use Rattle.page_state.specs.Standing.{Standing, page_of}
use Rattle.page_state.specs.PageActs.{at, on_page, Does}
use Rattle.page_state.proofs.state.PageState.parallel.Given as goal

abbrev pub invariant-items : goal.invariant-items
invariant-items g l =
    (why : Option NoLine) (new : At Standing g.L.Lines.Told)
    → Does g.L.Lines.keeping (at l.self (g.L.Lines.seen l.lines)) (on_page parallel) why new
    → Does g.L.Lines.keeping (at l.initial.self (g.L.Lines.seen l.initial.lines)) (on_page parallel) why new

abbrev pub decreases-items : goal.decreases-items
decreases-items g l = items_waiting (page_of l.self)
