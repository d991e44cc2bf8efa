use Rattle.std.proofs.Common.{Option, map}
use Rattle.page_types.specs.Events.{Abort}
use Rattle.page_model.specs.State.{emit_each}
use Rattle.trace_text.specs.declared.lines.NoLine.{NoLine}
use Rattle.trace_text.specs.Acts.{At}
use Rattle.page_state.specs.Standing.{Standing}
use Rattle.page_state.specs.PageActs.{on_page, at, Does}
use Rattle.page_state.proofs.Marking.{lines_left}
use Rattle.page_state.proofs.state.PageState.emit_aborts.Given as goal

-- the lines that are left come behind those that were given
abbrev pub invariant-loop-s : goal.invariant-loop-s
invariant-loop-s g l = record {
  rest :
      (why : Option NoLine) (new : At Standing g.L.Lines.Told)
      → Does g.L.Lines.keeping (at l.self (g.L.Lines.seen l.lines)) (lines_left l.s-index l.signals) why new
      → Does g.L.Lines.keeping (at l.self (g.L.Lines.seen l.fn.lines)) (on_page (emit_each (map Abort l.signals))) why new;
}
