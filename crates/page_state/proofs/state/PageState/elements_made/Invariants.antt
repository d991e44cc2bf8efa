use Rattle.std.proofs.Common.{◌≡◌, Option, map}
use Rattle.page_values.specs.Seen.{seen}
use Rattle.page_model.specs.PageCombinators.{each_item, element_made}
use Rattle.trace_text.specs.declared.lines.NoLine.{NoLine}
use Rattle.trace_text.specs.Acts.{At}
use Rattle.page_state.specs.Standing.{Standing}
use Rattle.page_state.specs.PageActs.{on_page, at, Does}
use Rattle.page_state.proofs.Combined.{left}
use Rattle.page_state.proofs.state.PageState.elements_made.Given as goal

-- what is done with the items that are left is done with all
abbrev pub invariant-loop-value : goal.invariant-loop-value
invariant-loop-value g l = record {
  place : l.place ≡ l.value-index;
  rest :
      (why : Option NoLine) (new : At Standing g.L.Lines.Told)
      → Does g.L.Lines.keeping (at l.self (g.L.Lines.seen l.lines)) (left (element_made l.combinator) l.place l.value-index l.items) why new
      → Does g.L.Lines.keeping (at l.fn.self (g.L.Lines.seen l.fn.lines)) (on_page (each_item (element_made l.combinator) 0 (map seen l.items))) why new;
}
