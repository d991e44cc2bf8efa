use Rattle.std.proofs.Common.{Option, length}
use Rattle.page_values.specs.Seen.{seen}
use Rattle.page_model.specs.PageSignals.{abort_registrations}
use Rattle.trace_text.specs.declared.lines.NoLine.{NoLine}
use Rattle.trace_text.specs.Acts.{At}
use Rattle.page_state.specs.Standing.{Standing}
use Rattle.page_state.specs.PageActs.{on_page, at, Does}
use Rattle.page_state.proofs.state.PageState.abort_registrations.Given as goal

-- the abort steps that are left come behind those that were run
abbrev pub invariant-registrations : goal.invariant-registrations
invariant-registrations g l =
    (why : Option NoLine) (new : At Standing g.L.Lines.Told)
    → Does g.L.Lines.keeping (at l.self (g.L.Lines.seen l.lines)) (on_page (abort_registrations (seen l.reason) l.left)) why new
    → Does g.L.Lines.keeping (at l.initial.self (g.L.Lines.seen l.initial.lines)) (on_page (abort_registrations (seen l.reason) l.initial.left)) why new

abbrev pub decreases-registrations : goal.decreases-registrations
decreases-registrations g l = length l.left
