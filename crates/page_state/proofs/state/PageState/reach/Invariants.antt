use Rattle.std.proofs.Common.{Result}
use Rattle.lang_ast.specs.declared.host.HostStep.{HostStep}
use Rattle.trace_text.specs.declared.lines.NoLine.{NoLine}
use Rattle.trace_text.specs.Acts.{At}
use Rattle.page_signals.specs.Steps.{to_visit}
use Rattle.page_state.specs.Standing.{Standing}
use Rattle.page_state.specs.PageActs.{at}
use Rattle.page_state.specs.FoldActs.{signalling_in, Reaches, rest_step}
use Rattle.page_state.proofs.state.PageState.reach.Given as goal

-- what is left comes behind what was done
abbrev pub invariant-steps : goal.invariant-steps
invariant-steps g l =
    (r : Result HostStep NoLine) (new : At Standing g.L.Lines.Told)
    → Reaches g.L.Lines.keeping (at l.self (g.L.Lines.seen l.lines)) (rest_step l.self) r new
    → Reaches g.L.Lines.keeping (at l.initial.self (g.L.Lines.seen l.initial.lines)) (rest_step l.initial.self) r new

abbrev pub decreases-steps : goal.decreases-steps
decreases-steps g l = to_visit (signalling_in l.self)
