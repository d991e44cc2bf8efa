-- Aborts and priority changes that a script asks for.
use Rattle.std.specs.Prelude.{Result}
use Rattle.page_types.specs.Values.{Value}
use Rattle.page_values.specs.declared.Value as code
use Rattle.page_values.specs.Seen.{seen}
use Rattle.lang_meaning.specs.HostSteps.{Stepped}
use Rattle.lang_ast.specs.declared.host.HostStep.{HostStep}
use Rattle.page_model.specs.PageHost.{Hosting, step_abort, step_change}
use Rattle.trace_text.specs.declared.lines.Lines.{Ghosts}
use Rattle.trace_text.specs.declared.lines.NoLine.{NoLine}
use Rattle.page_state.specs.Standing.{Standing}
use Rattle.page_state.specs.PageActs.{at}
use Rattle.page_state.specs.FoldActs.{Reaches, hosting_of}

-- `abort` of a controller, with a reason
abbrev pub abort_asked : (controller reason : Value) → Hosting → Stepped Hosting
abort_asked c reason h = step_abort h.folds c reason h.page

-- `setPriority` of a controller
abbrev pub change_asked : (controller priority : Value) → Hosting → Stepped Hosting
change_asked c v h = step_change h.folds c v h.page

-- `abort` of values as the code has them
abbrev pub abort_of : (controller reason : code.Value) → Hosting → Stepped Hosting
abort_of controller reason = abort_asked (seen controller) (seen reason)

-- `setPriority` of values as the code has them
abbrev pub change_of : (controller priority : code.Value) → Hosting → Stepped Hosting
change_of controller priority = change_asked (seen controller) (seen priority)

-- the call does this step of the page as a host, and gives its lines. `Ghosts L` is what is told of them
abbrev pub Begins : {L : Type 0} → Ghosts L → (old : Standing) → (before : L) → (step : Hosting → Stepped Hosting)
    → Result HostStep NoLine → (new : Standing) → (after : L) → Type 0
Begins g old before step result new after =
    Reaches g.keeping (at old (g.seen before)) (step (hosting_of old)) result (at new (g.seen after))
