-- What the call of an operation did to the page and to the lines that it was given. `Ghosts L` is what is told of those lines.
use Rattle.std.specs.Prelude.{Result}
use Rattle.lang_meaning.specs.Machine.{Done}
use Rattle.lang_ast.specs.declared.host.HostStep.{HostStep}
use Rattle.page_model.specs.State.{Page, State}
use Rattle.trace_text.specs.declared.lines.Lines.{Ghosts}
use Rattle.trace_text.specs.declared.lines.NoLine.{NoLine}
use Rattle.trace_text.specs.Given.{Seen}
use Rattle.page_state.specs.Standing.{Standing}
use Rattle.page_state.specs.PageActs.{at}
use Rattle.page_answers.specs.Answers.{Answers}

-- the call answers what an operation does on the page, and gives its lines
abbrev pub Serves : {L : Type 0} → Ghosts L → (old : Standing) → (before : L) → (operation : State → Done Page)
    → Result HostStep NoLine → (new : Standing) → (after : L) → Type 0
Serves g old before operation result new after =
    Answers g.keeping (at old (g.seen before)) operation result (at new (g.seen after))

-- the call answers what an operation does on the page, and gives no line, whatever the lines tell
abbrev pub ServesSilently : {L : Type 0} → Ghosts L → (old : Standing) → (operation : State → Done Page)
    → Result HostStep NoLine → (new : Standing) → Type 0
ServesSilently g old operation result new =
    (lines : Seen g.Told) → Answers g.keeping (at old lines) operation result (at new lines)
