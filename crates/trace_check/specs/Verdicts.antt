-- What is found of a trace: its lines are compared with those of the run under its own choices.
use Rattle.std.specs.Prelude.{◌≡◌, ℕ, zero, suc, Bool, true, false, ◌&&◌, IsTrue, List, [], ◌∷◌, map, length, if◌then◌else◌}
use Rattle.page_types.specs.Tree.{Program}
use Rattle.page_types.specs.Events.{Stamped}
use Rattle.page_parts.specs.Setup.{Setup}
use Rattle.page_parts.specs.HostClosures.{HostClosure}
use Rattle.page_parts.specs.TraceText.{choices_in}
use Rattle.page_parts.specs.WrittenChoices.{Choices}
use Rattle.page_model.specs.Turns.{Turned, GoesOn, Ended, Stuck, run, events_of_run}
use Rattle.page_model.specs.PageTrace.{IsLegal}
use Rattle.trace_text.specs.Line.{Line}
use Rattle.trace_text.specs.Checks.{lines_of, same_line}
use Rattle.trace_text.specs.EventSeen.{TraceSeen, stamped_seen}
use Rattle.trace_check.specs.declared.verdict.Verdict.{Verdict}
use Rattle.trace_check.specs.declared.verdict.Verdict.TheVariants.{Yes, Differs, Illegal}

-- ---- Ours: lines beside those of a trace

-- whether all of the first lines are the lines with which the others begin
abbrev pub are_first : (lines others : List Line) → Bool
are_first [] others = true
are_first (line ∷ lines) [] = false
are_first (line ∷ lines) (other ∷ others) = same_line other line && are_first lines others

-- how many lines two lists have in common, before the first place at which they differ or one of them has ended
abbrev pub agreeing : (lines others : List Line) → ℕ
agreeing [] others = zero
agreeing (line ∷ lines) [] = zero
agreeing (line ∷ lines) (other ∷ others) = if same_line other line then suc (agreeing lines others) else zero

-- ---- Ours: the run under a trace's own choices

-- the events of a trace
abbrev pub events_of : TraceSeen → List Stamped
events_of trace = map stamped_seen trace.events

-- its lines, the head among them
abbrev pub trace_lines : TraceSeen → List Line
trace_lines trace = lines_of trace.form (events_of trace)

-- the run under the choices that stand in some events; the policy and the lateness of the setup are not used
unfoldable pub own_run : Program → Setup → List HostClosure → List Stamped → Turned Choices
own_run program setup hosts es = run program setup hosts (choices_in es)

-- the lines of a run, the head of its form among them
abbrev pub lines_of_run : {C : Type 0} → (form : ℕ) → Turned C → List Line
lines_of_run form r = lines_of form (events_of_run r)

-- a run is stuck: a choice is absent, or is not legal
abbrev pub IsStuck : {C : Type 0} → Turned C → Type 0
IsStuck (GoesOn m c) = ⊥
IsStuck (Ended end m c) = ⊥
IsStuck (Stuck at m c) = Unit {0}

-- ---- Ours: verdicts

-- the trace is legal: it has the setup's form, and the run under its own choices ends with exactly its events
abbrev pub IsLegalHere : Program → Setup → List HostClosure → TraceSeen → Type 0
IsLegalHere program setup hosts trace = (trace.form ≡ setup.trace) × IsLegal program setup hosts (events_of trace)

-- the run is stuck, and the trace begins with all of its lines
abbrev pub StopsShort : {C : Type 0} → (form : ℕ) → Turned C → TraceSeen → Type 0
StopsShort form r trace = IsStuck r × IsTrue (are_first (lines_of_run form r) (trace_lines trace))

-- The verdict on a trace, by the run under its own choices. Yes: it is legal. Illegal: the run is stuck and all its lines are the trace's
-- first ones; the line is the one behind them. Differs: neither holds; the line is the first at which the two differ. Lines are counted
-- from 1, the head among them. No two verdicts hold of one trace.
abbrev pub IsVerdict : Program → Setup → List HostClosure → TraceSeen → Verdict → Type 0
IsVerdict program setup hosts trace Yes = IsLegalHere program setup hosts trace
IsVerdict program setup hosts trace (Illegal line) =
    let r = own_run program setup hosts (events_of trace) in
    StopsShort setup.trace r trace × (line ≡ suc (length (lines_of_run setup.trace r)))
IsVerdict program setup hosts trace (Differs line) =
    let r = own_run program setup hosts (events_of trace) in
    (IsLegalHere program setup hosts trace → ⊥) × (StopsShort setup.trace r trace → ⊥)
    × (line ≡ suc (agreeing (lines_of_run setup.trace r) (trace_lines trace)))
