-- What is found of a trace, and which lines its run gives, by the program, the setup and the host closures as code holds them.
use Rattle.std.specs.Prelude.{ℕ, ℤ, List, map, Result}
use Rattle.page_types.specs.declared.End.{End}
use Rattle.page_types.specs.Events as model
use Rattle.lang_ast.specs.declared.program.Program.{Program}
use Rattle.lang_ast.specs.SeenProgram.{seen_program}
use Rattle.arrivals_text.specs.declared.setup.PageSetup.{PageSetup}
use Rattle.arrivals_text.specs.Seen.{settings_of}
use Rattle.host_jobs.specs.declared.table.HostTable.{HostTable}
use Rattle.host_jobs.specs.ToldTable.{closures_of}
use Rattle.trace_text.specs.declared.event.Stamped.{Stamped}
use Rattle.trace_text.specs.declared.lines.Lines.{Ghosts}
use Rattle.trace_text.specs.EventSeen.{TraceSeen, stamped_seen}
use Rattle.loop_turn.specs.Lawful.{AreLawful}
use Rattle.loop_turn.specs.declared.run_stop.RunStop.{RunStop}
use Rattle.trace_check.specs.declared.collecting.TraceChoices.{TraceChoices}
use Rattle.trace_check.specs.declared.verdict.Verdict.{Verdict}
use Rattle.trace_check.specs.Collected.{AreChoicesOf}
use Rattle.trace_check.specs.Verdicts.{IsLegalHere, IsVerdict, events_of, own_run}
use Rattle.trace_check.specs.Scanned.{HasVerdictOn}
use Rattle.trace_check.specs.Replays.{Replays}
use denote.Param.Members.{Mut}

-- ---- Ours: what is found

-- the events of the trace keep the ten laws of every run under the setup
abbrev pub HasLawfulEvents : PageSetup → TraceSeen → Type 0
HasLawfulEvents setup trace = AreLawful (settings_of setup).setup (events_of trace)

-- Each of these takes a table, whatever Rust closures it holds.
module _ {X : Type 0} {F : X → Type 0} {calls : Mut ((x : X) × F x) (ℤ × Unit {0}) (Result ℤ ℤ)} where
  -- the trace is legal
  abbrev pub IsLegalFor : Program → PageSetup → HostTable X F calls → TraceSeen → Type 0
  IsLegalFor program setup hosts trace =
      IsLegalHere (seen_program program) (settings_of setup).setup (closures_of hosts) trace

  -- this is the verdict on the trace
  abbrev pub IsVerdictFor : Program → PageSetup → HostTable X F calls → TraceSeen → Verdict → Type 0
  IsVerdictFor program setup hosts trace =
      IsVerdict (seen_program program) (settings_of setup).setup (closures_of hosts) trace

  -- this is the verdict on the trace that some bytes spell
  abbrev pub HasVerdictFor : Program → PageSetup → HostTable X F calls → (bytes : List ℕ) → Verdict → Type 0
  HasVerdictFor program setup hosts bytes =
      HasVerdictOn (seen_program program) (settings_of setup).setup (closures_of hosts) bytes

  -- ---- Ours: the lines of the run. `Ghosts L` is what is told of the lines that are given

  -- the run under the choices that stand in some events gives its lines, in the form of the setup
  abbrev pub GivesRun : {L : Type 0} → Ghosts L → Program → PageSetup → HostTable X F calls → List Stamped
      → (before : L) → Result End RunStop → (after : L) → Type 0
  GivesRun lines program setup hosts events before outcome after =
      let run = own_run (seen_program program) (settings_of setup).setup (closures_of hosts) (map stamped_seen events) in
      Replays lines.keeping (lines.seen before) setup.trace run outcome (lines.seen after)

  -- the same of whatever events have these choices
  abbrev pub GivesRunBy : {L : Type 0} → Ghosts L → Program → PageSetup → HostTable X F calls → TraceChoices
      → (before : L) → Result End RunStop → (after : L) → Type 0
  GivesRunBy lines program setup hosts choices before outcome after =
      (es : List model.Stamped) → AreChoicesOf es choices →
      (let run = own_run (seen_program program) (settings_of setup).setup (closures_of hosts) es in
      Replays lines.keeping (lines.seen before) setup.trace run outcome (lines.seen after))
