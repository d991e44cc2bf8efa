-- What the calls of turns do, by the rules of the clock, of the chooser and of the lines that are handed in.
use Rattle.std.specs.Prelude.{ℤ, suc, List, Option, Result}
use Rattle.page_types.specs.declared.End.{End}
use Rattle.page_types.specs.declared.Source.{Source}
use Rattle.page_base.specs.declared.clock.Clock.{Ghosts as ClockRules}
use Rattle.loop_policy.specs.declared.chooser.Chooser.{Ghosts as ChooserRules}
use Rattle.host_jobs.specs.declared.port.HostPort.{Ghosts as PortRules}
use Rattle.page_parts.specs.HostClosures.{HostClosure}
use Rattle.lang_ast.specs.declared.program.Program.{Program}
use Rattle.lang_ast.specs.SeenProgram.{seen_program}
use Rattle.arrivals_text.specs.declared.setup.PageSetup.{PageSetup}
use Rattle.arrivals_text.specs.Seen.{settings_of}
use Rattle.page_model.specs.Bounds.{row_of, turn_or}
use Rattle.page_model.specs.Turns.{from_step_three, perform, run_by, with_turn_fuel, Stuck, AtBound}
use Rattle.trace_text.specs.declared.lines.Lines.{Ghosts as LineRules}
use Rattle.page_host.specs.Moments.{calling}
use Rattle.loop_turn.specs.Outcomes.{Turns}
use Rattle.loop_turn.specs.RunRules.{answer_rules, no_reading, run_rules}
use Rattle.loop_turn.specs.RunStops.{line_fault, run_outcome, turn_outcome}
use Rattle.loop_turn.specs.Answers.{AreKept, ByAnswers}
use Rattle.loop_turn.specs.Lawful.{KeepsLaws}
use Rattle.loop_turn.specs.Runs.{DoesRun, port_then, run_lines}
use Rattle.loop_turn.specs.TurnActs.{holding, serving}
use Rattle.loop_turn.specs.LivePages.{state_in, shown_in, reached_in}
use Rattle.loop_turn.specs.declared.live_page.LivePage.{LivePage}
use Rattle.loop_turn.specs.declared.page_run.Ended.{Ended}
use Rattle.loop_turn.specs.declared.run_stop.RunStop.{RunStop}

-- ---- Ours: by the answers of the host port, the calls do what the model's turns do. Each is told by the clock, the chooser and the page
-- before it, as far as it takes them, and by the same behind it.

module _ {P L M : Type 0} (lines : LineRules L) where
  -- the first task of a source is performed, with the checkpoint behind it
  abbrev pub PerformsTask : Source → Result (Option End) RunStop → (old new : LivePage P L M) → Type 0
  PerformsTask source result old new =
      ByAnswers old.page.state.kept result new.page.state.kept (λ first left.
      Turns lines.keeping (shown_in lines.seen old)
      (perform answer_rules (calling old.machine) source (state_in old) first)
      (line_fault result) (turn_outcome result) (reached_in lines.seen new left))

module _ {K P L M : Type 0} (chooser : ChooserRules K) (lines : LineRules L) where
  -- a unit of fuel is taken, and the first task is performed of the source that is chosen
  abbrev pub DoesNext : Result (Option End) RunStop → K → LivePage P L M → K → LivePage P L M → Type 0
  DoesNext result k old k' new =
      ByAnswers old.page.state.kept result new.page.state.kept (λ first left.
      Turns lines.keeping (shown_in lines.seen old)
      (with_turn_fuel (run_rules no_reading chooser.rule) (calling old.machine) old.page.fuel (state_in old) (serving chooser.held k first))
      (line_fault result) (turn_outcome result) (reached_in lines.seen new (serving chooser.held k' left)))

  -- a turn is done from its third step on
  abbrev pub Serves : Result (Option End) RunStop → K → LivePage P L M → K → LivePage P L M → Type 0
  Serves result k old k' new =
      ByAnswers old.page.state.kept result new.page.state.kept (λ first left.
      Turns lines.keeping (shown_in lines.seen old)
      (from_step_three (run_rules no_reading chooser.rule) (calling old.machine) old.page.until (serving chooser.held k first) (state_in old))
      (line_fault result) (turn_outcome result) (reached_in lines.seen new (serving chooser.held k' left)))

module _ {C K P L M : Type 0} (clock : ClockRules C) (chooser : ChooserRules K) (lines : LineRules L) where
  -- one turn is done, with each wait that comes before its task
  abbrev pub Turn : Result (Option End) RunStop → C → K → LivePage P L M → C → K → LivePage P L M → Type 0
  Turn result c k old c' k' new =
      let until = old.page.until
      in ByAnswers old.page.state.kept result new.page.state.kept (λ first left.
      Turns lines.keeping (shown_in lines.seen old)
      (turn_or (Stuck AtBound) until (run_rules clock.rule chooser.rule) (calling old.machine) until (state_in old)
      (holding clock.held chooser.held c k first))
      (line_fault result) (turn_outcome result) (reached_in lines.seen new (holding clock.held chooser.held c' k' left)))

  -- turns are done until the run ends
  abbrev pub Runs : Result End RunStop → C → K → LivePage P L M → C → K → LivePage P L M → Type 0
  Runs result c k old c' k' new =
      let until = old.page.until
      in ByAnswers old.page.state.kept result new.page.state.kept (λ first left.
      Turns lines.keeping (shown_in lines.seen old)
      (row_of (turn_or (Stuck AtBound) until (run_rules clock.rule chooser.rule) (calling old.machine) until) (suc old.page.fuel)
      (state_in old) (holding clock.held chooser.held c k first))
      (line_fault result) (run_outcome result) (reached_in lines.seen new (holding clock.held chooser.held c' k' left)))

module _ {C K : Type 0} (clock : ClockRules C) (chooser : ChooserRules K) where
  -- whatever the host closures answer, the run of a program under a setup keeps the laws
  abbrev pub AreLawfulRuns : Program → PageSetup → List HostClosure → C → K → Type 0
  AreLawfulRuns program setup hosts c k =
      (answers : List (Result ℤ ℤ)) → KeepsLaws (settings_of setup).setup
      (run_by (run_rules clock.rule chooser.rule) (seen_program program) (settings_of setup).setup hosts
      (holding clock.held chooser.held c k answers))

module _ {C K P L : Type 0} (clock : ClockRules C) (chooser : ChooserRules K) (port : PortRules P) (lines : LineRules L) where
  -- Some answers that the port may keep make a run of a program under a setup. The call does this run, with all its lines from the head on:
  -- it is told by the clock, the chooser, the port and the lines that are handed in, by how it ended, and by clock and chooser behind it.
  abbrev pub RunsPage : Program → PageSetup → C → K → P → L → Ended P L → C → K → Type 0
  RunsPage program setup c k p l ended c' k' =
      (answers : List (Result ℤ ℤ)) × AreKept (port.kept p) answers ×
      (let run = run_by (run_rules clock.rule chooser.rule) (seen_program program) (settings_of setup).setup (port.closures p)
      (holding clock.held chooser.held c k answers)
      in DoesRun lines.keeping (lines.seen l) (run_lines setup.trace run) run ended.outcome (clock.held c') (chooser.held k')
      (port_then port.closures port.kept (port.closures p) ended.port) (lines.seen ended.lines))
