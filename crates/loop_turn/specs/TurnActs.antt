-- What the calls of a turn do to a page, and what a turn needs.
use Rattle.std.specs.Prelude.{◌≡◌, ◌≤◌, ◌<◌, ⊤, ℕ, ℤ, List, [], Option, Some, None, Result, Ok, Err}
use Rattle.page_types.specs.declared.End.{End}
use Rattle.page_interp.specs.MachineNow.{MachineNow}
use Rattle.page_interp.specs.Machines.{functions_in}
use Rattle.page_model.specs.State.{Page}
use Rattle.trace_text.specs.Given.{Keeping, Seen}
use Rattle.page_state.specs.PageActs.{on_page}
use Rattle.page_host.specs.PageNow.{PageNow}
use Rattle.page_host.specs.Stops.{PageDoes, Stops, KeepsSetting}
use Rattle.page_host.specs.Moments.{state_of}
use Rattle.page_host.specs.declared.stop.PageStop.{PageStop}
use Rattle.loop_turn.specs.Outcomes.{Reached, Shown}
use Rattle.loop_turn.specs.RunRules.{Held}
use Rattle.loop_turn.specs.Waiting.{Next, Serve, EndRun, WaitFor}
use Rattle.loop_turn.specs.RunStops.{answers_at}
use Rattle.loop_turn.specs.declared.finding.NextStep.{NextStep}
use Rattle.loop_turn.specs.declared.finding.NextStep.TheVariants as code
use Rattle.loop_turn.specs.declared.run_stop.RunStop.{RunStop}
use Rattle.loop_turn.specs.declared.run_stop.RunStop.TheVariants.{WriteFault, Differs, NoReading, NoChoice, NoHost, OutOfMemory}

-- ---- Ours: the page's own work

-- the call does f to the page alone, with its lines, or stops and tells so; it takes no fuel
pub record Acts {L T X : Type 0} (k : Keeping T) (seen : L → Seen T) (old : PageNow L) (f : Page → Page) (result : Result X PageStop)
    (new : PageNow L) : Type 0 where
  pub does : PageDoes k seen old (on_page f) result new
  pub stops : Stops seen old result new
  pub fuel : new.fuel ≡ old.fuel
  pub setting : KeepsSetting old new

-- what comes next
abbrev pub next_seen : NextStep → Next
next_seen code.Serve = Serve
next_seen (code.End end) = EndRun end
next_seen (code.Wait target) = WaitFor target.0

-- ---- Ours: turns in code

-- what a page's lines and its port show
abbrev pub shown : {L T : Type 0} → (seen : L → Seen T) → PageNow L → Shown T
shown seen p = record { seen = seen p.lines; closures = p.state.at_port }

-- where a call leaves a run
abbrev pub reached : {L T C : Type 0} → (seen : L → Seen T) → MachineNow → PageNow L → C → Reached C T
reached seen m p held = record { state = state_of m p; held = held; shown = shown seen p }

-- what the objects handed in hold, and the answers that are to come
abbrev pub holding : {X Y C K : Type 0} → (X → C) → (Y → K) → X → Y → List (Result ℤ ℤ) → Held C K
holding clock chooser x y answers = record { clock = clock x; chooser = chooser y; answers = answers }

abbrev pub serving : {Y K : Type 0} → (Y → K) → Y → List (Result ℤ ℤ) → Held (Unit {0}) K
serving chooser y answers = record { clock = tt; chooser = chooser y; answers = answers }

-- A turn can be done: the page has not stopped, no fold is open, the machine has the page's functions, and the run ends at this moment,
-- which is one of a setup.
pub record CanTurn {L : Type 0} (m : MachineNow) (p : PageNow L) (until : ℕ) : Type 0 where
  pub running : p.stopped ≡ None
  pub at_rest : p.state.folds ≡ []
  pub functions : functions_in m ≡ p.functions
  pub ends : p.until ≡ until
  pub soon : until ≤ 1000000000000

-- P, where the run goes on
abbrev pub IfGoesOn : Result (Option End) RunStop → Type 0 → Type 0
IfGoesOn (Ok None) P = P
IfGoesOn (Ok (Some end)) P = ⊤
IfGoesOn (Err why) P = ⊤

-- A turn that goes on leaves what a turn needs, and has taken a unit of fuel.
pub record TurnTaken {L : Type 0} (old : PageNow L) (m : MachineNow) (new : PageNow L) (until : ℕ) : Type 0 where
  pub ready : CanTurn m new until
  pub fuel : new.fuel < old.fuel

-- The same where a unit was taken before.
pub record StillCan {L : Type 0} (old : PageNow L) (m : MachineNow) (new : PageNow L) : Type 0 where
  pub ready : CanTurn m new old.until
  pub fuel : new.fuel ≤ old.fuel

-- The host port refused exactly where this stop is NoHost. Nothing is told of it where a line was at fault, or memory was wanting.
abbrev pub PortAt : RunStop → (before after : ℕ) → Type 0
PortAt WriteFault before after = ⊤
PortAt Differs before after = ⊤
PortAt NoReading before after = after ≡ answers_at before NoReading
PortAt NoChoice before after = after ≡ answers_at before NoChoice
PortAt NoHost before after = after ≡ answers_at before NoHost
PortAt OutOfMemory before after = ⊤

abbrev pub PortRefuses : {X : Type 0} → Result X RunStop → (before after : ℕ) → Type 0
PortRefuses (Ok x) before after = after ≡ before
PortRefuses (Err why) before after = PortAt why before after
