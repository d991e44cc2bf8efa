-- What a call does that performs the task of a source, whose host port may be asked.
use Rattle.std.specs.Prelude.{◌≡◌, ◌≤◌, ◌⊎◌, ℕ, ℤ, IsTrue, List, [], Option, Some, None, Result, Ok, Err, slice_get}
use Rattle.page_types.specs.Counts.{raised}
use Rattle.page_parts.specs.HostClosures.{HostClosure, meets}
use Rattle.lang_meaning.specs.Machine.{Done, Caller}
use Rattle.host_jobs.specs.Closures.{fired_at}
use Rattle.host_jobs.specs.KeptAnswers.{FollowsKept}
use Rattle.host_jobs.specs.declared.answer.NoHost.{NoHost}
use Rattle.page_interp.specs.MachineNow.{MachineNow}
use Rattle.page_interp.specs.Machines.{functions_in}
use Rattle.page_model.specs.State.{Page, State}
use Rattle.page_model.specs.Tasks.{fire_closure}
use Rattle.trace_text.specs.declared.lines.NoLine.{NoLine}
use Rattle.trace_text.specs.declared.lines.NoLine.TheVariants as no_line
use Rattle.trace_text.specs.Given.{Keeping, Seen}
use Rattle.page_state.specs.Standing.{port_of}
use Rattle.page_state.specs.PageActs.{changed_by}
use Rattle.page_host.specs.PageNow.{PageNow}
use Rattle.page_host.specs.StateActs.{How, RanOut}
use Rattle.page_host.specs.Doing.{Runs, did_how}
use Rattle.page_host.specs.Performed.{Asking}
use Rattle.page_host.specs.declared.did.Did.{Did}
use Rattle.page_host.specs.declared.stop.PageStop.{PageStop}
use Rattle.page_host.specs.declared.stop.PageStop.TheVariants as stop

-- ---- Ours: the answer of a host port

-- A port gave this answer to what was asked, which meets the closure's relation: the next one that it keeps, where it tells what it keeps.
-- Where nothing was asked, it keeps what it kept.
abbrev pub GivesAnswer : Option Asking → (kept : Option (List (Result ℤ ℤ))) → (answer : Result ℤ ℤ)
    → (kept_then : Option (List (Result ℤ ℤ))) → Type 0
GivesAnswer None kept answer kept_then = kept_then ≡ kept
GivesAnswer (Some x) kept answer kept_then =
    IsTrue (meets x.closure.kind x.asked.number answer)
    × FollowsKept (meets x.closure.kind x.asked.number) kept (Ok answer) kept_then

-- a port was asked and refused: where it tells what it keeps, the next answer is absent or does not meet the closure's relation
abbrev pub RefusesAnswer : Option Asking → (kept kept_then : Option (List (Result ℤ ℤ))) → Type 0
RefusesAnswer None kept kept_then = ⊥
RefusesAnswer (Some x) kept kept_then =
    (refusal : NoHost) × FollowsKept (meets x.closure.kind x.asked.number) kept (Err refusal) kept_then

-- the closures at the port, of which what was asked is fired
abbrev pub fired_for : Option Asking → List HostClosure → List HostClosure
fired_for None closures = closures
fired_for (Some x) closures = fired_at closures x.asked.closure

-- the page, whose port was asked this and keeps these answers
abbrev pub with_answer : {L : Type 0} → Option Asking → (kept : Option (List (Result ℤ ℤ))) → PageNow L → PageNow L
with_answer asks kept p = record p { state = record p.state { at_port = fired_for asks p.state.at_port; kept = kept } }

-- a closure was asked and is fired, on the page and at the port, which keeps other answers then
abbrev pub IsFired : {L : Type 0} → (k : ℕ) → (old new : PageNow L) → Type 0
IsFired k old new =
    new ≡ record old {
      state = record (changed_by (λ p. fire_closure k (slice_get p.hosts k) p) old.state) {
        at_port = fired_at old.state.at_port k;
        kept = new.state.kept;
      };
    }

-- the port refused to answer, and the page stopped
abbrev pub RefusedByPort : {L : Type 0} → (old new : PageNow L) → Type 0
RefusedByPort old new =
    new ≡ record old {
      state = record old.state { kept = new.state.kept; refusals = raised old.state.refusals };
      stopped = Some no_line.OutOfMemory;
      stops = new.stops;
    }

-- ---- Ours: what performing a task does

-- a page, to whose fields f is done
abbrev pub page_changed : {L : Type 0} → (f : Page → Page) → PageNow L → PageNow L
page_changed f p = record p { state = changed_by f p.state }

-- A task can be performed: the page has not stopped, no fold is open, the machine has the page's functions, and the time is within that of
-- a run.
pub record CanPerform {L : Type 0} (m : MachineNow) (p : PageNow L) : Type 0 where
  pub running : p.stopped ≡ None
  pub at_rest : p.state.folds ≡ []
  pub functions : functions_in m ≡ p.functions
  pub in_time : p.state.script.now ≤ 1000000000000

-- By an answer of the port, any where none is asked, the call does this step, and behind it the port is as it was behind its answer.
pub record ByAnswer {L T : Type 0} (k : Keeping T) (seen : L → Seen T) (asks : Option Asking)
    (step : Result ℤ ℤ → Caller Page → State → Done Page) (why : Option NoLine) (how : How)
    (m : MachineNow) (p : PageNow L) (m' : MachineNow) (p' : PageNow L) : Type 0 where
  pub answer : Result ℤ ℤ
  pub kept : Option (List (Result ℤ ℤ))
  pub port : GivesAnswer asks p.state.kept answer kept
  pub runs : Runs k seen (step answer) why how m (with_answer asks kept p) m' p'

-- The port refused: no line was given, and the closures are as they were. The page stopped.
pub record IsRefused {L : Type 0} (asks : Option Asking) (m : MachineNow) (p : PageNow L) (m' : MachineNow) (p' : PageNow L) : Type 0 where
  pub port : RefusesAnswer asks p.state.kept p'.state.kept
  pub refusals : p'.state.refusals ≡ raised p.state.refusals
  pub hosts : p'.state.hosts ≡ p.state.hosts
  pub at_port : p'.state.at_port ≡ p.state.at_port
  pub lines : p'.lines ≡ p.lines
  pub stopped : p'.stopped ≡ Some no_line.OutOfMemory
  pub program : m'.script ≡ m.script
  pub fuel : p'.fuel ≡ p.fuel

-- memory was wanting before the port was asked and before any line
pub record IsWanting {L : Type 0} (m : MachineNow) (p : PageNow L) (m' : MachineNow) (p' : PageNow L) : Type 0 where
  pub port : port_of p'.state ≡ port_of p.state
  pub lines : p'.lines ≡ p.lines
  pub stopped : p'.stopped ≡ Some no_line.OutOfMemory
  pub program : m'.script ≡ m.script
  pub fuel : p'.fuel ≡ p.fuel

-- by what the call answers
abbrev pub PerformsBy : {L T : Type 0} → Keeping T → (seen : L → Seen T) → Option Asking
    → (step : Result ℤ ℤ → Caller Page → State → Done Page) → Result Did PageStop
    → MachineNow → PageNow L → MachineNow → PageNow L → Type 0
PerformsBy k seen asks step (Ok did) m p m' p' = ByAnswer k seen asks step None (did_how {E = NoLine} (Ok did)) m p m' p'
PerformsBy k seen asks step (Err stop.WriteFault) m p m' p' = ByAnswer k seen asks step (Some no_line.Failed) RanOut m p m' p'
PerformsBy k seen asks step (Err stop.Differs) m p m' p' = ByAnswer k seen asks step (Some no_line.Differs) RanOut m p m' p'
PerformsBy k seen asks step (Err stop.NoHost) m p m' p' = IsRefused asks m p m' p'
PerformsBy k seen asks step (Err stop.OutOfMemory) m p m' p' =
    ByAnswer k seen asks step (Some no_line.OutOfMemory) RanOut m p m' p' ⊎ IsWanting m p m' p'

-- the call does this step by what its port answers, which may ask this, and answers how that ended
pub record Performs {L T : Type 0} (k : Keeping T) (seen : L → Seen T) (asks : Option Asking)
    (step : Result ℤ ℤ → Caller Page → State → Done Page) (result : Result Did PageStop)
    (m : MachineNow) (p : PageNow L) (m' : MachineNow) (p' : PageNow L) : Type 0 where
  pub does : PerformsBy k seen asks step result m p m' p'

-- why the page has stopped then
abbrev pub stopped_for : PageStop → Option NoLine
stopped_for stop.WriteFault = Some no_line.Failed
stopped_for stop.Differs = Some no_line.Differs
stopped_for stop.NoHost = Some no_line.OutOfMemory
stopped_for stop.OutOfMemory = Some no_line.OutOfMemory

abbrev pub stopped_by : {X : Type 0} → Result X PageStop → Option NoLine
stopped_by (Ok x) = None
stopped_by (Err why) = stopped_for why
