-- What a call does of the model's page, and of a step of the script machine around it.
use Rattle.std.specs.Prelude.{◌≡◌, ◌≤◌, ℕ, Bool, if◌then◌else◌, List, [], ◌∷◌, ⊤, Option, None, Result, Ok, Err}
use Rattle.page_types.specs.Values.{Value, UnitValue}
use Rattle.page_types.specs.Events.{Ret}
use Rattle.page_parts.specs.Promises.{Settled, Reaction, has_failed, settled_value}
use Rattle.page_parts.specs.Notices.{WaitingJob}
use Rattle.lang_meaning.specs.Machine.{Done, Gives, Throws, Caller, finish, and_then, take_unit}
use Rattle.page_interp.specs.MachineNow.{MachineNow}
use Rattle.page_interp.specs.declared.machine.Ran.{Ran}
use Rattle.page_interp.specs.declared.machine.Ran.TheVariants as ran
use Rattle.page_model.specs.State.{Page, State, on_page as on_state, the_registration}
use Rattle.page_model.specs.Invoke.{WhenReported, call_begun, call_ended, report_after, call_back, callback_of, invoke, in_checkpoint}
use Rattle.page_model.specs.Invoke.{settle_by, resolve_derived, handler_arguments, with_scheduling, run_job, checkpoint}
use Rattle.trace_text.specs.declared.lines.NoLine.{NoLine}
use Rattle.trace_text.specs.Given.{Keeping, Seen}
use Rattle.page_script.specs.Jobs.{oldest_begun}
use Rattle.page_state.specs.Standing.{port_of}
use Rattle.page_state.specs.PageActs.{at, on_page, Does}
use Rattle.page_host.specs.PageNow.{PageNow}
use Rattle.page_host.specs.StateActs.{How, Gave, Threw, Returned, RanOut, Steps}
use Rattle.page_host.specs.Moments.{moment, calling, CanCall, SamePort}
use Rattle.page_host.specs.Pieces.{threw}
use Rattle.page_host.specs.declared.did.Did.{Did}
use Rattle.page_host.specs.declared.did.Did.TheVariants as did

-- ---- Ours: what a call does

-- the call does this of the page, gives the lines, and leaves the rest; where a line was at fault or memory was wanting, the page stopped
pub record Acts {L T : Type 0} (k : Keeping T) (seen : L → Seen T) (f : Page → Page) (why : Option NoLine)
    (old new : PageNow L) : Type 0 where
  pub does : Does k (at old.state (seen old.lines)) (on_page f) why (at new.state (seen new.lines))
  pub stopped : new.stopped ≡ why
  pub rest : new ≡ record old { state = new.state; lines = new.lines; stopped = new.stopped; stops = new.stops }

-- there is fuel left to go on
abbrev pub IsOn : How → Type 0
IsOn (Gave v) = ⊤
IsOn (Threw v) = ⊤
IsOn (Returned v) = ⊤
IsOn RanOut = ⊥

-- The call does this step, from one moment to the other, and the page stopped where a line was at fault or memory was wanting. Where there
-- is fuel left to go on, functions can be called again. The host port is left alone, also where the page stopped.
pub record Runs {L T : Type 0} (k : Keeping T) (seen : L → Seen T) (step : Caller Page → State → Done Page)
    (why : Option NoLine) (how : How) (m : MachineNow) (p : PageNow L) (m' : MachineNow) (p' : PageNow L) : Type 0 where
  pub steps : Steps k (moment seen m p) (step (calling m)) why how (moment seen m' p')
  pub ready : why ≡ None → IsOn how → CanCall m' p'
  pub port : why ≡ None → SamePort p p'
  pub left : port_of p'.state ≡ port_of p.state
  pub stopped : p'.stopped ≡ why
  pub program : m'.script ≡ m.script
  pub fuel : p'.fuel ≤ p.fuel
  pub dry : why ≡ None → how ≡ RanOut → p'.fuel ≡ 0

-- how jobs and checkpoints end
abbrev pub did_how : {E : Type 0} → Result Did E → How
did_how (Ok did.Finished) = Gave UnitValue
did_how (Ok did.Fuel) = RanOut
did_how (Err e) = RanOut

-- no unit of fuel is left, where a callback ended for want of one
abbrev pub IsDry : Ran → ℕ → Type 0
IsDry (ran.Value v) fuel = ⊤
IsDry (ran.Throw v) fuel = ⊤
IsDry ran.Fuel fuel = fuel ≡ 0

-- the same of work that the page does by itself
abbrev pub IsDried : Did → ℕ → Type 0
IsDried did.Finished fuel = ⊤
IsDried did.Fuel fuel = fuel ≡ 0

-- P, where all of it was done
abbrev pub IfFinished : {E : Type 0} → Result Did E → Type 0 → Type 0
IfFinished (Ok did.Finished) P = P
IfFinished (Ok did.Fuel) P = ⊤
IfFinished (Err e) P = ⊤

-- ---- HTML, "Calling scripts"; "Event loops: processing model": perform a microtask checkpoint

-- the callback of a registration is called, with its line; its end is not yet told
abbrev pub called : (r : ℕ) (second : Bool) (args : List Value) → Caller Page → State → Done Page
called r second args call m = call_back call (callback_of second (the_registration m.host r)) args (on_state (call_begun r) m)

-- something is done to the page, and then a checkpoint is performed
abbrev pub checkpoint_after : (Page → Page) → Caller Page → State → Done Page
checkpoint_after f call m = checkpoint call (on_state f m)

-- in a task, behind a callback that returned this value
abbrev pub ended_in_task : Value → Caller Page → State → Done Page
ended_in_task v call m = and_then (checkpoint_after (call_ended Ret) call m) (λ u m. Gives v m)

-- in a task, behind a callback that threw this value
abbrev pub threw_in_task : WhenReported → Value → Caller Page → State → Done Page
threw_in_task when v call m = and_then (checkpoint_after (threw when v) call m) (λ u m. Throws v (on_state (report_after when v) m))

-- what a handler gets: the value or the reason; that of `finally` gets none
abbrev pub arguments_of : (finally : Bool) → Settled → List Value
arguments_of finally how = if finally then [] else settled_value how ∷ []

-- ECMA-262, "NewPromiseReactionJob": the handler of a reaction is called in the scheduling state of the reaction, and settles the derived
-- promise
abbrev pub handled : (r : ℕ) → Reaction → Settled → Caller Page → State → Done Page
handled r x how call m =
    settle_by (resolve_derived (the_registration m.host r) x.into how) x.into
    (invoke (in_checkpoint call) r (has_failed how) (handler_arguments (the_registration m.host r) how) (with_scheduling x.state m))

-- the first of these jobs
abbrev pub run_first : Caller Page → List WaitingJob → State → Done Page
run_first call [] m = finish m
run_first call (job ∷ others) m = run_job call job.what m

-- the oldest job takes a unit of fuel, leaves the queue and runs
abbrev pub run_next : Caller Page → State → Done Page
run_next call m = take_unit m (λ m. run_first call m.host.notices.jobs (on_state oldest_begun m))
