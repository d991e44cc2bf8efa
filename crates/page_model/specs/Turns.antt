-- Turns and runs.
use Rattle.std.specs.Prelude.{ℕ, zero, suc, ◌/◌, max, Bool, true, false, if◌then◌else◌, not, ◌&&◌, ◌||◌, List, [], ◌∷◌, length, Option, Some, None, nat_lt, nat_le, ◌==◌, slice_get, option_map, reverse, ℤ, Result}
use Rattle.page_types.specs.Values.{no_values}
use Rattle.page_types.specs.Tree.{Program}
use Rattle.page_types.specs.declared.Source.{Source}
use Rattle.page_types.specs.declared.Source.TheVariants.{Dom, Sched}
use Rattle.page_types.specs.declared.End.{End}
use Rattle.page_types.specs.declared.End.TheVariants.{Done as DoneEnd, Fuel as FuelEnd, Clock as ClockEnd}
use Rattle.page_types.specs.Events.{Turn, Wait, EndLine, Stamped}
use Rattle.page_parts.specs.Words.{is_empty, without, least}
use Rattle.lang_meaning.specs.Machine.{Done, Gives, Throws, Returns, OutOfFuel, afterwards, finish, Caller}
use Rattle.lang_meaning.specs.Evaluation.{call_from_outside, first_globals}
use Rattle.page_model.specs.State.{Registration, Task, RunScript, HostTask, SchedTask, ScriptRole, Page, State, on_page, emit}
use Rattle.page_parts.specs.HostClosures.{HostClosure}
use Rattle.page_types.specs.declared.HostMark.TheVariants.{Live, Queued as QueuedMark, Fired, Dropped}
use Rattle.page_parts.specs.Setup.{Setup}
use Rattle.page_parts.specs.Notices.{no_notices}
use Rattle.page_parts.specs.Timers.{no_timers}
use Rattle.page_parts.specs.Frames.{no_frames}
use Rattle.page_parts.specs.IdleCallbacks.{no_idle, waits}
use Rattle.page_model.specs.PageTime.{first_task, idle_moment, idle_step}
use Rattle.page_model.specs.SchedulerTasks.{first_sched, without_sched}
use Rattle.page_model.specs.Invoke.{in_task}
use Rattle.page_model.specs.PageSignals.{host_task_of}
use Rattle.page_model.specs.Operations.{page_operations}
use Rattle.page_model.specs.Tasks.{perform_steps, perform_sched, answer_host, after_task}
use Rattle.page_model.specs.Parallel.{first_item, item_count, parallel}
use Rattle.page_parts.specs.WrittenChoices.{Runnable, Choices}
use Rattle.page_model.specs.Choosing.{Rules, Chosen, chosen_source, chosen_reading, chosen_answer, choice_rules}
use Rattle.page_model.specs.View.{view}

-- ---- HTML, "Event loops: processing model". Ours: fuel, waits, and how a run ends

-- A turn has five steps.
-- 1: the parallel items that are due are taken, but in the first turn.
-- 2: where no task is runnable, the run ends, or the clock is waited for and the turn begins again, or the idle moment has come.
-- 3: the run ends where the time is up or no fuel is left; else a unit of fuel is taken.
-- 4: the first task of the chosen source is performed, and then a microtask checkpoint.
-- 5: where no task is runnable then, an idle period may start.

-- The choice at which a run is stuck, since the rules give none or none that is legal: the source that is served, the reading for a
-- target, the answer to a host task.
-- A run in pieces is stuck at an act that cannot be done then. At the bound of its waits or turns no run is stuck.
pub data Refusal : Type 0 where
  NoSource : Refusal
  NoReading : (target : ℕ) → Refusal
  NoAnswer : HostTask → Refusal
  NoAct : Refusal
  AtBound : Refusal

-- how a turn ends, with what the rules hold then: the run goes on, has ended, or is stuck at a choice
pub data Turned (C : Type 0) : Type 0 where
  GoesOn : State → C → Turned C
  Ended : End → State → C → Turned C
  Stuck : Refusal → State → C → Turned C

-- the run ends, with its line
abbrev pub ends : {C : Type 0} → End → C → State → Turned C
ends end c m = Ended end (on_page (emit (EndLine end)) m) c

-- the end of a task: where fuel ended, the run ends at once
abbrev pub goes_on : {C : Type 0} → C → Done Page → Turned C
goes_on c (Gives v m) = GoesOn m c
goes_on c (Returns v m) = GoesOn m c
goes_on c (Throws v m) = GoesOn m c
goes_on c (OutOfFuel m) = ends FuelEnd c m

-- what is next, where the run goes on
abbrev pub next_turn : {C : Type 0} → Turned C → (State → C → Turned C) → Turned C
next_turn (GoesOn m c) next = next m c
next_turn (Ended end m c) next = Ended end m c
next_turn (Stuck at m c) next = Stuck at m c

-- one way or the other
abbrev pub choose_turned : {C : Type 0} → Bool → (held failed : State → Turned C) → State → Turned C
choose_turned true held failed m = held m
choose_turned false held failed m = failed m

-- a task has been performed: a checkpoint
abbrev pub task_done : {C : Type 0} → Caller Page → C → Done Page → Turned C
task_done call c done = goes_on c (afterwards done (after_task call))

-- a task is taken out of its queue
abbrev pub without_task : ℕ → Page → Page
without_task n p = record p { tasks = without (λ t. t.number == n) p.tasks }

-- the closure of a net task, unless it was dropped
abbrev pub not_dropped : Option HostClosure → Option HostClosure
not_dropped None = None
not_dropped (Some c) = elim c.mark [ Live ↦ Some c | QueuedMark ↦ Some c | Fired ↦ Some c | Dropped ↦ None ]

-- a net task with the answer that was chosen; without a legal one the run is stuck
abbrev pub host_answered : {C : Type 0} → Caller Page → HostTask → Option (Chosen (Result ℤ ℤ) C) → State → C → Turned C
host_answered call t None m c = Stuck (NoAnswer t) m c
host_answered call t (Some a) m c = task_done call a.left (finish (on_page (answer_host t a.choice) m))

-- a net task of a host: a task whose signal was aborted before does nothing
abbrev pub perform_host : {C : Type 0} → Rules C → Caller Page → HostTask → Option HostClosure → State → C → Turned C
perform_host rules call t None m c = task_done call c (finish m)
perform_host rules call t (Some k) m c = host_answered call t (chosen_answer rules k.kind t.number c) m c

-- a task is performed; that of a host answer takes a choice
abbrev pub perform_task : {C : Type 0} → Rules C → Caller Page → Task → Option HostTask → State → C → Turned C
perform_task rules call task None m c = task_done call c (perform_steps (in_task call) task.steps m)
perform_task rules call task (Some t) m c = perform_host rules call t (not_dropped (slice_get m.host.hosts t.closure)) m c

-- the first task of a queue is removed and performed
abbrev pub perform_first : {C : Type 0} → Rules C → Caller Page → Option Task → State → C → Turned C
perform_first rules call None m c = Stuck NoSource m c
perform_first rules call (Some task) m c = perform_task rules call task (host_task_of task.steps) (on_page (without_task task.number) m) c

-- the scheduler task that is next is removed and performed
abbrev pub perform_first_sched : {C : Type 0} → Caller Page → Option SchedTask → State → C → Turned C
perform_first_sched call None m c = Stuck NoSource m c
perform_first_sched call (Some t) m c = task_done call c (perform_sched (in_task call) t (on_page (without_sched t.registration) m))

-- the first task of a source is removed and performed
abbrev pub perform : {C : Type 0} → Rules C → Caller Page → Source → State → C → Turned C
perform rules call Sched m c = perform_first_sched call (first_sched m.host) m c
perform rules call source m c = perform_first rules call (first_task source m.host.tasks) m c

-- the line of a turn
abbrev pub turn_line : Option Source → State → State
turn_line source m = on_page (λ p. emit (Turn p.turns source) p) m

-- the line of the turn, and the first task of the source that was chosen; without a legal one the run is stuck
abbrev pub perform_picked : {C : Type 0} → Rules C → Caller Page → Option (Chosen Source C) → State → C → Turned C
perform_picked rules call None m c = Stuck NoSource m c
perform_picked rules call (Some s) m c = perform rules call s.choice (turn_line (Some s.choice) m) s.left

-- step 4
abbrev pub step_four : {C : Type 0} → Rules C → Caller Page → List Runnable → State → C → Turned C
step_four rules call [] m c = GoesOn (turn_line None m) c
step_four rules call (r ∷ rs) m c = perform_picked rules call (chosen_source rules (r ∷ rs) c) m c

-- one more turn, with so much fuel left
abbrev pub counted_turn : ℕ → State → State
counted_turn left m = on_page (λ p. record p { turns = suc p.turns }) (record m { fuel = left })

-- step 3: a unit of fuel is taken, and then comes step 4
abbrev pub with_turn_fuel : {C : Type 0} → Rules C → Caller Page → ℕ → State → C → Turned C
with_turn_fuel rules call zero m c = ends FuelEnd c m
with_turn_fuel rules call (suc left) m c = step_four rules call (view m.host) (counted_turn left m) c

-- steps 3 and 4: the run ends where the time is up or no fuel is left
abbrev pub step_three : {C : Type 0} → Rules C → Caller Page → ℕ → C → State → Turned C
step_three rules call until c m =
    choose_turned (nat_le until m.host.now) (ends ClockEnd c) (λ m. with_turn_fuel rules call m.fuel m c) m

-- step 5: where no task is runnable now, the idle step is done
abbrev pub step_five : State → State
step_five m = (if is_empty (view m.host) then on_page idle_step else (λ m. m)) m

-- steps 3 to 5
abbrev pub from_step_three : {C : Type 0} → Rules C → Caller Page → ℕ → C → State → Turned C
from_step_three rules call until c m = next_turn (step_three rules call until c m) (λ m c. GoesOn (step_five m) c)

-- whether anything is pending
abbrev pub is_pending : Page → Bool
is_pending p =
    not (is_empty p.arrivals && is_empty p.host_answers && is_empty p.timers.active && is_empty p.idle_timers
    && is_empty p.frames.callbacks) || waits p.idle

-- the least of the next due time, the next rendering opportunity and the idle moment
abbrev pub target : Page → Option ℕ
target p = least (option_map (λ a. a.due) (first_item p)) (idle_moment p)

-- the page at another time
abbrev pub at_time : ℕ → Page → Page
at_time t p = record p { now = t }

-- a wait: the reading that was chosen becomes the time, and the turn begins again; without a legal one the run is stuck
abbrev pub waited : {C : Type 0} → ℕ → Option (Chosen ℕ C) → (State → C → Turned C) → C → State → Turned C
waited t None again c m = Stuck (NoReading t) m c
waited t (Some r) again c m = again (on_page (λ p. emit (Wait t) (at_time r.choice p)) m) r.left

-- step 2 with a target
abbrev pub step_two_at : {C : Type 0} → Rules C → (until t : ℕ) → (State → C → Turned C) → (State → Turned C) → C
    → State → Turned C
step_two_at rules until t again next c m =
    choose_turned (nat_le until m.host.now || nat_le until t)
    (λ m. ends ClockEnd c (on_page (λ p. at_time (max p.now until) p) m))
    (choose_turned (nat_lt m.host.now t) (waited t (chosen_reading rules t c) again c) next) m

-- step 2 with a target, where there is one
abbrev pub step_two_by : {C : Type 0} → Rules C → ℕ → Option ℕ → (State → C → Turned C) → (State → Turned C) → C → State → Turned C
step_two_by rules until None again next c m = ends DoneEnd c m
step_two_by rules until (Some t) again next c m = step_two_at rules until t again next c m

-- step 2, where no task is runnable: `again` is the turn from its beginning, `next` is step 3
abbrev pub step_two : {C : Type 0} → Rules C → ℕ → (State → C → Turned C) → (State → Turned C) → C → State → Turned C
step_two rules until again next c m =
    choose_turned (is_pending m.host) (step_two_by rules until (target m.host) again next c) (ends DoneEnd c) m

-- step 1: the parallel items are taken, but in the first turn
abbrev pub step_one : State → State
step_one m = if m.host.turns == 0 then m else on_page parallel m

-- step 2 where no task is runnable, and else steps 3 to 5
abbrev pub after_step_one : {C : Type 0} → Rules C → Caller Page → ℕ → (State → C → Turned C) → C → State → Turned C
after_step_one rules call until again c m =
    choose_turned (is_empty (view m.host)) (step_two rules until again (from_step_three rules call until c) c)
    (from_step_three rules call until c) m

-- steps 1 and 2, again after each wait; each wait takes an item, opens a frame or comes to the idle moment, so n of them are enough
abbrev pub from_step_one : {C : Type 0} → Rules C → Caller Page → (until zero : ℕ) → State → C → Turned C
from_step_one rules call until zero m c = Stuck AtBound m c
from_step_one rules call until (suc n) m c = after_step_one rules call until (from_step_one rules call until n) c (step_one m)

-- one turn
abbrev pub turn : {C : Type 0} → Rules C → Caller Page → ℕ → State → C → Turned C
turn rules call until m c = from_step_one rules call until (suc (suc (item_count m.host))) m c

-- at most n turns
abbrev pub turns : {C : Type 0} → Rules C → Caller Page → (until zero : ℕ) → State → C → Turned C
turns rules call until zero m c = Stuck AtBound m c
turns rules call until (suc n) m c = next_turn (turn rules call until m c) (turns rules call until n)

-- the script's own body has the number after the last function
abbrev pub the_script : Program → Registration
the_script program =
    record {
      role = ScriptRole;
      callback = Some (record { function = length program.names; bound = no_values });
      second_callback = None;
      timer_id = 0;
      promise = 0;
      signal = None;
      finally = false;
    }

-- the page before the first turn: the script is task 1, on the dom source, and the time is 0
abbrev pub first_page : Program → Setup → List HostClosure → Page
first_page program setup hosts =
    record {
      form = setup.form;
      trace = setup.trace;
      now = 0;
      turns = 0;
      events = [];
      names = program.names;
      calls = [];
      level = 0;
      scheduling = None;
      performing = false;
      registrations = the_script program ∷ [];
      script_promises = [];
      notices = no_notices;
      combinators = [];
      elements = [];
      tasks = record { number = 1; source = Dom; steps = RunScript } ∷ [];
      sched_tasks = [];
      tasks_made = 1;
      timers = no_timers;
      completions = [];
      idle_timers = [];
      host_answers = [];
      arrivals = setup.arrivals;
      frames = no_frames;
      frames_since = 0;
      last_opportunity = 0;
      refresh_period = 1000000 / setup.refresh;
      idle = no_idle;
      last_idle_start = 0;
      idle_period_end = 0;
      signals = [];
      prios = [];
      listeners = [];
      scheduling_states = [];
      hosts = hosts;
      latencies = setup.latencies;
      posts = [];
    }

-- the whole state before the first turn: the global variables are unit
abbrev pub first_state : Program → Setup → List HostClosure → State
first_state program setup hosts =
    record { globals = first_globals program; open_calls = []; fuel = setup.fuel; host = first_page program setup hosts }

-- a whole run, with choices by any rules: each turn takes a unit of fuel
unfoldable pub run_by : {C : Type 0} → Rules C → Program → Setup → List HostClosure → C → Turned C
run_by rules program setup hosts c =
    turns rules (call_from_outside program page_operations) setup.until (suc setup.fuel) (first_state program setup hosts) c

-- a whole run, by recorded lists or by the written policy
unfoldable pub run : Program → Setup → List HostClosure → Choices → Turned Choices
run program setup hosts c = run_by choice_rules program setup hosts c

-- the state in which a turn or run ends
abbrev pub state_of : {C : Type 0} → Turned C → State
state_of (GoesOn m c) = m
state_of (Ended end m c) = m
state_of (Stuck at m c) = m

-- the events of a run
abbrev pub events_of_run : {C : Type 0} → Turned C → List Stamped
events_of_run t = reverse (state_of t).host.events
