-- The state of a page: one record of plain lists and numbers.
use Rattle.std.specs.Prelude.{ℕ, suc, Bool, List, [], ◌∷◌, false, if◌then◌else◌, length, Option, Some, None, ℤ, ◌==◌, slice_get, unwrap_or}
use Rattle.page_types.specs.Values.{Value}
use Rattle.page_types.specs.declared.Source.{Source}
use Rattle.page_types.specs.declared.RegKind.{RegKind}
use Rattle.page_types.specs.declared.Priority.{Priority}
use Rattle.page_types.specs.Events.{Stamped, Event}
use Rattle.page_parts.specs.Words.{and_last, numbered}
use Rattle.page_parts.specs.Kinds.{Func}
use Rattle.lang_meaning.specs.Machine.{Machine}
use Rattle.page_parts.specs.Setup.{Arrival, Latency}
use Rattle.page_parts.specs.Channels.{Post}
use Rattle.page_parts.specs.HostClosures.{HostClosure}
use Rattle.page_parts.specs.Notices.{Context, Notices, Noticed}
use Rattle.page_parts.specs.Combinators.{Combine}
use Rattle.page_parts.specs.Timers.{Timers}
use Rattle.page_parts.specs.Frames.{Frames}
use Rattle.page_parts.specs.IdleCallbacks.{Idle}
use Rattle.page_parts.specs.AbortGraph.{Signals}
use Rattle.page_parts.specs.TaskSignals.{Prios}
use Rattle.page_parts.specs.Listeners.{Listener}

-- ---- Ours: what a page keeps; each part names its section

-- what a registration is for: the script itself, or a kind of the trace
pub data Role : Type 0 where
  ScriptRole : Role
  OfKind : RegKind → Role

-- A registration: what it is for, its callbacks, and where it has one its timer id, its promise and the signal that can abort it. A
-- handler that is no function is absent.
-- A handler of `finally` is called with no argument and passes the outcome on.
pub record Registration : Type 0 where
  pub role : Role
  pub callback : Option Func
  pub second_callback : Option Func
  pub timer_id : ℕ
  pub promise : ℕ
  pub signal : Option ℕ
  pub finally : Bool

-- ---- HTML, "Event loops: processing model" and "Generic task sources": tasks

-- a timer of setTimeout or setInterval: its registration, id, handle, level, whether it repeats, and its timeout as given
pub record TimerTask : Type 0 where
  pub registration : ℕ
  pub id : ℕ
  pub handle : ℕ
  pub level : ℕ
  pub repeats : Bool
  pub timeout : ℤ

-- a host closure that was asked for its answer on a number
pub record HostTask : Type 0 where
  pub registration : ℕ
  pub closure : ℕ
  pub number : ℤ

-- the steps of a task: run the script; the task of a timer; abort a signal by its timeout; fire an arrival's event at the window; answer
-- a host; a frame with its timestamp;
-- invoke idle callbacks; an idle timeout by its handle; notify about rejected promises, or about one that was handled after all
pub data Steps : Type 0 where
  RunScript : Steps
  RunTimer : TimerTask → Steps
  TimeOutSignal : ℕ → Steps
  FireAtWindow : List ℕ → Value → Steps
  AnswerHost : HostTask → Steps
  RunFrame : ℕ → Steps
  InvokeIdle : Steps
  IdleTimeout : ℕ → Steps
  NotifyRejected : List ℕ → Steps
  NotifyHandled : ℕ → Steps

-- a task: its number over all sources, its source and its steps
pub record Task : Type 0 where
  pub number : ℕ
  pub source : Source
  pub steps : Steps

-- ---- Prioritized Task Scheduling, "Scheduling Tasks and Continuations"

-- the priority source of a scheduler task: a fixed priority, or a signal's priority at each moment
pub data PrioSource : Type 0 where
  Fixed : Priority → PrioSource
  OfSignal : ℕ → PrioSource

-- a scheduler task: its registration, its priority source, whether it is a continuation, and its enqueue order, which is its task number
pub record SchedTask : Type 0 where
  pub registration : ℕ
  pub source : PrioSource
  pub continuation : Bool
  pub order : ℕ

-- ---- HTML, "Timers": run steps after a timeout: completion steps

-- what an active timer does when it completes: it queues the task of a timer, enqueues a delayed `postTask`, or queues the task that
-- aborts a signal by its timeout
pub data Completion : Type 0 where
  QueueTimer : TimerTask → Completion
  EnqueuePost : (registration : ℕ) → PrioSource → Completion
  QueueSignal : (registration signal : ℕ) → Completion

-- the completion steps of the active timer with this start number
pub record Completing : Type 0 where
  pub start : ℕ
  pub completion : Completion

-- an idle timeout: when it is due, the handle of its callback and its registration
pub record IdleTimer : Type 0 where
  pub due : ℕ
  pub handle : ℕ
  pub registration : ℕ

-- an answer of a host closure that is pending: when it is due and what was asked
pub record HostAnswer : Type 0 where
  pub due : ℕ
  pub task : HostTask

-- Prioritized Task Scheduling, "Scheduling Tasks and Continuations": the scheduling state: the signal that aborts what is scheduled under
-- it, and its priority source
pub record SchedulingState : Type 0 where
  pub abort_source : Option ℕ
  pub prio_source : PrioSource

-- ---- ECMA-262, "Promise.all" and its like

-- a combinator, and the promise that its answer settles
pub record Combining : Type 0 where
  pub combine : Combine
  pub result : ℕ

-- an element of a combinator: the promise into which an item is subscribed and which is never settled, the combinator's number and the
-- place there
pub record Element : Type 0 where
  pub promise : ℕ
  pub combinator : ℕ
  pub place : ℕ

-- the page: all that a run keeps besides the variables and the fuel of the script
pub record Page : Type 0 where
  -- the run
  pub form : ℕ  -- in form 2 a microtask inherits
  pub trace : ℕ  -- the form of the trace
  pub now : ℕ
  pub turns : ℕ
  pub events : List Stamped  -- the last one first
  -- the script
  pub names : List (List ℕ)
  pub calls : List ℕ  -- the registrations whose callbacks are open, the innermost first
  pub level : ℕ  -- the current nesting level
  pub scheduling : Option ℕ  -- the current scheduling state
  pub performing : Bool  -- whether a checkpoint is being performed
  pub registrations : List Registration
  pub script_promises : List ℕ  -- those made by `promise`
  -- promises and jobs
  pub notices : Notices
  pub combinators : List Combining
  pub elements : List Element
  -- tasks
  pub tasks : List Task
  pub sched_tasks : List SchedTask
  pub tasks_made : ℕ
  -- time
  pub timers : Timers
  pub completions : List Completing
  pub idle_timers : List IdleTimer
  pub host_answers : List HostAnswer
  pub arrivals : List Arrival
  -- frames and idle periods
  pub frames : Frames
  pub frames_since : ℕ  -- the moment at which the frame map last became non-empty
  pub last_opportunity : ℕ
  pub refresh_period : ℕ
  pub idle : Idle
  pub last_idle_start : ℕ
  pub idle_period_end : ℕ
  -- signals
  pub signals : Signals Value
  pub prios : Prios
  pub listeners : List Listener
  pub scheduling_states : List SchedulingState
  -- hosts
  pub hosts : List HostClosure
  pub latencies : List Latency
  -- messages
  pub posts : List Post  -- those since the last taking

-- the whole state: the script machine around its page
abbrev pub State : Type 0
State = Machine Page

-- a change of the page, in the whole state
abbrev pub on_page : (Page → Page) → State → State
on_page f m = record m { host = f m.host }

-- what stands for a registration that was never made
abbrev pub no_registration : Registration
no_registration =
    record { role = ScriptRole; callback = None; second_callback = None; timer_id = 0; promise = 0; signal = None; finally = false }

-- registration number r
abbrev pub the_registration : Page → ℕ → Registration
the_registration p r = numbered p.registrations r no_registration

-- the number of the last registration
abbrev pub last_registration : Page → ℕ
last_registration p = length p.registrations

-- one event is written, at the time now
abbrev pub emit : Event → Page → Page
emit e p = record p { events = record { time = p.now; event = e } ∷ p.events }

-- events are written one after another
abbrev pub emit_each : List Event → Page → Page
emit_each [] p = p
emit_each (e ∷ es) p = emit_each es (emit e p)

-- the registration of the innermost open call, which a trace of form 2 tells
abbrev pub caller : Page → Option ℕ
caller p = if p.trace == 2 then Some (unwrap_or (slice_get p.calls 0) 0) else None

-- the nesting level and the scheduling state that are current
abbrev pub context : Page → Context
context p = record { level = p.level; state = p.scheduling }

-- a call on the promises and jobs of the page, with its lines
abbrev pub on_notices : (Notices → Noticed) → Page → Page
on_notices f p = let d = f p.notices in emit_each d.lines (record p { notices = d.notices })

-- a task is queued, with the next number
abbrev pub queue_task : Source → Steps → Page → Page
queue_task source steps p =
    record p {
      tasks_made = suc p.tasks_made;
      tasks = and_last p.tasks
          (record { number = suc p.tasks_made; source = source; steps = steps });
    }
