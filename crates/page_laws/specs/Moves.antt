-- What happens to a page, move by move: each move changes it once, with its lines.
use Rattle.std.specs.Prelude.{◌≡◌, ◌⊎◌, ◌≤◌, ◌<◌, ◌+◌, ◌-◌, ◌*◌, ℕ, suc, ℤ, Bool, true, false, not, ◌&&◌, if◌then◌else◌, List, [], ◌∷◌, length, nat_lt, Option, Some, None, Result, ◌==◌, ◌++◌, ◌||◌, slice_get, slice_set}
use Rattle.page_types.specs.declared.End.TheVariants.{Done, Fuel}
use Rattle.page_types.specs.Events.{QueueName, Event, Ret, Throw, Report, Log, Turn, Arm, Due, Drop, IdleLine, Frame, Reg, Enq, Prio, Abort, Host, Unhandled, Handled, EndLine, Send}
use Rattle.page_types.specs.declared.Source.{Source}
use Rattle.page_types.specs.declared.Source.TheVariants.{Net, Sched, Timer, Idle as IdleSource}
use Rattle.page_parts.specs.Promises.{Settled, Reaction, React}
use Rattle.page_parts.specs.Promises as Promises
use Rattle.page_parts.specs.Notices.{Todo, Micro, OfPromise, WaitingJob, changed, subscribe_promise, queue_micro, note_outstanding}
use Rattle.page_parts.specs.Promises.{the_promise}
use Rattle.page_model.specs.State.{Role, ScriptRole, OfKind, Registration, no_registration, Page, Task, TimerTask, HostTask, Steps}
use Rattle.page_model.specs.State.{RunScript, RunTimer, AnswerHost, InvokeIdle, IdleTimeout, PrioSource, SchedTask, Completion, Completing}
use Rattle.page_model.specs.State.{QueueTimer, EnqueuePost, QueueSignal, HostAnswer, IdleTimer, emit, on_notices, context}
use Rattle.page_model.specs.PagePromises.{new_promise}
use Rattle.page_model.specs.PageTime.{first_task, registration_with_id, completion_of, without_frame, deadline, without_idle, idle_callback}
use Rattle.page_model.specs.SchedulerTasks.{queue_name, with_state, first_sched, without_sched}
use Rattle.page_parts.specs.Kinds.{Func}
use Rattle.page_model.specs.Operations.{frame_requested, queued_mark}
use Rattle.page_model.specs.PageSignals.{drop_closure, task_in_answer, task_in_net, waiting_answer, waiting_net_task, is_aborted, is_aborted_source}
use Rattle.page_parts.specs.Words.{and_last, without, numbered, is_empty, is_there}
use Rattle.page_parts.specs.IdleCallbacks.{Idle, request, cancel, started, waiting_callback}
use Rattle.page_parts.specs.HostClosures.{HostClosure, fired}
use Rattle.page_types.specs.declared.HostMark.TheVariants.{Live}
use Rattle.page_model.specs.Tasks.{background, post_state}
use Rattle.page_model.specs.Turns.{is_pending, without_task, not_dropped}
use Rattle.page_model.specs.View.{view}
use Rattle.page_parts.specs.Timers as Timers
use Rattle.page_parts.specs.Timers.{Timers, ActiveTimer, Armed, with_armed, run_after, clear, has_id, is_live}
use Rattle.page_parts.specs.Frames.{Callback, callback_in}
use Rattle.page_parts.specs.Listeners.{Target, Listener, add, off, is_listening}
use Rattle.page_model.specs.Numbers.{IsGiven, IsFor, made_by, timer_role, is_timer_role, is_abortable}
use Rattle.page_model.specs.Invoke.{register_as, call_begun, call_ended, job_begun}
use Rattle.page_types.specs.declared.RegKind.{RegKind}
use Rattle.page_types.specs.declared.RegKind.TheVariants as kind
use Rattle.page_parts.specs.TaskSignals.{Prios}
use Rattle.page_types.specs.declared.Priority.{Priority}
use Rattle.page_laws.specs.Scheduling.{BeginsWell, HasPriority, PrioSet, SchedulingAfter, Sourced, scheduling_of}
use Rattle.page_laws.specs.SchedulerLaws.{is_posted}
use Rattle.page_laws.specs.TimerLaws.{is_delay, period_start, was_done}
use Rattle.page_types.specs.Values.{Value}
use Rattle.page_parts.specs.AbortGraph.{Signals, the_signal}
use Rattle.page_parts.specs.AbortGraph as AbortGraph
use Rattle.page_laws.specs.History.{was_called, was_dropped, is_host, is_timer, is_delayed, History, is_frame, is_idle, is_period}
use Rattle.page_laws.specs.History.{is_reg_of, since_last, some_line, was_due, open_registrations, is_rest, is_sched_turn, is_scheduled}

-- ---- Ours: kinds of lines

-- a line that tells nothing of calls, promises, jobs, frames, idle periods, cancels, answers of hosts, and of what was armed, due or
-- enqueued, and does not stand between turns
abbrev pub is_aside : Event → Bool
is_aside (Report bs) = true
is_aside (Log bs) = true
is_aside (Abort s) = true
is_aside (Unhandled n) = true
is_aside (Handled n) = true
is_aside (Send n bs) = true
is_aside (EndLine Fuel) = true
is_aside e = false

-- the end of a call
abbrev pub is_end : Event → Bool
is_end Ret = true
is_end (Throw bs) = true
is_end e = false

-- ---- Ours: frames

-- whether a line leaves registration r among those that were made before the last frame line, where none between turns stands behind it
abbrev pub marked_by : (r : ℕ) → Event → (earlier : Bool) → Bool
marked_by r (Frame t) earlier = true
marked_by r (Reg q kind by) earlier = if q == r then false else earlier
marked_by r e earlier = not (is_rest e) && earlier

-- a frame line stands behind the last line between turns, and no line registers r behind it
abbrev pub marked : History → ℕ → Bool
marked [] r = false
marked (e ∷ past) r = marked_by r e.event (marked past r)

-- a member of a list
abbrev pub IsIn : {X : Type 0} → X → List X → Type 0
IsIn x [] = ⊥
IsIn x (y ∷ ys) = (x ≡ y) ⊎ IsIn x ys

-- no frame callback waits that was requested before a frame line since the last line between turns
abbrev pub FrameIsOver : Page → Type 0
FrameIsOver p = (c : Callback) → IsIn c p.frames.callbacks → marked p.events c.registration ≡ false

-- the callback waits, none that waits was registered before it, and it was requested before the frame line of the turn
abbrev pub IsDrawnNext : (key : ℕ) → Callback → Page → Type 0
IsDrawnNext key c p =
    callback_in p.frames.callbacks key ≡ Some c
    × ((d : Callback) → IsIn d p.frames.callbacks → c.registration ≤ d.registration) × marked p.events c.registration ≡ true

-- ---- Ours: idle periods

-- a task with these steps waits
abbrev pub HasSteps : Steps → List Task → Type 0
HasSteps steps [] = ⊥
HasSteps steps (t ∷ ts) = (t.steps ≡ steps) ⊎ HasSteps steps ts

-- steps that call idle callbacks
abbrev pub is_idle_task : Steps → Bool
is_idle_task InvokeIdle = true
is_idle_task (IdleTimeout handle) = true
is_idle_task steps = false

-- the last period goes on: it began at the last idle period start, and what is runnable was registered before it
pub record PeriodGoesOn (p : Page) : Type 0 where
  pub start : period_start p.events ≡ Some p.last_idle_start
  pub runnable : (c : Callback) → IsIn c p.idle.runnable → some_line (is_reg_of c.registration) (since_last is_period p.events) ≡ false
  pub given : (c : Callback) → IsIn c p.idle.runnable → c.registration ≤ length p.registrations

-- ---- Ours: where registrations wait

-- tasks, and how many task numbers were given, timers with their completion steps, idle callbacks and idle timeouts, listeners, scheduler
-- tasks and pending answers of hosts; and the host closures
pub record Places : Type 0 where
  pub tasks : List Task
  pub tasks_made : ℕ
  pub timers : Timers
  pub completions : List Completing
  pub idle : Idle
  pub idle_timers : List IdleTimer
  pub listeners : List Listener
  pub sched_tasks : List SchedTask
  pub host_answers : List HostAnswer
  pub hosts : List HostClosure

-- the completion steps that are left when those of this start are done
abbrev pub completions_but : ℕ → List Completing → List Completing
completions_but start cs = without (λ c. c.start == start) cs

-- those of a page
abbrev pub places : Page → Places
places p =
    record {
      tasks = p.tasks;
      tasks_made = p.tasks_made;
      timers = p.timers;
      completions = p.completions;
      idle = p.idle;
      idle_timers = p.idle_timers;
      listeners = p.listeners;
      sched_tasks = p.sched_tasks;
      host_answers = p.host_answers;
      hosts = p.hosts;
    }

-- with a task more
abbrev pub with_task : Task → Places → Places
with_task t x = record x { tasks = and_last x.tasks t; tasks_made = t.number }

-- with another map of timers, and the completion steps of this start more
abbrev pub with_timer : Timers → (start : ℕ) → Completion → Places → Places
with_timer timers start c x = record x { timers = timers; completions = and_last x.completions (record { start = start; completion = c }) }

-- without the active timer of this start and its completion steps
abbrev pub without_start : ℕ → Places → Places
without_start start x = record x { timers = Timers.completed start x.timers; completions = completions_but start x.completions }

-- without the pending answer of this registration
abbrev pub without_answer : ℕ → Places → Places
without_answer r x = record x { host_answers = without (λ a. a.task.registration == r) x.host_answers }

-- without the scheduler task of this registration
abbrev pub without_queued : ℕ → Places → Places
without_queued r x = record x { sched_tasks = without (λ t. t.registration == r) x.sched_tasks }

-- with a scheduler task more
abbrev pub with_queued : SchedTask → Places → Places
with_queued t x = record x { sched_tasks = and_last x.sched_tasks t; tasks_made = t.order }

-- without the task of this number
abbrev pub without_number : ℕ → Places → Places
without_number number x = record x { tasks = without (λ t. t.number == number) x.tasks }

-- the closures, where number k was fired
abbrev pub fired_at : ℕ → Option HostClosure → List HostClosure → List HostClosure
fired_at k None hosts = hosts
fired_at k (Some c) hosts = slice_set hosts k (fired c)

-- with closure number k fired
abbrev pub host_fired : ℕ → Places → Places
host_fired k x = record x { hosts = fired_at k (slice_get x.hosts k) x.hosts }

-- steps that call nothing that was registered for one call, and answer no host
abbrev pub is_free : Steps → Bool
is_free RunScript = false
is_free (RunTimer t) = false
is_free (AnswerHost t) = false
is_free steps = true

-- the registration whose steps an active timer completes with
abbrev pub completes_for : Completion → ℕ
completes_for (QueueTimer t) = t.registration
completes_for (EnqueuePost r source) = r
completes_for (QueueSignal r s) = r

-- what initialising a timer gave: the next start number and the next unique handle, with the id of its registration
pub record IsArmedNext (made : List Registration) (x : Places) (a : Armed) (t : TimerTask) : Type 0 where
  pub same_id : a.id ≡ t.id
  pub same_handle : t.handle ≡ a.handle
  pub own : (numbered made t.registration no_registration).timer_id ≡ t.id
  pub handle : a.handle ≡ suc x.timers.handles_made
  pub start : a.start ≡ suc x.timers.starts_made

-- registration r waits in no active timer, no task of a timer, no idle timeout and no pending answer
pub record IsUnarmed (r : ℕ) (x : Places) : Type 0 where
  pub completions : (c : Completing) → IsIn c x.completions → completes_for c.completion ≡ r → ⊥
  pub tasks : (t : TimerTask) → HasSteps (RunTimer t) x.tasks → t.registration ≡ r → ⊥
  pub idle_timers : (t : IdleTimer) → IsIn t x.idle_timers → t.registration ≡ r → ⊥
  pub host_answers : (a : HostAnswer) → IsIn a x.host_answers → a.task.registration ≡ r → ⊥

-- what a registration is for
abbrev pub role_at : List Registration → ℕ → Role
role_at made r = (numbered made r no_registration).role

-- a change of the places, where these registrations were made
pub data PlaceChange (made : List Registration) : Places → Places → Type 0 where
  -- none
  places_stay : {x : Places} → PlaceChange made x x
  -- a task is queued that calls nothing by itself; a task leaves its queue
  task_queued : {x : Places} (t : Task) → is_free t.steps ≡ true → is_idle_task t.steps ≡ false → PlaceChange made x (with_task t x)
  task_left : {x : Places} (number : ℕ) → PlaceChange made x (without_number number x)
  -- an interval whose id is in the map is armed again, and the timer of a signal is armed
  armed_again : {x : Places} (a : Armed) (t : TimerTask) → (numbered made t.registration no_registration).role ≡ OfKind kind.Interval
      → has_id t.id x.timers ≡ true → IsArmedNext made x a t
      → PlaceChange made x (with_timer (with_armed (Some t.id) a x.timers) a.start (QueueTimer t) x)
  signal_armed : {x : Places} (ms now r s : ℕ)
      → PlaceChange made x (with_timer (run_after ms now x.timers) (suc x.timers.starts_made) (QueueSignal r s) x)
  -- a timer's id leaves the map
  id_cleared : {x : Places} (id : ℕ) → PlaceChange made x (record x { timers = clear id x.timers })
  -- an idle timeout is started, for the callback of its handle
  idle_armed : {x : Places} (t : IdleTimer) → t.handle ≤ x.idle.made
      → ((c : Callback) → IsIn c (x.idle.runnable ++ x.idle.pending) → c.handle ≡ t.handle → c.registration ≡ t.registration)
      → PlaceChange made x (record x { idle_timers = and_last x.idle_timers t })
  -- an active timer without steps completes
  completed : {x : Places} (start : ℕ) → completion_of x.completions start ≡ None → PlaceChange made x (without_start start x)
  -- the pending idle callbacks become runnable, and the task is queued that invokes them
  idle_started : {x : Places} → PlaceChange made x (record x { idle = started x.idle })
  idle_queued : {x : Places} (t : Task) → t.steps ≡ InvokeIdle → t.source ≡ IdleSource → PlaceChange made x (with_task t x)

-- steps that do nothing any more where a task leaves its queue without a call or an answer: those of a timer whose id has another handle,
-- or none, and those of a host whose closure was dropped
abbrev pub LeavesAlone : Steps → Timers → List HostClosure → Type 0
LeavesAlone (RunTimer t) timers hosts = is_live t.id t.handle timers ≡ false
LeavesAlone (AnswerHost t) timers hosts = is_there (not_dropped (slice_get hosts t.closure)) ≡ false
LeavesAlone steps timers hosts = Unit {0}

-- a timeout that has this id was called
pub record IsCleared (id : ℕ) (p : Page) : Type 0 where
  pub registration : ℕ
  pub role : role_at p.registrations registration ≡ OfKind kind.Timeout
  pub own : (numbered p.registrations registration no_registration).timer_id ≡ id
  pub called : was_called p.events registration ≡ true

-- what holds where the places are changed so: a new task has the next number; a task that leaves has nothing to do, and an id that leaves
-- is that of a timer that was called; what is armed waits nowhere and is for its kind; the pending idle callbacks become runnable
-- in the period that goes on, and the task that invokes them is queued in it
abbrev pub IsMade : {made : List Registration} {x y : Places} → PlaceChange made x y → Page → Type 0
IsMade (armed_again a t role there next) p = IsUnarmed t.registration (places p)
IsMade (signal_armed ms now r s) p = role_at p.registrations r ≡ OfKind kind.Signal × IsUnarmed r (places p)
IsMade (idle_armed t most own) p =
    role_at p.registrations t.registration ≡ OfKind kind.Idle × IsUnarmed t.registration (places p)
    × ((u : IdleTimer) → IsIn u p.idle_timers → u.handle ≡ t.handle → ⊥)
IsMade idle_started p =
    (c : Callback) → IsIn c p.idle.pending
    → some_line (is_reg_of c.registration) (since_last is_period p.events) ≡ false × c.registration ≤ length p.registrations
IsMade (idle_queued t e from) p = PeriodGoesOn p × t.number ≡ suc p.tasks_made
IsMade (task_queued t free plain) p = t.number ≡ suc p.tasks_made
IsMade (task_left number) p = (t : Task) → IsIn t p.tasks → t.number ≡ number → LeavesAlone t.steps p.timers p.hosts
IsMade (id_cleared id) p = IsCleared id p
IsMade c p = Unit {0}

-- a registration's own timer id, 0 where it has none
abbrev pub id_at : List Registration → ℕ → ℕ
id_at made r = (numbered made r no_registration).timer_id

-- the signal that can abort it
abbrev pub signal_at : List Registration → ℕ → Option ℕ
signal_at made r = (numbered made r no_registration).signal

-- how registration r is due: an active timer completes, whose task is queued, or a delayed post does nothing, or the task of a timeout
-- signal comes; an idle timeout is over, or a pending answer of a host comes, and its task is queued
pub data DueChange (made : List Registration) (r : ℕ) : Places → Places → Type 0 where
  timer_due : {x : Places} (start number : ℕ) (source : Source) (t : TimerTask)
      → completion_of x.completions start ≡ Some (QueueTimer t) → t.registration ≡ r → role_at made r ≡ timer_role t.repeats
      → DueChange made r x (with_task (record { number = number; source = source; steps = RunTimer t }) (without_start start x))
  delay_due : {x : Places} (start : ℕ) (source : PrioSource) → completion_of x.completions start ≡ Some (EnqueuePost r source)
      → role_at made r ≡ OfKind kind.Post → DueChange made r x (without_start start x)
  signal_due : {x : Places} (start s : ℕ) → completion_of x.completions start ≡ Some (QueueSignal r s)
      → role_at made r ≡ OfKind kind.Signal → DueChange made r x (without_start start x)
  idle_due : {x : Places} (t : IdleTimer) (number : ℕ) (source : Source) → IsIn t x.idle_timers → t.registration ≡ r
      → role_at made r ≡ OfKind kind.Idle
      → DueChange made r x
      (with_task (record { number = number; source = source; steps = IdleTimeout t.handle })
      (record x { idle_timers = without (λ u. u.handle == t.handle) x.idle_timers }))
  answer_due : {x : Places} (before : List HostAnswer) (a : HostAnswer) (after : List HostAnswer) (number : ℕ) (source : Source)
      → x.host_answers ≡ before ++ a ∷ after → a.task.registration ≡ r → role_at made r ≡ OfKind kind.Host
      → DueChange made r x
      (with_task (record { number = number; source = source; steps = AnswerHost a.task }) (without_answer a.task.registration x))

-- the first of the active timers of least due time: those before it are due later, and those behind it no earlier
abbrev pub IsFirstDue : ActiveTimer → List ActiveTimer → Type 0
IsFirstDue t [] = ⊥
IsFirstDue t (b ∷ bs) = (t ≡ b × ((c : ActiveTimer) → IsIn c bs → t.due ≤ c.due)) ⊎ (t.due < b.due × IsFirstDue t bs)

-- the active timer of this start completes first, and is due by now
pub record IsTimerDue (x : Places) (start now : ℕ) : Type 0 where
  pub timer : ActiveTimer
  pub first : IsFirstDue timer x.timers.active
  pub own : timer.start ≡ start
  pub time : timer.due ≤ now

-- what is due so is due by now, and its task has the next number; that of a timer comes from the timers' source,
-- that of a host from Net; a delayed post that does nothing was called or dropped
abbrev pub IsDueBy : {made : List Registration} {r : ℕ} {x y : Places} → (now : ℕ) → History → DueChange made r x y → Type 0
IsDueBy {x = x} now past (timer_due start number source t e i role) = IsTimerDue x start now × number ≡ suc x.tasks_made × source ≡ Timer
IsDueBy {r = r} {x = x} now past (delay_due start source e role) = IsTimerDue x start now × was_done past r ≡ true
IsDueBy {x = x} now past (signal_due start s e role) = IsTimerDue x start now
IsDueBy {x = x} now past (idle_due t number source i e role) = t.due ≤ now × number ≡ suc x.tasks_made
IsDueBy {x = x} now past (answer_due before a after number source e i role) = a.due ≤ now × number ≡ suc x.tasks_made × source ≡ Net

-- what waits for its due time in an active timer
abbrev pub is_delayed_role : Role → Bool
is_delayed_role ScriptRole = false
is_delayed_role (OfKind k) = is_delayed k

-- registration r waits for this due time: in an active timer, in an idle timeout, or in a pending answer of a host
pub data ArmedAt (made : List Registration) (x : Places) (r due : ℕ) : Type 0 where
  by_timer : (a : ActiveTimer) (c : Completion) → IsIn a x.timers.active → a.due ≡ due → completion_of x.completions a.start ≡ Some c
      → completes_for c ≡ r → is_delayed_role (role_at made r) ≡ true → ArmedAt made x r due
  by_idle : (t : IdleTimer) → IsIn t x.idle_timers → t.due ≡ due → t.registration ≡ r → role_at made r ≡ OfKind kind.Idle
      → ArmedAt made x r due
  by_host : (a : HostAnswer) → IsIn a x.host_answers → a.due ≡ due → a.task.registration ≡ r → role_at made r ≡ OfKind kind.Host
      → ArmedAt made x r due

-- a timer is armed for a whole number of milliseconds, and from level 7 on for 4 at least; anything else is armed with level 0
pub record IsArmedWell (p : Page) (r due level : ℕ) : Type 0 where
  pub timer : is_timer_role (role_at p.registrations r) ≡ true → p.now ≤ due × is_delay (due - p.now) level ≡ true
  pub other : is_timer_role (role_at p.registrations r) ≡ false → level ≡ 0

-- how registration r leaves its place by a cancel
pub data Dropping (made : List Registration) (r : ℕ) : Places → Places → Type 0 where
  -- a timer: its id leaves the map
  timer_dropped : {x : Places} (id : ℕ) → has_id id x.timers ≡ true → r ≡ registration_with_id id 1 made
      → (1 ≤ r → id_at made r ≡ id × is_timer_role (role_at made r) ≡ true)
      → Dropping made r x (record x { timers = clear id x.timers })
  -- an idle callback leaves the lists, and a listener its list
  idle_dropped : {x : Places} (handle : ℕ) (c : Callback) → waiting_callback handle x.idle ≡ Some c → r ≡ c.registration
      → role_at made r ≡ OfKind kind.Idle → Dropping made r x (record x { idle = cancel handle x.idle })
  listener_dropped : {x : Places} → is_listening r x.listeners ≡ true → role_at made r ≡ OfKind kind.Listener
      → Dropping made r x (record x { listeners = off r x.listeners })

-- what was posted, continues or waits for a host is dropped: its scheduler task and its pending answer go, and the closure that was
-- asked, whether its answer is pending or due, is marked
abbrev pub without_aborted : ℕ → Page → Places
without_aborted r p =
    record (without_queued r (without_answer r (places p))) {
      hosts = drop_closure (task_in_answer (waiting_answer r p)) (drop_closure (task_in_net (waiting_net_task r p)) p.hosts);
    }

-- what initialising a new timer gave: an id that no registration has, the next start number and the next unique handle
pub record IsFirstArmed (made : List Registration) (x : Places) (a : Armed) (t : TimerTask) : Type 0 where
  pub fresh : (q : ℕ) → id_at made q ≡ a.id → ⊥
  pub same_id : t.id ≡ a.id
  pub same_handle : t.handle ≡ a.handle
  pub handle : a.handle ≡ suc x.timers.handles_made
  pub start : a.start ≡ suc x.timers.starts_made

-- where new registration r waits first, from the places before; these were made before it, and these are the priorities
pub data FirstPlace (made : List Registration) (prios : Prios) (r : ℕ) : Places → Places → Type 0 where
  -- at none of these: the timer of a signal, which is armed next
  nowhere : {x : Places} → FirstPlace made prios r x x
  -- among the listeners
  at_listener : {x : Places} (target : Target) (name : List ℕ) (q : ℕ) → q ≡ r
      → FirstPlace made prios r x (record x { listeners = add target name q x.listeners })
  -- in the completion steps of its timer: a timer, with an id that no other registration has, a delayed post
  at_timer : {x : Places} (a : Armed) (t : TimerTask) → t.registration ≡ r → IsFirstArmed made x a t
      → FirstPlace made prios r x (with_timer (with_armed None a x.timers) a.start (QueueTimer t) x)
  at_delay : {x : Places} (ms now q : ℕ) (source : PrioSource) → q ≡ r → HasPriority prios source
      → FirstPlace made prios r x (with_timer (run_after ms now x.timers) (suc x.timers.starts_made) (EnqueuePost q source) x)
  -- among the idle callbacks
  at_idle : {x : Places} (q : ℕ) → q ≡ r → FirstPlace made prios r x (record x { idle = request q x.idle })
  -- among the pending answers of hosts, where the closure was not asked before
  at_host : {x : Places} (c : HostClosure) (a : HostAnswer) → a.task.registration ≡ r → slice_get x.hosts a.task.closure ≡ Some c
      → c.mark ≡ Live
      → FirstPlace made prios r x
      (record x { hosts = slice_set x.hosts a.task.closure (queued_mark c); host_answers = and_last x.host_answers a })

-- what waits from its registration on
abbrev pub is_placed : RegKind → Bool
is_placed kind.Timeout = true
is_placed kind.Interval = true
is_placed kind.Frame = true
is_placed kind.Idle = true
is_placed kind.Post = true
is_placed kind.Yield = true
is_placed kind.Micro = true
is_placed kind.Host = true
is_placed k = false

-- whether a first place is one for a registration of this kind; frame callbacks, continuations and microtasks have none of these
abbrev pub fits_first : {made : List Registration} {prios : Prios} {r : ℕ} {x y : Places} → RegKind → FirstPlace made prios r x y → Bool
fits_first k nowhere = not (is_placed k)
fits_first k (at_listener target name q e) = not (is_placed k)
fits_first k (at_timer a t e first) = is_timer k
fits_first k (at_delay ms now q source e h) = is_posted k
fits_first k (at_idle q e) = is_idle k
fits_first k (at_host c a e there live) = is_host k

-- registration r waits in an active timer, as a delayed post
pub record DelayWaits (r : ℕ) (cs : List Completing) : Type 0 where
  pub steps : Completing
  pub there : IsIn steps cs
  pub source : PrioSource
  pub own : steps.completion ≡ EnqueuePost r source

-- what signal s can abort, in order: its abort algorithms
abbrev pub algorithms_at : Signals Value → ℕ → List ℕ
algorithms_at ss s = (the_signal ss s).algorithms

-- the signal, if there is one, is not aborted, and registration r is among its abort algorithms
abbrev pub IsAbortable : ℕ → Signals Value → Option ℕ → Type 0
IsAbortable r ss None = Unit {0}
IsAbortable r ss (Some s) = IsIn r (algorithms_at ss s) × AbortGraph.is_aborted ss s ≡ false

-- a timer's registration has the timer's id, and a delayed post can be aborted by its signal
abbrev pub FirstOwns : {made : List Registration} {prios : Prios} {r : ℕ} {x y : Places}
    → FirstPlace made prios r x y → Registration → Signals Value → Type 0
FirstOwns (at_timer a t e first) new ss = new.timer_id ≡ a.id
FirstOwns {r = r} (at_delay ms now q source e h) new ss = IsAbortable r ss new.signal
FirstOwns u new ss = Unit {0}

-- whether a first place is among the idle callbacks
abbrev pub IsAtIdle : {made : List Registration} {prios : Prios} {r : ℕ} {x y : Places} → FirstPlace made prios r x y → Type 0
IsAtIdle (at_idle q e) = Unit {0}
IsAtIdle u = ⊥

-- each signal that was aborted is so still
abbrev pub StaysAborted : (p q : Page) → Type 0
StaysAborted p q = (s : ℕ) → is_aborted p s ≡ true → is_aborted q s ≡ true

-- where it waits as a delayed post, it was called or dropped
abbrev pub IsReleased : ℕ → Page → Type 0
IsReleased r p = DelayWaits r p.completions → was_done p.events r ≡ true

-- What becomes of the signals: what each can abort stays, but for what is released, and no signal that can abort something is aborted; or
-- reasons are set on signals.
pub data SignalsChange (p : Page) (after : Signals Value) : Type 0 where
  calmly : ((s r : ℕ) → IsIn r (algorithms_at p.signals s)
      → IsReleased r p
      ⊎ (IsIn r (algorithms_at after s) × (AbortGraph.is_aborted after s ≡ true → AbortGraph.is_aborted p.signals s ≡ true)))
      → SignalsChange p after
  marking : SignalsChange p after

-- promises, jobs, the flag of the checkpoint, lines, registrations, frame callbacks, open calls, the nesting level and the form, priorities
-- and scheduling states are as in p, and what was aborted is so still
pub record AsBefore (p q : Page) : Type 0 where
  pub notices : q.notices ≡ p.notices
  pub performing : q.performing ≡ p.performing
  pub events : q.events ≡ p.events
  pub registrations : q.registrations ≡ p.registrations
  pub frames : q.frames ≡ p.frames
  pub calls : q.calls ≡ p.calls
  pub aborted : StaysAborted p q
  pub watched : SignalsChange p q.signals
  pub level : q.level ≡ p.level
  pub form : q.form ≡ p.form
  pub scheduling : SchedulingAfter (scheduling_of p) (scheduling_of q)

-- scheduler task t is enqueued next, in this queue of its line
pub record IsNext (p q : Page) (t : SchedTask) (queue : QueueName) : Type 0 where
  pub order : t.order ≡ suc p.tasks_made
  pub made : suc p.tasks_made ≤ q.tasks_made
  pub named : queue ≡ queue_name t.source

-- timer t's task is among these, from the timers' source
pub record InTask (t : TimerTask) (ts : List Task) : Type 0 where
  pub task : Task
  pub there : IsIn task ts
  pub steps : task.steps ≡ RunTimer t
  pub source : task.source ≡ Timer

-- timer t waits to be due, or its task waits
pub data Awaits (t : TimerTask) (cs : List Completing) (ts : List Task) : Type 0 where
  in_steps : (c : Completing) → IsIn c cs → c.completion ≡ QueueTimer t → Awaits t cs ts
  in_task : InTask t ts → Awaits t cs ts

-- registration r waits as a timer
pub record TimerWaits (r : ℕ) (cs : List Completing) (ts : List Task) : Type 0 where
  pub timer : TimerTask
  pub own : timer.registration ≡ r
  pub place : Awaits timer cs ts

-- each interval that was not dropped waits
abbrev pub IntervalsWait : Page → Type 0
IntervalsWait p =
    (r : ℕ) → 1 ≤ r → role_at p.registrations r ≡ OfKind kind.Interval
    → was_dropped p.events r ≡ true ⊎ TimerWaits r p.completions p.tasks

-- no task is runnable and nothing is pending, and each interval waits that was not dropped
abbrev pub IsAtEnd : Page → Type 0
IsAtEnd p = is_empty (view p) ≡ true × is_pending p ≡ false × IntervalsWait p

-- ---- Ours: a change, with which no call begins or ends

-- promise number n is changed so, with its lines and jobs
abbrev pub promise_changes : ℕ → Promises.Change → Page → Page
promise_changes n c p = on_notices (λ s. changed (context p) p.names n c s) p

pub data PageChange : Page → Page → Type 0 where
  -- something else than promises, jobs, lines, registrations, frame callbacks and the checkpoint is changed, and the places so
  elsewhere : {p q : Page} (c : PlaceChange p.registrations (places p) (places q)) → AsBefore p q → IsMade c p → PageChange p q
  -- a line that tells nothing of promises and jobs
  told : {p : Page} (e : Event) → is_aside e ≡ true → PageChange p (emit e p)
  -- a registration is armed
  arm_told : {p : Page} (r due level : ℕ) → ArmedAt p.registrations (places p) r due → IsArmedWell p r due level
      → PageChange p (emit (Arm r due level) p)
  -- a line between turns, where no call is open, no job waits and no frame is in progress; that of the scheduler's turn comes with its
  -- call
  rested : {p : Page} (e : Event) → is_rest e ≡ true → open_registrations p.events ≡ [] → p.notices.jobs ≡ []
      → is_sched_turn e ≡ false → FrameIsOver p → BeginsWell e p → (e ≡ EndLine Done → IsAtEnd p)
      → PageChange p (emit e p)
  -- a host's task is taken, and the host answers
  answered : {p q : Page} (source : Source) (task : Task) (t : HostTask) (answer : Result ℤ ℤ) → first_task source p.tasks ≡ Some task
      → task.steps ≡ AnswerHost t
      → is_there (not_dropped (slice_get p.hosts t.closure)) ≡ true
      → places q ≡ host_fired t.closure (without_number task.number (places p))
      → AsBefore (emit (Host t.closure t.number answer) p) q → PageChange p q
  -- a registration is made, for no frame, and waits at its first place
  registered : {p q : Page} (kind : RegKind) (x : Registration) → x.role ≡ OfKind kind → is_frame kind ≡ false
      → (u : FirstPlace p.registrations p.prios (suc (length p.registrations)) (places p) (places q))
      → AsBefore (register_as kind x p) q → fits_first kind u ≡ true × FirstOwns u x q.signals → PageChange p q
  -- a registration is made, and its scheduler task is enqueued, with its line
  enqueued_anew : {p q : Page} (kind : RegKind) (x : Registration) (t : SchedTask) (queue : QueueName) → x.role ≡ OfKind kind
      → t.registration ≡ suc (length p.registrations) → places q ≡ with_queued t (places p)
      → IsNext p q t queue × Sourced p.prios p.scheduling_states t.source × is_scheduled kind ≡ true
      → AsBefore (emit (Enq t.registration queue t.continuation t.order) (register_as kind x p)) q → PageChange p q
  -- a registration is due, with its line; a delayed post that was not aborted is enqueued then
  fell_due : {p q : Page} (r : ℕ) (d : DueChange p.registrations r (places p) (places q)) → AsBefore (emit (Due r) p) q
      → IsDueBy p.now p.events d → PageChange p q
  post_fell_due : {p q : Page} (start : ℕ) (source : PrioSource) (t : SchedTask) (queue : QueueName)
      → completion_of p.completions start ≡ Some (EnqueuePost t.registration source)
      → role_at p.registrations t.registration ≡ OfKind kind.Post
      → is_aborted_source p (signal_at p.registrations t.registration) ≡ false
      → places q ≡ with_queued t (without_start start (places p)) → IsNext p q t queue × t.source ≡ source
      × t.continuation ≡ false
      → AsBefore (emit (Enq t.registration queue t.continuation t.order) (emit (Due t.registration) p)) q
      → IsTimerDue (places p) start p.now → PageChange p q
  -- a registration is cancelled, with its line, and a frame callback so
  dropped : {p q : Page} (r : ℕ) → Dropping p.registrations r (places p) (places q) → AsBefore (emit (Drop r) p) q → PageChange p q
  frame_dropped : {p : Page} (handle : ℕ) (c : Callback) → callback_in p.frames.callbacks handle ≡ Some c
      → role_at p.registrations c.registration ≡ OfKind kind.Frame
      → PageChange p (emit (Drop c.registration) (without_frame handle p))
  -- what a signal can abort is cancelled, where the signal is aborted; a host's answer is pending or due then
  task_dropped : {p q : Page} (r : ℕ) → is_abortable (role_at p.registrations r) ≡ true
      → is_aborted_source p (signal_at p.registrations r) ≡ true
      → (role_at p.registrations r ≡ OfKind kind.Host → is_there (waiting_answer r p) || is_there (waiting_net_task r p) ≡ true)
      → places q ≡ without_aborted r p
      → AsBefore (emit (Drop r) p) q → PageChange p q
  -- a signal gets a priority, with its line
  prio_told : {p : Page} (s : ℕ) (priority : Priority) (ps : Prios) → PrioSet s priority p.prios ps
      → PageChange p (record (emit (Prio s priority) p) { prios = ps })
  -- a frame callback is registered and requested
  frame_asked : {p : Page} (f : Func) → PageChange p (frame_requested f p)
  -- a promise is made
  promised : {p : Page} → PageChange p (new_promise p)
  -- a promise that was never resolved is settled, with its jobs
  settled : {p : Page} (n : ℕ) (how : Settled) → IsGiven (length p.notices.promises) n
      → (the_promise p.notices.promises n).locked ≡ false
      → PageChange p (promise_changes n (Promises.settle n (the_promise p.notices.promises n) how) p)
  -- a pending promise is settled as the one that it was resolved with
  followed : {p : Page} (n : ℕ) (how : Settled) → IsGiven (length p.notices.promises) n
      → (the_promise p.notices.promises n).outcome ≡ None
      → PageChange p (promise_changes n (Promises.settle n (the_promise p.notices.promises n) how) p)
  -- a promise that was never resolved is to become what another one becomes
  adopted : {p : Page} (n from : ℕ) → IsGiven (length p.notices.promises) n → (the_promise p.notices.promises n).locked ≡ false
      → PageChange p (promise_changes n (Promises.adopt n (the_promise p.notices.promises n) from) p)
  -- a promise gets a reaction without a callback
  subscribed : {p : Page} (n : ℕ) (r : Reaction) → IsGiven (length p.notices.promises) n → r.registration ≡ None
      → PageChange p (on_notices (subscribe_promise (context p) n r) p)
  -- handlers are registered, and a promise gets a reaction with them
  then_asked : {p : Page} (n : ℕ) (x : Registration) (r : Reaction) → x.role ≡ OfKind kind.Then → IsGiven (length p.notices.promises) n
      → r.registration ≡ Some (suc (length p.registrations))
      → PageChange p (on_notices (subscribe_promise (context p) n r) (register_as kind.Then x p))
  -- a microtask callback is registered and queued
  micro_asked : {p : Page} (x : Registration) (r : ℕ) → x.role ≡ OfKind kind.Micro → r ≡ suc (length p.registrations)
      → PageChange p (on_notices (queue_micro (context p) r) (register_as kind.Micro x p))
  -- the promises about to be notified about are taken
  rejected_taken : {p : Page} → PageChange p (record p { notices = record p.notices { rejected = [] } })
  -- a promise joins the outstanding ones
  noted : {p : Page} (n : ℕ) → PageChange p (record p { notices = note_outstanding n p.notices })

-- whether a first place is one at which a registration is armed, for this due time
abbrev pub FirstArms : {made : List Registration} {prios : Prios} {r : ℕ} {x y : Places} → FirstPlace made prios r x y → (due : ℕ) → Type 0
FirstArms (at_timer a t e fresh) due = due ≡ a.due
FirstArms (at_delay ms now q source e h) due = due ≡ now + ms * 1000
FirstArms (at_host c a e there live) due = due ≡ a.due
FirstArms u due = ⊥

-- whether a change of the places arms this registration for this due time
abbrev pub PlaceArms : {made : List Registration} {x y : Places} → PlaceChange made x y → (r due : ℕ) → Type 0
PlaceArms (armed_again a t role there next) r due = r ≡ t.registration × due ≡ a.due
PlaceArms (signal_armed ms now q s) r due = r ≡ q × due ≡ now + ms * 1000
PlaceArms (idle_armed t most own) r due = r ≡ t.registration × due ≡ t.due
PlaceArms c r due = ⊥

-- whether a first place, and a change of the places, give a timer this level where they arm one
abbrev pub FirstLevels : {made : List Registration} {prios : Prios} {r : ℕ} {x y : Places} → FirstPlace made prios r x y → ℕ → Type 0
FirstLevels (at_timer a t e fresh) level = level ≡ t.level
FirstLevels u level = Unit {0}

abbrev pub PlaceLevels : {made : List Registration} {x y : Places} → PlaceChange made x y → ℕ → Type 0
PlaceLevels (armed_again a t role there next) level = level ≡ t.level
PlaceLevels c level = Unit {0}

-- whether a first place gives a timer one level more than the page's, and a call is open then
abbrev pub FirstFollows : {made : List Registration} {prios : Prios} {r : ℕ} {x y : Places} → FirstPlace made prios r x y → Page → Type 0
FirstFollows (at_timer a t e fresh) p = t.level ≡ suc p.level × (open_registrations p.events ≡ [] → ⊥)
FirstFollows u p = Unit {0}

-- a change and the line that tells what it arms
abbrev pub Tells : {p q r : Page} → PageChange p q → PageChange q r → Type 0
Tells {p = p} (registered kind x e unframed u b at) (arm_told r due level w well) =
    r ≡ suc (length p.registrations) × FirstArms u due × FirstLevels u level × FirstFollows u p
Tells (elsewhere c b k) (arm_told r due level w well) = PlaceArms c r due × PlaceLevels c level
Tells a b = ⊥

-- whether a first place, and a change of the places, arm nothing
abbrev pub FirstIsPlain : {made : List Registration} {prios : Prios} {r : ℕ} {x y : Places} → FirstPlace made prios r x y → Type 0
FirstIsPlain (at_timer a t e fresh) = ⊥
FirstIsPlain (at_delay ms now q source e h) = ⊥
FirstIsPlain (at_host c a e there live) = ⊥
FirstIsPlain u = Unit {0}

abbrev pub PlaceIsPlain : {made : List Registration} {x y : Places} → PlaceChange made x y → Type 0
PlaceIsPlain (armed_again a t role there next) = ⊥
PlaceIsPlain (signal_armed ms now q s) = ⊥
PlaceIsPlain (idle_armed t most own) = ⊥
PlaceIsPlain c = Unit {0}

-- a change that arms nothing
abbrev pub IsPlain : {p q : Page} → PageChange p q → Type 0
IsPlain (registered kind x e unframed u b at) = FirstIsPlain u
IsPlain (elsewhere c b k) = PlaceIsPlain c
IsPlain (arm_told r due level w well) = ⊥
IsPlain c = Unit {0}

-- whether a change of the places arms no interval again
abbrev pub PlaceIsNew : {made : List Registration} {x y : Places} → PlaceChange made x y → Type 0
PlaceIsNew (armed_again a t role there next) = ⊥
PlaceIsNew c = Unit {0}

-- where no reason is set
abbrev pub WhenCalm : {p : Page} {after : Signals Value} → SignalsChange p after → Type 0 → Type 0
WhenCalm (calmly h) T = T
WhenCalm marking T = ⊥

-- with which no reason is set on a signal
abbrev pub IsCalm : {p q : Page} → PageChange p q → Type 0
IsCalm (elsewhere c b k) = WhenCalm b.watched (Unit {0})
IsCalm (answered source task t answer x y live z b) = WhenCalm b.watched (Unit {0})
IsCalm (registered kind x e unframed u b at) = WhenCalm b.watched (Unit {0})
IsCalm (enqueued_anew kind x t queue e i s n b) = WhenCalm b.watched (Unit {0})
IsCalm (fell_due r d b by) = WhenCalm b.watched (Unit {0})
IsCalm (post_fell_due start source t queue e role a s n b by) = WhenCalm b.watched (Unit {0})
IsCalm (dropped r d b) = WhenCalm b.watched (Unit {0})
IsCalm (task_dropped r role a e s b) = WhenCalm b.watched (Unit {0})
IsCalm c = Unit {0}

-- which arms nothing, and sets no reason
abbrev pub IsQuiet : {p q : Page} → PageChange p q → Type 0
IsQuiet (elsewhere c b k) = WhenCalm b.watched (PlaceIsPlain c)
IsQuiet (registered kind x e unframed u b at) = WhenCalm b.watched (FirstIsPlain u)
IsQuiet (arm_told r due level w well) = ⊥
IsQuiet c = IsCalm c

-- which arms no interval again, and sets no reason
abbrev pub IsNew : {p q : Page} → PageChange p q → Type 0
IsNew (elsewhere c b k) = WhenCalm b.watched (PlaceIsNew c)
IsNew c = IsCalm c

-- changes one after another, where each that arms is told of at once; no interval is armed again, and no reason is set on a signal
pub data Changes : Page → Page → Type 0 where
  nothing : {p : Page} → Changes p p
  with_change : {p q r : Page} → Changes p q → (c : PageChange q r) → IsQuiet c → Changes p r
  with_arm : {p q r s : Page} → Changes p q → (c : PageChange q r) (d : PageChange r s) → Tells c d → IsNew c → Changes p s

-- ---- Ours: how a call begins

-- where the callback of a call waited: the script's task and that of a timer, with the source; a frame callback with its key; the first
-- idle callback of a period, and one whose timeout is over, with its handle; a listener;
-- a scheduler task: a posted callback or a continuation; a job: of a microtask callback, or of a reaction whose handler is called
pub data Beginning : Type 0 where
  TheScript : Source → Task → Beginning
  ATimer : Source → Task → TimerTask → Beginning
  AFrame : ℕ → Callback → Beginning
  AnIdle : Callback → List Callback → Beginning
  ALateIdle : ℕ → Callback → Beginning
  AListener : ℕ → Beginning
  APost : SchedTask → Beginning
  AContinuation : SchedTask → Beginning
  AMicro : WaitingJob → List WaitingJob → ℕ → Beginning
  AReaction : WaitingJob → List WaitingJob → (promise : ℕ) → Reaction → (number : ℕ) → Beginning

-- the registration that is called
abbrev pub called_by : Beginning → ℕ
called_by (TheScript source task) = 1
called_by (ATimer source task t) = t.registration
called_by (AFrame key c) = c.registration
called_by (AnIdle c others) = c.registration
called_by (ALateIdle handle c) = c.registration
called_by (AListener r) = r
called_by (APost t) = t.registration
called_by (AContinuation t) = t.registration
called_by (AMicro job others r) = r
called_by (AReaction job others of x r) = r

-- what it is for
abbrev pub role_of : Beginning → Role
role_of (TheScript source task) = ScriptRole
role_of (ATimer source task t) = timer_role t.repeats
role_of (AFrame key c) = OfKind kind.Frame
role_of (AnIdle c others) = OfKind kind.Idle
role_of (ALateIdle handle c) = OfKind kind.Idle
role_of (AListener r) = OfKind kind.Listener
role_of (APost t) = OfKind kind.Post
role_of (AContinuation t) = OfKind kind.Yield
role_of (AMicro job others r) = OfKind kind.Micro
role_of (AReaction job others of x r) = OfKind kind.Then

-- the line of a turn of the scheduler, and its task leaves the queue
abbrev pub sched_begun : SchedTask → Page → Page
sched_begun t p = without_sched t.registration (emit (Turn p.turns (Some Sched)) p)

-- the page in which it is called: the callback has left where it waited
abbrev pub taken : Beginning → Page → Page
taken (TheScript source task) p = without_task task.number p
taken (ATimer source task t) p = record (without_task task.number p) { level = t.level }
taken (AFrame key c) p = without_frame c.handle p
taken (AnIdle c others) p = with_state background (without_idle c.handle (emit (IdleLine (deadline p.last_idle_start p)) p))
taken (ALateIdle handle c) p = with_state background (without_idle c.handle p)
taken (AListener r) p = p
taken (APost t) p = post_state t (sched_begun t p)
taken (AContinuation t) p = sched_begun t p
taken (AMicro job others r) p = job_begun job others p
taken (AReaction job others of x r) p = record (job_begun job others p) { scheduling = x.state }

-- it waited there
abbrev pub Waited : Beginning → Page → Type 0
Waited (TheScript source task) p = first_task source p.tasks ≡ Some task × task.steps ≡ RunScript
Waited (ATimer source task t) p =
    first_task source p.tasks ≡ Some task × task.steps ≡ RunTimer t × is_live t.id t.handle p.timers ≡ true
    × id_at p.registrations t.registration ≡ t.id
Waited (AFrame key c) p = IsDrawnNext key c p
Waited (AnIdle c others) p =
    p.idle.runnable ≡ c ∷ others × nat_lt p.now (deadline p.last_idle_start p) ≡ true × PeriodGoesOn p
Waited (ALateIdle handle c) p = idle_callback handle p ≡ Some c × was_due p.events c.registration ≡ true
Waited (AListener r) p = is_listening r p.listeners ≡ true
Waited (APost t) p =
    first_sched p ≡ Some t × t.continuation ≡ false × open_registrations p.events ≡ [] × p.notices.jobs ≡ [] × FrameIsOver p
Waited (AContinuation t) p =
    first_sched p ≡ Some t × t.continuation ≡ true × open_registrations p.events ≡ [] × p.notices.jobs ≡ [] × FrameIsOver p
Waited (AMicro job others r) p = p.notices.jobs ≡ job ∷ others × job.what ≡ Micro r × open_registrations p.events ≡ []
Waited (AReaction job others of x r) p =
    p.notices.jobs ≡ job ∷ others × job.what ≡ OfPromise (React of x) × x.registration ≡ Some r × open_registrations p.events ≡ []

-- ---- Ours: moves

-- a job that calls a microtask callback
abbrev pub is_micro : Todo → Bool
is_micro (Micro r) = true
is_micro (OfPromise job) = false

-- A row of moves: changes, calls and their ends, the begin and end of a checkpoint, the jobs that run in it, where no call is open, idle
-- period starts, and the lines of frames.
pub data Moves : Page → Page → Type 0 where
  here : {p : Page} → Moves p p
  changing : {p q r : Page} → Moves p q → (c : PageChange q r) → IsPlain c → Moves p r
  arming : {p q r s : Page} → Moves p q → (c : PageChange q r) (d : PageChange r s) → Tells c d → Moves p s
  calling : {p q : Page} → Moves p q → (b : Beginning) → Waited b q → IsFor (role_of b) (made_by q) (called_by b)
      → Moves p (call_begun (called_by b) (taken b q))
  ending : {p q : Page} → Moves p q → (e : Event) → is_end e ≡ true → Moves p (call_ended e q)
  -- the flag of the checkpoint
  flagging : {p q r : Page} → Moves p q → r.notices ≡ q.notices → r.events ≡ q.events → r.registrations ≡ q.registrations
      → r.frames ≡ q.frames → places r ≡ places q → r.calls ≡ q.calls → r.signals ≡ q.signals
      → scheduling_of r ≡ scheduling_of q → Moves p r
  running : {p q : Page} → Moves p q → (job : WaitingJob) (others : List WaitingJob) → q.notices.jobs ≡ job ∷ others
      → open_registrations q.events ≡ [] → is_micro job.what ≡ false → Moves p (job_begun job others q)
  -- the idle period start is now, where no task waits that invokes idle callbacks
  idling : {p q : Page} → Moves p q → (HasSteps InvokeIdle q.tasks → ⊥) → Moves p (record q { last_idle_start = q.now })
  -- the line of a frame
  framing : {p q : Page} → Moves p q → (t : ℕ) → Moves p (emit (Frame t) q)

-- What a run comes to: a row of moves, and where it is stuck for want of an answer, the host's task that was taken last.
pub data ComesTo : Page → Page → Type 0 where
  moved : {p q : Page} → Moves p q → ComesTo p q
  unanswered : {p q : Page} → Moves p q → (source : Source) (task : Task) (t : HostTask) → first_task source q.tasks ≡ Some task
      → task.steps ≡ AnswerHost t → ComesTo p (without_task task.number q)
