-- What each operation does.
use Rattle.std.specs.Prelude.{ℕ, suc, ◌+◌, ◌*◌, Bool, true, false, if◌then◌else◌, ◌&&◌, ◌||◌, List, [], ◌∷◌, length, Option, Some, None, ℤ, pos, negsuc, int_le, nat_lt, nat_le, ◌==◌, slice_get, slice_set, unwrap_or}
use Rattle.page_types.specs.Values.{Value, UnitValue, BoolValue, IntValue, TextValue, ListValue, FunValue, PromiseValue, SignalValue, ControllerValue, DeadlineValue, FaultValue, Values, no_values, with_value, items_of, values_of}
use Rattle.page_types.specs.declared.FaultName.TheVariants.{TypeError, RangeError, AbortError, NotAllowedError}
use Rattle.page_types.specs.declared.Op.{Op}
use Rattle.page_types.specs.declared.Op.TheVariants.{Log, TextOf, KindOf, Len, Push, Bind, MakeFault, FaultNameOf, FaultTextOf, NowOp, Busy, QueueMicrotask, MakePromise, ResolveOp, RejectOp, Resolved, Rejected, Then, SetTimeout, SetInterval, ClearTimeout, ClearInterval, RequestFrame, CancelFrame, RequestIdle, CancelIdle, DidTimeout, TimeRemaining, PostTask, YieldTask, MakeController, MakeTaskController, SignalOf, AbortOp, SetPriority, AbortedSignal, AnySignal, TaskAny, TimeoutSignal, Aborted, ReasonOf, PriorityOf, Listen, Unlisten, HostOp, PostMessage, AllOp, RaceOp, AnyOp, AllSettled, FinallyOp}
use Rattle.page_types.specs.Events as events
use Rattle.page_types.specs.declared.Priority.{Priority}
use Rattle.page_types.specs.declared.Priority.TheVariants.{Background, UserVisible, UserBlocking}
use Rattle.page_types.specs.declared.RegKind.{RegKind}
use Rattle.page_types.specs.declared.RegKind.TheVariants.{Timeout as TimeoutKind, Interval as IntervalKind, Frame as FrameKind, Idle as IdleKind, Post as PostKind, Yield as YieldKind, Host as HostKind, Listener as ListenerKind, Then as ThenKind, Micro as MicroKind, Signal as SignalKind}
use Rattle.page_types.specs.Events.{Arm, Drop, Send}
use Rattle.page_parts.specs.Words.{and_last, has_number, same_bytes, not_below_zero, is_there}
use Rattle.page_parts.specs.Spelling.{spelled, priority_text}
use Rattle.page_parts.specs.Kinds.{Func, func_in, int_in, text_in, list_in, promise_in, signal_in, controller_in, deadline_in, is_unit, is_sendable, within_limits, a_fault}
use Rattle.lang_meaning.specs.Machine.{Done, Gives, throw_fault, finish, given, branch, take_unit, Caller}
use Rattle.lang_meaning.specs.Evaluation.{answered}
use Rattle.lang_meaning.specs.HostSteps.{is_busy}
use Rattle.lang_meaning.specs.PureOperations.{argument, text_answer, kind_answer, length_answer, push_answer, bind_answer, fault_answer, fault_name_answer, fault_text_answer, did_timeout_answer}
use Rattle.page_parts.specs.Notices as Notices
use Rattle.page_parts.specs.AbortGraph as AbortGraph
use Rattle.page_parts.specs.TaskSignals as TaskSignals
use Rattle.page_parts.specs.TaskSignals.{priority_of, is_changing}
use Rattle.page_parts.specs.Listeners.{Target, Window, AtSignal, add, off, is_listening}
use Rattle.page_model.specs.State.{Registration, OfKind, EnqueuePost, QueueSignal, PrioSource, Fixed, OfSignal, SchedulingState, Page, State, on_page, last_registration, context, emit, on_notices}
use Rattle.page_parts.specs.HostClosures.{HostClosure}
use Rattle.page_types.specs.declared.HostMark.{HostMark}
use Rattle.page_types.specs.declared.HostMark.TheVariants.{Live, Queued as QueuedMark, Fired, Dropped}
use Rattle.page_parts.specs.Setup.{Latency}
use Rattle.page_model.specs.PagePromises as promises
use Rattle.page_model.specs.PagePromises.{new_promise, last_promise, new_settled}
use Rattle.page_model.specs.PageCombinators.{all_made, race_made, promises_for, are_promises_left}
use Rattle.page_parts.specs.Combinators.{CombinatorKind, All, AnyOf, AllSettled as AllSettledKind}
use Rattle.page_model.specs.PageTime.{init_timer, run_after, clear_timer, request_frame, cancel_frame, request_idle, cancel_idle, time_remaining}
use Rattle.page_model.specs.SchedulerTasks.{enqueue, current_state}
use Rattle.page_model.specs.Invoke.{Ways, register, register_as, in_script}
use Rattle.page_model.specs.PageSignals.{abort, change, is_aborted, is_aborted_source, reason_value, watch, give_priority, priority_value}

-- ---- Ours: how an operation answers, and how it tests its arguments

-- a change of the page, and unit
abbrev pub does : (Page → Page) → State → Done Page
does f m = finish (on_page f m)

-- a change of the page, and a value read from the page then
abbrev pub answers : (Page → Value) → (Page → Page) → State → Done Page
answers v f m = let after = on_page f m in Gives (v after.host) after

-- whether one more registration, promise, signal, timer id, frame handle or idle handle is left
abbrev pub is_left : ℕ → Bool
is_left made = nat_lt made 4294967295

-- whether a registration is left
abbrev pub registration_left : Page → Bool
registration_left p = is_left (length p.registrations)

-- whether a promise is left
abbrev pub promise_left : Page → Bool
promise_left p = is_left (length p.notices.promises)

-- whether a signal is left
abbrev pub signal_left : Page → Bool
signal_left p = is_left (length p.signals)

-- what is done where the numbers that it takes are left; else RangeError
abbrev pub where_left : Bool → State → (State → Done Page) → Done Page
where_left left m next = branch left m next (throw_fault RangeError)

-- the priority that a text names
abbrev pub priority_in : Value → Option Priority
priority_in v = elim (text_in v) [
  | None ↦ None
  | Some bs ↦ if same_bytes bs (priority_text Background) then Some Background
      else if same_bytes bs (priority_text UserVisible) then Some UserVisible
      else if same_bytes bs (priority_text UserBlocking) then Some UserBlocking else None
]

-- an integer from low to high
abbrev pub int_within : (low high n : ℤ) → Bool
int_within low high n = int_le low n && int_le n high

-- milliseconds from 0 to 1,000,000,000
abbrev pub delay_in : Value → Option ℕ
delay_in v = elim (int_in v) [ None ↦ None | Some n ↦ if int_within (pos 0) (pos 1000000000) n then Some (not_below_zero n) else None ]

-- a Signal, or unit for none
abbrev pub signal_or_unit : Value → Option (Option ℕ)
signal_or_unit UnitValue = Some None
signal_or_unit v = elim (signal_in v) [ None ↦ None | Some s ↦ Some (Some s) ]

-- ---- Ours: `busy` lets time pass

-- time advances by so many microseconds
abbrev pub busy_for : ℤ → State → Done Page
busy_for n m =
    branch (int_within (pos 0) (pos 1000000000) n) m (does (λ p. record p { now = p.now + not_below_zero n })) (throw_fault RangeError)

-- `busy`: a unit of fuel is taken first, whatever the argument
abbrev pub busy : Value → State → Done Page
busy n m = take_unit m (λ m. given (int_in n) TypeError m busy_for)

-- ---- HTML, "Microtask queuing"; ECMA-262, "Promise Objects"

-- a microtask callback is registered and queued
abbrev pub micro_registered : Func → Page → Page
micro_registered f p =
    let made = register MicroKind (Some f) None p in
    on_notices (Notices.queue_micro (context made) (last_registration made)) made

-- `queueMicrotask`
abbrev pub queue_microtask : Value → State → Done Page
queue_microtask f m =
    given (func_in f) TypeError m (λ f m. where_left (registration_left m.host) m (does (micro_registered f)))

-- the last promise as a value
abbrev pub last_promise_value : Page → Value
last_promise_value p = PromiseValue (last_promise p)

-- a new promise that the script may settle
abbrev pub script_promise : Page → Page
script_promise p =
    let made = new_promise p in
    record made { script_promises = and_last made.script_promises (last_promise made) }

-- `resolve` and `reject`: TypeError where the promise was not made by `promise`
abbrev pub settle_own : (ℕ → Value → Page → Page) → (p v : Value) → State → Done Page
settle_own settle p v m =
    given (promise_in p) TypeError m (λ n m. branch (has_number m.host.script_promises n) m (does (settle n v)) (throw_fault TypeError))

-- a new promise which is settled at once, as the answer
abbrev pub settled_promise : (ℕ → Value → Page → Page) → Value → State → Done Page
settled_promise settle v m = where_left (promise_left m.host) m (answers last_promise_value (new_settled settle v))

-- `resolved`: a promise as it is, and any other value in a new promise
abbrev pub resolved_value : Value → State → Done Page
resolved_value v m = elim (promise_in v) [ Some n ↦ Gives v m | None ↦ settled_promise promises.resolve v m ]

-- the derived promise and the `then` registration are made, and the promise gets the reaction
abbrev pub then_made : ℕ → (f g : Value) → Page → Page
then_made n f g p =
    let made = register ThenKind (func_in f) (func_in g) (new_promise p) in
    promises.subscribe n (record { registration = Some (last_registration made); into = last_promise made; state = made.scheduling }) made

-- `then`: handlers that are no functions are absent
abbrev pub then_value : (v f g : Value) → State → Done Page
then_value v f g m =
    given (promise_in v) TypeError m (λ n m. where_left (promise_left m.host && registration_left m.host) m
    (answers last_promise_value (then_made n f g)))

-- ---- HTML, "Timers"

-- a timer is registered under the id that it will get
abbrev pub timer_registered : RegKind → Func → Page → Page
timer_registered kind f p =
    register_as kind (record {
      role = OfKind kind;
      callback = Some f;
      second_callback = None;
      timer_id = suc p.timers.ids_made;
      promise = 0;
      signal = None;
      finally = false;
    }) p

-- a timer is registered and initialised
abbrev pub timer_set : RegKind → Bool → Func → ℤ → Page → Page
timer_set kind repeats f timeout p =
    let made = timer_registered kind f p in
    init_timer None (last_registration made) repeats timeout made

-- `setTimeout` and `setInterval`, which answer the id
abbrev pub set_timer : RegKind → Bool → (f ms : Value) → State → Done Page
set_timer kind repeats f ms m =
    given (func_in f) TypeError m (λ f m. given (int_in ms) TypeError m (λ ms m.
    where_left (registration_left m.host && is_left m.host.timers.ids_made) m
    (answers (λ p. IntValue (pos p.timers.ids_made)) (timer_set kind repeats f ms))))

-- what is done with a number; a negative one stands for nothing
abbrev pub with_handle : Value → (ℕ → Page → Page) → State → Done Page
with_handle v f m = given (int_in v) TypeError m (λ n m. elim n [ pos k ↦ does (f k) m | negsuc k ↦ finish m ])

-- ---- HTML, "Animation frames"; requestIdleCallback, "The requestIdleCallback() method" and "The IdleDeadline interface"

-- a frame callback is registered and requested
abbrev pub frame_requested : Func → Page → Page
frame_requested f p =
    let made = register FrameKind (Some f) None p in
    request_frame (last_registration made) made

-- `requestAnimationFrame`, which answers the handle
abbrev pub request_animation_frame : Value → State → Done Page
request_animation_frame f m =
    given (func_in f) TypeError m (λ f m. where_left (registration_left m.host && is_left m.host.frames.made) m
    (answers (λ p. IntValue (pos p.frames.made)) (frame_requested f)))

-- an idle callback is registered and requested
abbrev pub idle_requested : Func → ℕ → Page → Page
idle_requested f ms p =
    let made = register IdleKind (Some f) None p in
    request_idle ms (last_registration made) made

-- `requestIdleCallback`, which answers the handle. Ours: RangeError above 1,000,000,000 milliseconds
abbrev pub request_idle_callback : (f ms : Value) → State → Done Page
request_idle_callback f ms m =
    given (func_in f) TypeError m (λ f m. given (int_in ms) TypeError m (λ ms m.
    where_left (int_le ms (pos 1000000000) && registration_left m.host && is_left m.host.idle.made) m
    (answers (λ p. IntValue (pos p.idle.made)) (idle_requested f (not_below_zero ms)))))

-- `timeRemaining`
abbrev pub remaining : Value → State → Done Page
remaining d m = given (deadline_in d) TypeError m (λ t m. Gives (IntValue (pos (time_remaining t m.host))) m)

-- ---- DOM, "Interface AbortController" and "Interface AbortSignal"; Prioritized Task Scheduling, "The TaskController Interface" and "The
-- TaskSignal Interface"

-- a change of the signals
abbrev pub with_signals : (AbortGraph.Signals Value → AbortGraph.Signals Value) → Page → Page
with_signals f p = record p { signals = f p.signals }

-- the number of the last signal
abbrev pub last_signal : Page → ℕ
last_signal p = length p.signals

-- the controller of the last signal, as a value
abbrev pub controller_value : Page → Value
controller_value p = ControllerValue (last_signal p)

-- the last signal as a value
abbrev pub signal_value : Page → Value
signal_value p = SignalValue (last_signal p)

-- `controller`. Ours: a controller has the number of its signal
abbrev pub make_controller : State → Done Page
make_controller m = where_left (signal_left m.host) m (answers controller_value (with_signals AbortGraph.make))

-- a new signal with a priority
abbrev pub task_signal_made : Priority → Page → Page
task_signal_made priority p = let made = with_signals AbortGraph.make p in give_priority (last_signal made) priority made

-- `taskController`
abbrev pub make_task_controller : Value → State → Done Page
make_task_controller v m =
    given (priority_in v) TypeError m (λ priority m. where_left (signal_left m.host) m
    (answers controller_value (task_signal_made priority)))

-- the reason of an abort: a new AbortError where none is given
abbrev pub reason_given : Value → Value
reason_given v = if is_unit v then a_fault AbortError else v

-- `abort` of a controller
abbrev pub abort_by : Ways → (c reason : Value) → State → Done Page
abort_by w c reason m = given (controller_in c) TypeError m (λ s m. abort w s (reason_given reason) m)

-- a signal's priority is changed: TypeError where it has none, NotAllowedError while a change is in progress
abbrev pub change_by : Ways → ℕ → Priority → State → Done Page
change_by w s priority m =
    branch (is_there (priority_of m.host.prios s)) m
    (λ m. branch (is_changing m.host.prios s) m (throw_fault NotAllowedError) (change w priority (length m.host.prios) s))
    (throw_fault TypeError)

-- `setPriority` of a controller
abbrev pub set_priority_by : Ways → (c v : Value) → State → Done Page
set_priority_by w c v m =
    given (controller_in c) TypeError m (λ s m. given (priority_in v) TypeError m (λ priority m. change_by w s priority m))

-- `abortedSignal`
abbrev pub aborted_signal : Value → State → Done Page
aborted_signal v m =
    where_left (signal_left m.host) m (answers signal_value (with_signals (AbortGraph.make_aborted (reason_given v))))

-- the numbers of a list of Signals
abbrev pub all_signals : List Value → Option (List ℕ)
all_signals [] = Some []
all_signals (v ∷ vs) = elim (signal_in v) [ None ↦ None | Some s ↦ elim (all_signals vs) [ None ↦ None | Some ss ↦ Some (s ∷ ss) ] ]

-- the numbers of the signals in a list value
abbrev pub signals_in : Value → Option (List ℕ)
signals_in v = elim (list_in v) [ None ↦ None | Some vs ↦ all_signals (items_of vs) ]

-- `anySignal`
abbrev pub make_any : Value → State → Done Page
make_any l m =
    given (signals_in l) TypeError m (λ ss m. where_left (signal_left m.host) m (answers signal_value (with_signals (AbortGraph.any ss))))

-- the new signal of `taskAny` gets its priority; where that is a signal's, it follows that one from now on
abbrev pub any_made : List ℕ → Priority → Option ℕ → Page → Page
any_made ss priority follows p =
    let made = with_signals (AbortGraph.any ss) p in
    let given_one = give_priority (last_signal made) priority made in
    elim follows [ None ↦ given_one | Some on ↦ record given_one { prios = TaskSignals.depend (last_signal made) on given_one.prios } ]

-- the same as an operation, which answers the signal
abbrev pub any_with_priority : List ℕ → Priority → Option ℕ → State → Done Page
any_with_priority ss priority follows m = where_left (signal_left m.host) m (answers signal_value (any_made ss priority follows))

-- the signal that is followed through s: the one that s follows, or s itself
abbrev pub followed_through : Page → ℕ → ℕ
followed_through p s = unwrap_or (TaskSignals.followed p.prios s) s

-- `taskAny` with a signal. Ours: the new signal gets the priority that the followed one has now
abbrev pub any_following : List ℕ → ℕ → State → Done Page
any_following ss s m =
    let on = followed_through m.host s in
    given (priority_of m.host.prios on) TypeError m (λ priority m. any_with_priority ss priority (Some on) m)

-- `taskAny`: a fixed priority, or a signal's
abbrev pub make_task_any : (l x : Value) → State → Done Page
make_task_any l x m =
    given (signals_in l) TypeError m (λ ss m. elim (priority_in x) [
      | Some priority ↦ any_with_priority ss priority None m
      | None ↦ given (signal_in x) TypeError m (any_following ss)
    ])

-- a new signal that is aborted after so many milliseconds
abbrev pub timeout_signal_made : ℕ → Page → Page
timeout_signal_made ms p =
    let made = register SignalKind None None (with_signals AbortGraph.make p) in
    run_after ms (QueueSignal (last_registration made) (last_signal made))
    (emit (Arm (last_registration made) (made.now + ms * 1000) 0) made)

-- `timeoutSignal`
abbrev pub make_timeout_signal : Value → State → Done Page
make_timeout_signal ms m =
    given (delay_in ms) TypeError m (λ ms m. where_left (signal_left m.host && registration_left m.host) m
    (answers signal_value (timeout_signal_made ms)))

-- what is read of a signal
abbrev pub of_signal : Value → (ℕ → Page → Value) → State → Done Page
of_signal v read m = given (signal_in v) TypeError m (λ s m. Gives (read s m.host) m)

-- ---- DOM, "Interface EventTarget". Ours: each listener has a number, by which it is removed

-- the window for unit, or a signal
abbrev pub target_in : Value → Option Target
target_in UnitValue = Some Window
target_in v = elim (signal_in v) [ None ↦ None | Some s ↦ Some (AtSignal s) ]

-- a listener is registered and added
abbrev pub listener_added : Target → List ℕ → Func → Page → Page
listener_added target name f p =
    let made = register ListenerKind (Some f) None p in
    record made { listeners = add target name (last_registration made) made.listeners }

-- `listen`, which answers the registration
abbrev pub listen : (t name f : Value) → State → Done Page
listen t name f m =
    given (target_in t) TypeError m (λ target m. given (text_in name) TypeError m (λ name m. given (func_in f) TypeError m (λ f m.
    where_left (registration_left m.host) m (answers (λ p. IntValue (pos (last_registration p))) (listener_added target name f)))))

-- `unlisten`: a listener is removed with a `drop` line, where it is there
abbrev pub listener_removed : ℕ → Page → Page
listener_removed r p =
    if is_listening r p.listeners then emit (Drop r) (record p { listeners = off r p.listeners }) else p

-- ---- Prioritized Task Scheduling, "The Scheduler Interface": postTask() and yield(), and "Scheduling Tasks and Continuations"

-- a promise that is rejected with a fault, as the answer
abbrev pub rejected_with : Value → State → Done Page
rejected_with reason m = settled_promise promises.reject reason m

-- what is there, or a promise that is rejected with TypeError
abbrev pub given_or_rejected : {X : Type 0} → Option X → State → (X → State → Done Page) → Done Page
given_or_rejected None m next = rejected_with (a_fault TypeError) m
given_or_rejected (Some x) m next = next x m

-- a priority, or unit for none
abbrev pub priority_or_unit : Value → Option (Option Priority)
priority_or_unit UnitValue = Some None
priority_or_unit v = elim (priority_in v) [ None ↦ None | Some priority ↦ Some (Some priority) ]

-- the reason of an abort source
abbrev pub source_reason : Page → Option ℕ → Value
source_reason p None = UnitValue
source_reason p (Some s) = reason_value p s

-- a signal as priority source, where it has a priority; else fixed user-visible
abbrev pub signal_source : Page → Option ℕ → PrioSource
signal_source p None = Fixed UserVisible
signal_source p (Some s) = if is_there (priority_of p.prios s) then OfSignal s else Fixed UserVisible

-- the given priority, fixed; else the signal, if it has a priority; else fixed user-visible
abbrev pub prio_source_of : Page → Option Priority → Option ℕ → PrioSource
prio_source_of p (Some priority) signal = Fixed priority
prio_source_of p None signal = signal_source p signal

-- the registration of a task, a delay or a host answer: its promise is made, and its abort steps are added to its signal
abbrev pub promised : RegKind → Option Func → Option ℕ → Page → Page
promised kind f signal p =
    let made = new_promise p in
    let x : Registration = record {
      role = OfKind kind;
      callback = f;
      second_callback = None;
      timer_id = 0;
      promise = last_promise made;
      signal = signal;
      finally = false;
    } in
    let registered = register_as kind x made in
    watch signal (last_registration registered) registered

-- a delayed `postTask` is started, with its `arm` line
abbrev pub post_delayed : (ms r : ℕ) → PrioSource → Page → Page
post_delayed ms r source p = run_after ms (EnqueuePost r source) (emit (Arm r (p.now + ms * 1000) 0) p)

-- a `postTask` is registered, and its task is enqueued now or after a delay
abbrev pub post_queued : Func → PrioSource → Option ℕ → ℕ → Page → Page
post_queued f source signal ms p =
    let made = promised PostKind (Some f) signal p in
    (if ms == 0 then enqueue (last_registration made) source false else post_delayed ms (last_registration made) source) made

-- `postTask` with arguments of the right kinds: an aborted signal rejects the promise
abbrev pub post_accepted : Func → Option Priority → Option ℕ → ℕ → State → Done Page
post_accepted f priority signal ms m =
    branch (is_aborted_source m.host signal) m
    (λ m. rejected_with (source_reason m.host signal) m)
    (λ m. where_left (promise_left m.host && registration_left m.host) m
    (answers last_promise_value (post_queued f (prio_source_of m.host priority signal) signal ms)))

-- `postTask`: an argument of a wrong kind rejects the promise, the first one first
abbrev pub post_task : (f priority signal ms : Value) → State → Done Page
post_task f priority signal ms m =
    given_or_rejected (func_in f) m (λ f m. given_or_rejected (priority_or_unit priority) m (λ priority m.
    given_or_rejected (signal_or_unit signal) m (λ signal m. given_or_rejected (delay_in ms) m
    (λ ms m. post_accepted f priority signal ms m))))

-- a continuation is registered and enqueued
abbrev pub continuation_queued : SchedulingState → Page → Page
continuation_queued s p =
    let made = promised YieldKind None s.abort_source p in
    enqueue (last_registration made) s.prio_source true made

-- `yieldTask` in a scheduling state: its abort source, where it is aborted, rejects the promise. Ours: what a continuation inherits,
-- since the draft still moves
abbrev pub yield_in : SchedulingState → State → Done Page
yield_in s m =
    branch (is_aborted_source m.host s.abort_source) m
    (λ m. rejected_with (source_reason m.host s.abort_source) m)
    (λ m. where_left (promise_left m.host && registration_left m.host) m
    (answers last_promise_value (continuation_queued s)))

-- `yieldTask` in the current scheduling state
abbrev pub yield_task : State → Done Page
yield_task m = yield_in (current_state m.host) m

-- ---- Ours: `host` asks a closure of the host

-- the latency of a closure, 0 where no line gives it
abbrev pub latency_of : List Latency → ℕ → ℕ
latency_of [] k = 0
latency_of (a ∷ more) k = if a.closure == k then a.latency else latency_of more k

-- the closure of this number
abbrev pub closure_at : Page → ℤ → Option HostClosure
closure_at p (pos k) = slice_get p.hosts k
closure_at p (negsuc k) = None

-- whether a closure was never asked
abbrev pub is_fresh : HostMark → Bool
is_fresh Live = true
is_fresh QueuedMark = false
is_fresh Fired = false
is_fresh Dropped = false

-- the closure, where it is in the table and x is in its range
abbrev pub fitting : Option HostClosure → ℤ → Option HostClosure
fitting None x = None
fitting (Some c) x = if int_within c.low c.high x then Some c else None

-- a closure after it was asked
abbrev pub queued_mark : HostClosure → HostClosure
queued_mark c = record c { mark = QueuedMark }

-- an answer is registered and pending until the latency has passed, and the closure is taken
abbrev pub host_queued : ℕ → HostClosure → ℤ → Option ℕ → Page → Page
host_queued k c x signal p =
    let made = promised HostKind None signal p in
    let r = last_registration made in
    let due = made.now + latency_of made.latencies k in
    emit (Arm r due 0)
    (record made {
      hosts = slice_set made.hosts k (queued_mark c);
      host_answers = and_last made.host_answers (record { due = due; task = record { registration = r; closure = k; number = x } });
    })

-- a closure that was asked before rejects with NotAllowedError, and an aborted signal with its reason
abbrev pub host_accepted : ℕ → HostClosure → ℤ → Option ℕ → State → Done Page
host_accepted k c x signal m =
    branch (is_fresh c.mark) m
    (λ m. branch (is_aborted_source m.host signal) m
    (λ m. rejected_with (source_reason m.host signal) m)
    (λ m. where_left (promise_left m.host && registration_left m.host) m (answers last_promise_value (host_queued k c x signal))))
    (rejected_with (a_fault NotAllowedError))

-- a number that the closure does not take, or a closure that is not there, rejects with RangeError
abbrev pub host_asked : (k x : ℤ) → Option ℕ → State → Done Page
host_asked k x signal m = elim (fitting (closure_at m.host k) x) [
  | None ↦ rejected_with (a_fault RangeError) m
  | Some c ↦ host_accepted (not_below_zero k) c x signal m
]

-- `host`: an argument of a wrong kind rejects the promise
abbrev pub host : (k x signal : Value) → State → Done Page
host k x signal m =
    given_or_rejected (int_in k) m (λ k m. given_or_rejected (int_in x) m (λ x m.
    given_or_rejected (signal_or_unit signal) m (λ signal m. host_asked k x signal m)))

-- ---- ECMA-262, "Promise.all", "Promise.race", "Promise.any", "Promise.allSettled" and "Promise.prototype.finally"

-- how many promises are made for items
abbrev pub promises_for_all : List Value → ℕ
promises_for_all [] = 0
promises_for_all (v ∷ vs) = promises_for v + promises_for_all vs

-- a promise that is made first, as the answer, whatever else is made then
abbrev pub answers_first : (Page → Page) → State → Done Page
answers_first f m = answers (λ p. PromiseValue (suc (last_promise m.host))) f m

-- `all`, `any` and `allSettled`: for each item an element is made, and a promise where the item is none
abbrev pub combined : CombinatorKind → Value → State → Done Page
combined kind l m =
    given_or_rejected (list_in l) m (λ vs m.
    where_left (are_promises_left (1 + promises_for_all (items_of vs) + length (items_of vs)) m.host) m
    (answers_first (all_made kind (items_of vs))))

-- `race`
abbrev pub raced : Value → State → Done Page
raced l m =
    given_or_rejected (list_in l) m (λ vs m. where_left (are_promises_left (1 + promises_for_all (items_of vs)) m.host) m
    (answers_first (race_made (items_of vs))))

-- the derived promise and the registration of a `finally` are made, and the promise gets the reaction
abbrev pub finally_made : ℕ → Value → Page → Page
finally_made n f p =
    let x : Registration = record {
      role = OfKind ThenKind;
      callback = func_in f;
      second_callback = func_in f;
      timer_id = 0;
      promise = 0;
      signal = None;
      finally = true;
    } in
    let made = register_as ThenKind x (new_promise p) in
    promises.subscribe n (record { registration = Some (last_registration made); into = last_promise made; state = made.scheduling }) made

-- `finally`: a handler that is no function is absent
abbrev pub finally_value : (v f : Value) → State → Done Page
finally_value v f m =
    given_or_rejected (promise_in v) m (λ n m. where_left (promise_left m.host && registration_left m.host) m
    (answers last_promise_value (finally_made n f)))

-- ---- HTML, "Cross-document messaging". Ours: a message goes to a port by its number, and tells no function, promise, signal, controller
-- or deadline

-- a port: a number from 1 to 64
abbrev pub port_in : Value → Option ℕ
port_in v = elim (int_in v) [ None ↦ None | Some n ↦ if int_within (pos 1) (pos 64) n then Some (not_below_zero n) else None ]

-- the value, where it may be sent
abbrev pub sendable_in : Value → Option Value
sendable_in v = if is_sendable v then Some v else None

-- a message is posted, with its line
abbrev pub posted : ℕ → Value → Page → Page
posted port v p =
    emit (Send port (spelled p.names v)) (record p { posts = and_last p.posts (record { port = port; value = v; at = p.now }) })

-- the messages since the last taking are taken
abbrev pub posts_taken : Page → Page
posts_taken p = record p { posts = [] }

-- `postMessage`: RangeError where the list of port and value would be too heavy
abbrev pub post_message : (n v : Value) → State → Done Page
post_message n v m =
    given (port_in n) TypeError m (λ port m. given (sendable_in v) TypeError m (λ v m.
    given (within_limits (ListValue (values_of (n ∷ v ∷ [])))) RangeError m (λ whole m. does (posted port v) m)))

-- ---- the table of operations; what a row does stands above, under its section

-- what each operation does, by its arguments
abbrev pub operation : Ways → Op → List Value → State → Done Page
operation w Log args m = does (λ p. emit (events.Log (spelled p.names (argument args 0))) p) m
operation w TextOf args m = answered (text_answer m.host.names (argument args 0)) m
operation w KindOf args m = answered (kind_answer (argument args 0)) m
operation w Len args m = answered (length_answer (argument args 0)) m
operation w Push args m = answered (push_answer (argument args 0) (argument args 1)) m
operation w Bind args m = answered (bind_answer (argument args 0) (argument args 1)) m
operation w MakeFault args m = answered (fault_answer (argument args 0)) m
operation w FaultNameOf args m = answered (fault_name_answer (argument args 0)) m
operation w FaultTextOf args m = answered (fault_text_answer (argument args 0)) m
operation w NowOp args m = Gives (IntValue (pos m.host.now)) m
operation w Busy args m = busy (argument args 0) m
operation w QueueMicrotask args m = queue_microtask (argument args 0) m
operation w MakePromise args m = where_left (promise_left m.host) m (answers last_promise_value script_promise)
operation w ResolveOp args m = settle_own promises.resolve (argument args 0) (argument args 1) m
operation w RejectOp args m = settle_own promises.reject (argument args 0) (argument args 1) m
operation w Resolved args m = resolved_value (argument args 0) m
operation w Rejected args m = settled_promise promises.reject (argument args 0) m
operation w Then args m = then_value (argument args 0) (argument args 1) (argument args 2) m
operation w SetTimeout args m = set_timer TimeoutKind false (argument args 0) (argument args 1) m
operation w SetInterval args m = set_timer IntervalKind true (argument args 0) (argument args 1) m
operation w ClearTimeout args m = with_handle (argument args 0) clear_timer m
operation w ClearInterval args m = with_handle (argument args 0) clear_timer m
operation w RequestFrame args m = request_animation_frame (argument args 0) m
operation w CancelFrame args m = with_handle (argument args 0) cancel_frame m
operation w RequestIdle args m = request_idle_callback (argument args 0) (argument args 1) m
operation w CancelIdle args m = with_handle (argument args 0) cancel_idle m
operation w DidTimeout args m = answered (did_timeout_answer (argument args 0)) m
operation w TimeRemaining args m = remaining (argument args 0) m
operation w PostTask args m = post_task (argument args 0) (argument args 1) (argument args 2) (argument args 3) m
operation w YieldTask args m = yield_task m
operation w MakeController args m = make_controller m
operation w MakeTaskController args m = make_task_controller (argument args 0) m
operation w SignalOf args m = given (controller_in (argument args 0)) TypeError m (λ s m. Gives (SignalValue s) m)
operation w AbortOp args m = abort_by w (argument args 0) (argument args 1) m
operation w SetPriority args m = set_priority_by w (argument args 0) (argument args 1) m
operation w AbortedSignal args m = aborted_signal (argument args 0) m
operation w AnySignal args m = make_any (argument args 0) m
operation w TaskAny args m = make_task_any (argument args 0) (argument args 1) m
operation w TimeoutSignal args m = make_timeout_signal (argument args 0) m
operation w Aborted args m = of_signal (argument args 0) (λ s p. BoolValue (is_aborted p s)) m
operation w ReasonOf args m = of_signal (argument args 0) (λ s p. reason_value p s) m
operation w PriorityOf args m = of_signal (argument args 0) (λ s p. priority_value (priority_of p.prios s)) m
operation w Listen args m = listen (argument args 0) (argument args 1) (argument args 2) m
operation w Unlisten args m = with_handle (argument args 0) listener_removed m
operation w HostOp args m = host (argument args 0) (argument args 1) (argument args 2) m
operation w PostMessage args m = post_message (argument args 0) (argument args 1) m
operation w AllOp args m = combined All (argument args 0) m
operation w RaceOp args m = raced (argument args 0) m
operation w AnyOp args m = combined AnyOf (argument args 0) m
operation w AllSettled args m = combined AllSettledKind (argument args 0) m
operation w FinallyOp args m = finally_value (argument args 0) (argument args 1) m

-- ---- Ours: numbers that were not given out. No run meets them

-- whether a number was given out, where so many were, counted from 1
abbrev pub was_given : (last number : ℕ) → Bool
was_given last number = nat_lt 0 number && nat_le number last

abbrev mutual
  -- whether each promise, signal and controller in a value is one of so many that were made; a controller has the number of its signal
  pub is_known : (promises signals : ℕ) → Value → Bool
  is_known promises signals UnitValue = true
  is_known promises signals (BoolValue b) = true
  is_known promises signals (IntValue n) = true
  is_known promises signals (TextValue bs) = true
  is_known promises signals (ListValue vs) = are_known promises signals vs
  is_known promises signals (FunValue f vs) = are_known promises signals vs
  is_known promises signals (PromiseValue n) = was_given promises n
  is_known promises signals (SignalValue n) = was_given signals n
  is_known promises signals (ControllerValue n) = was_given signals n
  is_known promises signals (DeadlineValue t) = true
  is_known promises signals (FaultValue name bs) = true

  -- the same of values in a row
  pub are_known : (promises signals : ℕ) → Values → Bool
  are_known promises signals no_values = true
  are_known promises signals (with_value v vs) = is_known promises signals v && are_known promises signals vs

-- the same of arguments
abbrev pub all_known : (promises signals : ℕ) → List Value → Bool
all_known promises signals [] = true
all_known promises signals (v ∷ vs) = is_known promises signals v && all_known promises signals vs

-- whether an operation may look at its arguments: none of them holds a number that was not given out. `busy` asks for no such number.
abbrev pub may_operate : Page → Op → List Value → Bool
may_operate p op args = is_busy op || all_known (length p.notices.promises) (length p.signals) args

-- The operations of a page: a callback within one is called in that place, and no checkpoint follows it. With a number that was not given
-- out they throw TypeError and do nothing.
abbrev pub page_operations : Caller Page → Op → List Value → State → Done Page
page_operations call op args m = branch (may_operate m.host op args) m (operation (in_script call) op args) (throw_fault TypeError)
