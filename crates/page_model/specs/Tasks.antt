-- What a task does.
use Rattle.std.specs.Prelude.{ℕ, ℤ, false, if◌then◌else◌, List, [], ◌∷◌, Option, Some, None, pos, nat_lt, codes, Result, Ok, Err, slice_get, slice_set}
use Rattle.page_types.specs.Values.{Value, UnitValue, IntValue, PromiseValue, DeadlineValue}
use Rattle.page_types.specs.declared.FaultName.TheVariants.{TimeoutError}
use Rattle.page_types.specs.declared.Source.TheVariants.{Idle}
use Rattle.page_types.specs.declared.Priority.TheVariants.{Background}
use Rattle.page_types.specs.Events.{Ret, Frame, IdleLine, Unhandled, Handled, Host}
use Rattle.page_parts.specs.Words.{is_empty}
use Rattle.page_parts.specs.Kinds.{a_fault}
use Rattle.lang_meaning.specs.Machine.{Done, afterwards, finish, branch, Caller}
use Rattle.page_parts.specs.Promises.{settled_value}
use Rattle.page_parts.specs.Notices as Notices
use Rattle.page_parts.specs.Timers.{is_live}
use Rattle.page_parts.specs.Frames.{Callback, callback_in, keys}
use Rattle.page_parts.specs.Listeners.{Window}
use Rattle.page_model.specs.State.{TimerTask, HostTask, Steps, RunScript, RunTimer, TimeOutSignal, FireAtWindow, AnswerHost, RunFrame, InvokeIdle, IdleTimeout, NotifyRejected, NotifyHandled, SchedTask, Fixed, SchedulingState, Page, State, on_page, the_registration, emit, queue_task}
use Rattle.page_parts.specs.HostClosures.{HostClosure, fired}
use Rattle.page_model.specs.PagePromises as promises
use Rattle.page_model.specs.PagePromises.{promise_at}
use Rattle.page_model.specs.PageTime.{init_timer, clear_id, without_frame, deadline, idle_callback, without_idle}
use Rattle.page_model.specs.SchedulerTasks.{with_state}
use Rattle.page_model.specs.Invoke.{Ways, invoke, call_begun, call_ended, settle_derived, checkpoint}
use Rattle.page_model.specs.PageSignals.{each_in_turn, dispatch, abort, unwatch}

-- ---- HTML, "Timers": the task of the timer initialisation steps

-- an interval is initialised again under its id
abbrev pub initialised_again : TimerTask → State → Done Page
initialised_again t m = finish (on_page (init_timer (Some t.id) t.registration t.repeats t.timeout) m)

-- after its callback an interval is initialised again, and any other timer removes its id
abbrev pub timer_goes_on : TimerTask → State → Done Page
timer_goes_on t m = branch t.repeats m (initialised_again t) (λ m. finish (on_page (clear_id t.id) m))

-- what is done where the id is still in the map with this handle
abbrev pub where_live : TimerTask → (State → Done Page) → State → Done Page
where_live t next m = branch (is_live t.id t.handle m.host.timers) m next finish

-- a timer's task tests its id, invokes the callback and makes the same test again. Its nesting level is the current one meanwhile.
abbrev pub run_timer : Ways → TimerTask → State → Done Page
run_timer w t m =
    where_live t (λ m. afterwards (invoke w t.registration false [] m) (where_live t (timer_goes_on t)))
    (on_page (λ p. record p { level = t.level }) m)

-- ---- HTML, "Animation frames": run the animation frame callbacks

-- a callback that is still in the map is removed and invoked with the timestamp
abbrev pub frame_callback : Ways → ℕ → Option Callback → State → Done Page
frame_callback w t None m = finish m
frame_callback w t (Some c) m = invoke w c.registration false (IntValue (pos t) ∷ []) (on_page (without_frame c.handle) m)

-- a frame: each key of the map at its start that is still in it, with the timestamp
abbrev pub run_frame : Ways → ℕ → State → Done Page
run_frame w t m =
    each_in_turn (keys m.host.frames) (λ key m. frame_callback w t (callback_in m.host.frames.callbacks key) m) (on_page (emit (Frame t)) m)

-- ---- requestIdleCallback, "Invoke idle callbacks algorithm". Ours where a present draft differs

-- Ours: an idle callback runs with a scheduling state of fixed priority background
abbrev pub background : SchedulingState
background = record { abort_source = None; prio_source = Fixed Background }

-- an idle callback leaves the lists and is invoked with its deadline
abbrev pub call_idle : Ways → Callback → Option ℕ → State → Done Page
call_idle w c t m =
    invoke w c.registration false (DeadlineValue t ∷ []) (on_page (with_state background) (on_page (without_idle c.handle) m))

-- where callbacks remain, the same task is queued again
abbrev pub invoke_idle_again : Page → Page
invoke_idle_again p = if is_empty p.idle.runnable then p else queue_task Idle InvokeIdle p

-- the first runnable callback is called, with the `idle` line of the deadline computed now
abbrev pub idle_called : Ways → List Callback → State → Done Page
idle_called w [] m = finish m
idle_called w (c ∷ others) m =
    afterwards (call_idle w c None (on_page (λ p. emit (IdleLine (deadline p.last_idle_start p)) p) m))
    (λ m. finish (on_page invoke_idle_again m))

-- the task that invokes idle callbacks: it does nothing once the deadline has come, and the list stays
abbrev pub invoke_idle : Ways → State → Done Page
invoke_idle w m =
    branch (nat_lt m.host.now (deadline m.host.last_idle_start m.host)) m (λ m. idle_called w m.host.idle.runnable m) finish

-- requestIdleCallback, "Invoke idle callback timeout algorithm": a callback that still waits is called, with a deadline fixed at now
abbrev pub timed_out : Ways → Option Callback → State → Done Page
timed_out w None m = finish m
timed_out w (Some c) m = call_idle w c (Some m.host.now) m

-- ---- HTML, "Unhandled promise rejections" (notify about rejected promises)

-- the reason of a rejected promise
abbrev pub promise_reason : Page → ℕ → Value
promise_reason p n = elim (promise_at p n).outcome [ None ↦ UnitValue | Some how ↦ settled_value how ]

-- a promise that is still unhandled joins the outstanding ones
abbrev pub outstanding_if_unhandled : ℕ → Page → Page
outstanding_if_unhandled n p = record p { notices = Notices.note_outstanding n p.notices }

-- for a promise that is still unhandled `unhandledrejection` is fired at the window
abbrev pub notify_one : Ways → ℕ → State → Done Page
notify_one w n m =
    branch (promise_at m.host n).handled m finish (λ m.
    afterwards (dispatch w Window (codes "unhandledrejection") (PromiseValue n ∷ promise_reason m.host n ∷ [])
    (on_page (emit (Unhandled n)) m))
    (λ m. finish (on_page (outstanding_if_unhandled n) m)))

-- ---- HTML, "Event loops: processing model": performing a task; those of the scheduler stand below

-- the steps of a task; those of a host answer stand where its choice is taken
abbrev pub perform_steps : Ways → Steps → State → Done Page
perform_steps w RunScript m = invoke w 1 false [] m
perform_steps w (RunTimer t) m = run_timer w t m
perform_steps w (TimeOutSignal s) m = abort w s (a_fault TimeoutError) m
perform_steps w (FireAtWindow name v) m = dispatch w Window name (v ∷ []) m
perform_steps w (AnswerHost t) m = finish m
perform_steps w (RunFrame t) m = run_frame w t m
perform_steps w InvokeIdle m = invoke_idle w m
perform_steps w (IdleTimeout handle) m = timed_out w (idle_callback handle m.host) m
perform_steps w (NotifyRejected ps) m = each_in_turn ps (notify_one w) m
perform_steps w (NotifyHandled n) m =
    dispatch w Window (codes "rejectionhandled") (PromiseValue n ∷ promise_reason m.host n ∷ []) (on_page (emit (Handled n)) m)

-- ---- Prioritized Task Scheduling, "Scheduling Tasks and Continuations"

-- a continuation resolves its promise; it runs no script
abbrev pub continued : ℕ → Page → Page
continued r p = unwatch r (call_ended Ret (promises.resolve (the_registration p r).promise UnitValue (call_begun r p)))

-- the scheduling state of a posted callback: the signal of its registration and its priority source
abbrev pub post_state : SchedTask → Page → Page
post_state t p = with_state (record { abort_source = (the_registration p t.registration).signal; prio_source = t.source }) p

-- a posted callback runs with its scheduling state; then its promise is settled, and the abort steps are taken off the signal
abbrev pub run_post : Ways → SchedTask → State → Done Page
run_post w t m =
    afterwards
    (settle_derived (the_registration m.host t.registration).promise (invoke w t.registration false [] (on_page (post_state t) m)))
    (λ m. finish (on_page (unwatch t.registration) m))

-- a scheduler task: a continuation, or a posted callback
abbrev pub perform_sched : Ways → SchedTask → State → Done Page
perform_sched w t m = branch t.continuation m (λ m. finish (on_page (continued t.registration) m)) (run_post w t)

-- ---- Ours: the answer of a host closure

-- a closure is fired
abbrev pub fire_closure : ℕ → Option HostClosure → Page → Page
fire_closure k None p = p
fire_closure k (Some c) p = record p { hosts = slice_set p.hosts k (fired c) }

-- the promise is resolved with an Ok answer and rejected with an Err answer
abbrev pub settle_answer : ℕ → Result ℤ ℤ → Page → Page
settle_answer n (Ok v) p = promises.resolve n (IntValue v) p
settle_answer n (Err v) p = promises.reject n (IntValue v) p

-- the task of a host answer: its line, the closure is fired, and the promise is settled
abbrev pub answer_host : HostTask → Result ℤ ℤ → Page → Page
answer_host t answer p =
    unwatch t.registration
    (settle_answer (the_registration p t.registration).promise answer
    (fire_closure t.closure (slice_get p.hosts t.closure) (emit (Host t.closure t.number answer) p)))

-- ---- HTML, "Event loops: processing model"

-- no task is current, and a microtask checkpoint is performed
abbrev pub after_task : Caller Page → State → Done Page
after_task call m = checkpoint call (on_page (λ p. record p { level = 0; scheduling = None }) m)
