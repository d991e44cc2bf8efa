-- What tasks do of the page between their callbacks.
use Rattle.std.specs.Prelude.{ℕ, ℤ, List, [], ◌∷◌, codes, Option, Some, None, Result, Ok, Err, nat_lt, if◌then◌else◌}
use Rattle.page_interp.specs.declared.machine.Ran.{Ran}
use Rattle.page_interp.specs.declared.machine.Ran.TheVariants as ran
use Rattle.page_host.specs.declared.did.Did.{Did}
use Rattle.page_host.specs.declared.did.Did.TheVariants as did
use Rattle.page_types.specs.Values.{Value, IntValue, PromiseValue, SignalValue}
use Rattle.page_types.specs.Events.{Unhandled, Handled, Host}
use Rattle.page_parts.specs.Timers.{is_live}
use Rattle.page_parts.specs.Frames.{callback_in}
use Rattle.page_parts.specs.Listeners.{Window, AtSignal}
use Rattle.lang_meaning.specs.Machine.{Done, afterwards, finish}
use Rattle.page_frames.specs.Fields.{fields_of, with_fields}
use Rattle.page_frames.specs.Steps.{first_registration, first_gone, idle_registration}
use Rattle.page_frames.specs.Laws.{deadline_told}
use Rattle.page_model.specs.State.{TimerTask, HostTask, Page, the_registration, State, on_page, emit}
use Rattle.page_model.specs.PageTime.{init_timer, clear_id, deadline, idle_callback, without_idle}
use Rattle.page_model.specs.PagePromises as promises
use Rattle.page_model.specs.PageSignals.{unwatch, dispatch}
use Rattle.page_model.specs.Invoke.{Ways}
use Rattle.page_model.specs.SchedulerTasks.{with_state}
use Rattle.page_model.specs.Tasks.{background, frame_callback, timed_out, promise_reason}
use Rattle.page_parts.specs.Promises.{Settled, Fulfilled, Failed}

-- ---- Ours: steps

-- a step, whatever it gives or throws
abbrev pub regardless : (State → Done Page) → State → Done Page
regardless step m = afterwards (step m) finish

-- how much of a callback was done, whatever it gave or threw
abbrev pub did_of : Ran → Did
did_of (ran.Value v) = did.Finished
did_of (ran.Throw v) = did.Finished
did_of ran.Fuel = did.Fuel

-- ---- HTML, "Timers"

-- the current nesting level is this one
abbrev pub level_set : ℕ → Page → Page
level_set level p = record p { level = level }

-- after its callback an interval is initialised again, and any other timer removes its id; neither where the id is not in the map with
-- this handle
abbrev pub timer_over : TimerTask → Page → Page
timer_over t p =
    if is_live t.id t.handle p.timers
    then (if t.repeats then init_timer (Some t.id) t.registration t.repeats t.timeout p else clear_id t.id p)
    else p

-- ---- HTML, "Animation frames"

-- a key is visited: its callback, if it is still in the map, is removed and invoked with the timestamp
abbrev pub frame_visit : Ways → (time : ℕ) → (key : ℕ) → State → Done Page
frame_visit w t key m = frame_callback w t (callback_in m.host.frames.callbacks key) m

-- ---- requestIdleCallback, "Invoke idle callbacks algorithm" and "Invoke idle callback timeout algorithm"

-- the registration of the first runnable callback, until the deadline has come
abbrev pub idle_next : Page → Option ℕ
idle_next p = if nat_lt p.now (deadline p.last_idle_start p) then first_registration (fields_of p) else None

-- that callback is taken behind the line of the deadline, and the scheduling state of idle callbacks is current
abbrev pub idle_first : Page → Page
idle_first p = with_state background (with_fields (first_gone (fields_of (deadline_told p))) (deadline_told p))

-- the same, where there is one
abbrev pub idle_begun : Page → Page
idle_begun p = elim (idle_next p) [ None ↦ p | Some r ↦ idle_first p ]

-- a callback that still waits is taken, and the scheduling state of idle callbacks is current
abbrev pub timeout_begun : ℕ → Page → Page
timeout_begun handle p =
    elim (idle_registration handle (fields_of p))
    [ None ↦ without_idle handle p | Some r ↦ with_state background (without_idle handle p) ]

-- the task of an idle timeout
abbrev pub timeout_task : Ways → (handle : ℕ) → State → Done Page
timeout_task w handle m = timed_out w (idle_callback handle m.host) m

-- ---- HTML, "Unhandled promise rejections"

-- what the events of a rejected promise have with them: the promise, and its reason
abbrev pub rejection_args : Page → ℕ → List Value
rejection_args p n = PromiseValue n ∷ promise_reason p n ∷ []

-- `unhandledrejection` is fired behind its line
abbrev pub unhandled_fired : Ways → ℕ → List Value → State → Done Page
unhandled_fired w n args m = dispatch w Window (codes "unhandledrejection") args (on_page (emit (Unhandled n)) m)

-- `rejectionhandled` is fired behind its line
abbrev pub handled_fired : Ways → ℕ → List Value → State → Done Page
handled_fired w n args m = dispatch w Window (codes "rejectionhandled") args (on_page (emit (Handled n)) m)

-- the task that notifies about a promise which was handled after all
abbrev pub handled_task : Ways → ℕ → State → Done Page
handled_task w n m = handled_fired w n (rejection_args m.host n) m

-- ---- DOM, "Interface AbortSignal": signal abort

-- `abort` is fired at a signal, with the signal
abbrev pub abort_fired : Ways → (signal : ℕ) → State → Done Page
abort_fired w s = dispatch w (AtSignal s) (codes "abort") (SignalValue s ∷ [])

-- ---- Prioritized Task Scheduling, "Scheduling Tasks and Continuations"

-- after a posted callback its promise is settled, and its abort steps are taken off its signal
abbrev pub post_over : (registration promise : ℕ) → Settled → Page → Page
post_over r promise how p = unwatch r (promises.settle promise how p)

-- ---- Ours: the answer of a host closure

-- how a promise is settled with an answer
abbrev pub answer_settles : Result ℤ ℤ → Settled
answer_settles (Ok v) = Fulfilled (IntValue v)
answer_settles (Err v) = Failed (IntValue v)

-- the answer of a closure that was fired: its line, and the promise is settled with it
abbrev pub answer_told : HostTask → Result ℤ ℤ → Page → Page
answer_told t answer p =
    unwatch t.registration
    (promises.settle (the_registration p t.registration).promise (answer_settles answer)
    (emit (Host t.closure t.number answer) p))

-- ---- HTML, "Event loops: processing model"

-- a task is over: none is current
abbrev pub no_task : Page → Page
no_task p = record p { level = 0; scheduling = None }
