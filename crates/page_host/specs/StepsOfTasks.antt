-- The steps of the script machine that tasks are, by what the code hands to their calls.
use Rattle.std.specs.Prelude.{ℕ, List, [], ◌∷◌, map, Result}
use Rattle.page_parts.specs.Listeners.{Window}
use Rattle.page_values.specs.declared.Value.{Value}
use Rattle.page_values.specs.Seen.{seen}
use Rattle.promise_core.specs.Seen.{settled_seen}
use Rattle.page_events.specs.declared.target.Target.{Target}
use Rattle.page_events.specs.Seen.{seen_target}
use Rattle.page_tasks.specs.declared.page_task.SchedTask.{SchedTask}
use Rattle.page_tasks.specs.declared.page_task.WindowEvent.{WindowEvent}
use Rattle.page_tasks.specs.declared.tasks.TimerTask.{TimerTask}
use Rattle.page_tasks.specs.Seen.{sched_task, timer_task}
use Rattle.lang_meaning.specs.Machine.{Done, Caller}
use Rattle.page_model.specs.State.{Page, State, Steps, TimeOutSignal}
use Rattle.page_model.specs.Invoke.{in_task}
use Rattle.page_model.specs.PageSignals.{abort, abort_steps, call_listener, dispatch, each_in_turn}
use Rattle.page_model.specs.SchedulerTasks.{first_sched}
use Rattle.page_model.specs.Tasks.{invoke_idle, notify_one, perform_sched, perform_steps, run_frame, run_timer}
use Rattle.page_host.specs.Performed.{sched_with}
use Rattle.page_host.specs.Tasking.{abort_fired, frame_visit, handled_fired, handled_task, post_over, regardless}
use Rattle.page_host.specs.Tasking.{timeout_task, unhandled_fired}

-- ---- HTML, "Event loops: processing model"

-- the steps of a task of a task source, whatever they give or throw
abbrev pub steps_done : Steps → Caller Page → State → Done Page
steps_done steps = λ call. regardless (perform_steps (in_task call) steps)

-- ---- DOM, "Dispatching events"

-- an event is fired at a target
abbrev pub fired : Target → (name : List ℕ) → List Value → Caller Page → State → Done Page
fired target name args = λ call. dispatch (in_task call) (seen_target target) name (map seen args)

-- an event of an arrival is fired at the window, with its value
abbrev pub arrival_fired : WindowEvent → Caller Page → State → Done Page
arrival_fired event = λ call. dispatch (in_task call) Window event.name (seen event.value ∷ [])

-- the listeners that are left are called in order, but those removed since
abbrev pub listeners_called : (left : List ℕ) → List Value → Caller Page → State → Done Page
listeners_called left args = λ call. each_in_turn left (call_listener (in_task call) (map seen args))

-- ---- DOM, "Interface AbortSignal": signal abort

-- a signal is aborted
abbrev pub signal_aborted : (s : ℕ) → (reason : Value) → Caller Page → State → Done Page
signal_aborted s reason = λ call. abort (in_task call) s (seen reason)

-- the abort steps of a signal
abbrev pub abort_done : (s : ℕ) → Caller Page → State → Done Page
abort_done s = λ call. abort_steps (in_task call) s

-- those of each of these signals, one after another
abbrev pub each_abort_done : (signals : List ℕ) → Caller Page → State → Done Page
each_abort_done signals = λ call. each_in_turn signals (abort_steps (in_task call))

-- `abort` is fired at a signal
abbrev pub abort_told : (s : ℕ) → Caller Page → State → Done Page
abort_told s = λ call. abort_fired (in_task call) s

-- a signal is aborted by its timeout
abbrev pub signal_timed_out : (s : ℕ) → Caller Page → State → Done Page
signal_timed_out s = λ call. perform_steps (in_task call) (TimeOutSignal s)

-- ---- HTML, "Unhandled promise rejections"

-- scripts are notified about a promise that is still unhandled
abbrev pub rejection_notified : (n : ℕ) → Caller Page → State → Done Page
rejection_notified n = λ call. notify_one (in_task call) n

-- about each of these promises, one after another
abbrev pub each_notified : (promises : List ℕ) → Caller Page → State → Done Page
each_notified promises = λ call. each_in_turn promises (notify_one (in_task call))

-- `unhandledrejection` is fired behind its line
abbrev pub unhandled_told : (n : ℕ) → List Value → Caller Page → State → Done Page
unhandled_told n args = λ call. unhandled_fired (in_task call) n (map seen args)

-- scripts are notified that a promise was handled after all
abbrev pub handling_notified : (n : ℕ) → Caller Page → State → Done Page
handling_notified n = λ call. handled_task (in_task call) n

-- `rejectionhandled` is fired behind its line
abbrev pub handled_told : (n : ℕ) → List Value → Caller Page → State → Done Page
handled_told n args = λ call. handled_fired (in_task call) n (map seen args)

-- ---- HTML, "Timers" and "Animation frames"

-- the task of a timer
abbrev pub timer_run : TimerTask → Caller Page → State → Done Page
timer_run task = λ call. run_timer (in_task call) (timer_task task)

-- the task of a frame
abbrev pub frame_run : (time : ℕ) → Caller Page → State → Done Page
frame_run time = λ call. run_frame (in_task call) time

-- these keys are visited, one after another
abbrev pub keys_visited : (time : ℕ) → (keys : List ℕ) → Caller Page → State → Done Page
keys_visited time keys = λ call. each_in_turn keys (frame_visit (in_task call) time)

-- a key is visited, whatever its callback gives or throws
abbrev pub key_visited : (time : ℕ) → (key : ℕ) → Caller Page → State → Done Page
key_visited time key = λ call. regardless (frame_visit (in_task call) time key)

-- ---- requestIdleCallback, "Invoke idle callbacks algorithm" and "Invoke idle callback timeout algorithm"

-- the first runnable idle callback is called
abbrev pub idle_invoked : Caller Page → State → Done Page
idle_invoked = λ call. invoke_idle (in_task call)

-- an idle timeout, whatever its callback gives or throws
abbrev pub idle_timed_out : (handle : ℕ) → Caller Page → State → Done Page
idle_timed_out handle = λ call. regardless (timeout_task (in_task call) handle)

-- ---- Prioritized Task Scheduling, "Scheduling Tasks and Continuations"

-- a scheduler task that has left its queue
abbrev pub sched_performed : SchedTask → Caller Page → State → Done Page
sched_performed task = λ call. perform_sched (in_task call) (sched_task task)

-- the scheduler task that is next leaves its queue, whatever it gives or throws
abbrev pub next_sched_performed : Caller Page → State → Done Page
next_sched_performed = λ call. regardless (λ s. sched_with call (first_sched s.host) s)

-- after a posted callback its promise is settled with what it gave or threw
abbrev pub post_settled : (r promise : ℕ) → Result Value Value → Page → Page
post_settled r promise how = post_over r promise (settled_seen how)
