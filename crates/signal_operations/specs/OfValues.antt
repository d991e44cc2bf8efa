-- What the operations of signals, listeners, scheduler tasks and host closures do with arguments as the code has them.
use Rattle.std.specs.Prelude.{ℕ, List, Option}
use Rattle.page_types.specs.Values.{BoolValue, SignalValue}
use Rattle.page_types.specs.declared.FaultName.TheVariants.{TypeError}
use Rattle.page_types.specs.declared.Priority.{Priority}
use Rattle.page_parts.specs.Kinds.{controller_in}
use Rattle.page_parts.specs.TaskSignals.{priority_of}
use Rattle.page_values.specs.declared.Func.{Func}
use Rattle.page_values.specs.declared.Value.{Value}
use Rattle.page_values.specs.Seen.{seen, seen_func}
use Rattle.lang_meaning.specs.Machine.{Done, Gives, given}
use Rattle.page_model.specs.State.{Page, State}
use Rattle.page_model.specs.Operations as model
use Rattle.page_model.specs.PageSignals.{is_aborted, priority_value, reason_value}
use Rattle.post_task.specs.declared.level.PrioSource.{PrioSource}
use Rattle.page_tasks.specs.Seen.{prio_source}

-- ---- DOM, "Interface AbortController" and "Interface AbortSignal"; Prioritized Task Scheduling, "The TaskSignal Interface"

-- `signal`
abbrev pub signal_told : Value → State → Done Page
signal_told controller = λ m. given (controller_in (seen controller)) TypeError m (λ s m. Gives (SignalValue s) m)

-- `aborted`
abbrev pub aborted_told : Value → State → Done Page
aborted_told signal = model.of_signal (seen signal) (λ s p. BoolValue (is_aborted p s))

-- `reason`
abbrev pub reason_told : Value → State → Done Page
reason_told signal = model.of_signal (seen signal) (λ s p. reason_value p s)

-- `priority`
abbrev pub priority_told : Value → State → Done Page
priority_told signal = model.of_signal (seen signal) (λ s p. priority_value (priority_of p.prios s))

-- `taskAny`
abbrev pub task_any_of : (list priority : Value) → State → Done Page
task_any_of list priority = model.make_task_any (seen list) (seen priority)

-- the same of the numbers of the signals, with a priority and the signal that is followed
abbrev pub any_of : List ℕ → Priority → (follows : Option ℕ) → State → Done Page
any_of signals priority follows = model.any_with_priority signals priority follows

-- ---- DOM, "Interface EventTarget"

-- `listen`
abbrev pub listen_of : (target name callback : Value) → State → Done Page
listen_of target name callback = model.listen (seen target) (seen name) (seen callback)

-- `unlisten`
abbrev pub unlisten_of : Value → State → Done Page
unlisten_of registration = model.with_handle (seen registration) model.listener_removed

-- ---- Prioritized Task Scheduling, "The Scheduler Interface"

-- `postTask`
abbrev pub post_of : (callback priority signal milliseconds : Value) → State → Done Page
post_of callback priority signal ms = model.post_task (seen callback) (seen priority) (seen signal) (seen ms)

-- the same with arguments of the right kinds
abbrev pub post_with : Func → Option Priority → (signal : Option ℕ) → (milliseconds : ℕ) → State → Done Page
post_with callback priority signal ms = model.post_accepted (seen_func callback) priority signal ms

-- its registration, and its task that is enqueued now or after the delay
abbrev pub queued_with : Func → PrioSource → (signal : Option ℕ) → (milliseconds : ℕ) → Page → Page
queued_with callback source signal ms = model.post_queued (seen_func callback) (prio_source source) signal ms

-- the promise that is rejected with the reason of an abort source
abbrev pub rejected_for : Option ℕ → State → Done Page
rejected_for signal = λ m. model.rejected_with (model.source_reason m.host signal) m

-- ---- Ours: questions to host closures

-- `host`
abbrev pub host_of : (closure number signal : Value) → State → Done Page
host_of closure number signal = model.host (seen closure) (seen number) (seen signal)
