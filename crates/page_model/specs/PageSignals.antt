-- Dispatch, abort and priority change of a page: folds in which callbacks nest.
use Rattle.std.specs.Prelude.{ℕ, zero, suc, Bool, false, if◌then◌else◌, ◌||◌, List, [], ◌∷◌, map, Option, Some, None, codes, ◌==◌, find, unwrap_or, slice_get, slice_set, option_map}
use Rattle.page_types.specs.Values.{Value, UnitValue, TextValue, SignalValue}
use Rattle.page_types.specs.declared.Priority.{Priority}
use Rattle.page_types.specs.Events.{Abort, Prio, Drop}
use Rattle.page_parts.specs.Words.{without, is_there}
use Rattle.page_parts.specs.Spelling.{priority_text}
use Rattle.lang_meaning.specs.Machine.{Done, afterwards, finish, branch}
use Rattle.page_parts.specs.AbortGraph.{the_signal, marked, with_reason, with_algorithms, add_algorithm, remove_algorithm}
use Rattle.page_parts.specs.AbortGraph as AbortGraph
use Rattle.page_parts.specs.TaskSignals as TaskSignals
use Rattle.page_parts.specs.TaskSignals.{Prios, priority_of, same_priority, followers}
use Rattle.page_parts.specs.Listeners.{Target, AtSignal, snapshot, is_listening}
use Rattle.page_model.specs.State.{Steps, RunScript, RunTimer, TimeOutSignal, FireAtWindow, AnswerHost, RunFrame, InvokeIdle, IdleTimeout, NotifyRejected, NotifyHandled, HostTask, HostAnswer, Task, Completion, QueueTimer, EnqueuePost, QueueSignal, Page, State, on_page, the_registration, emit, emit_each}
use Rattle.page_parts.specs.HostClosures.{HostClosure}
use Rattle.page_types.specs.declared.HostMark.TheVariants.{Dropped}
use Rattle.page_model.specs.PagePromises as promises
use Rattle.page_model.specs.SchedulerTasks.{without_sched}
use Rattle.page_model.specs.Invoke.{Ways, invoke}

-- one step for each number in turn, until fuel ends
abbrev pub each_in_turn : List ℕ → (ℕ → State → Done Page) → State → Done Page
each_in_turn [] step m = finish m
each_in_turn (n ∷ ns) step m = afterwards (step n m) (λ m. each_in_turn ns step m)

-- ---- DOM, "Dispatching events". Ours: at one target, with no bubbling

-- a listener is called, unless it was removed
abbrev pub call_listener : Ways → List Value → ℕ → State → Done Page
call_listener w args r m = branch (is_listening r m.host.listeners) m (invoke w r false args) finish

-- an event is fired: the listeners as they are at its start are called in order, but those removed since
abbrev pub dispatch : Ways → Target → List ℕ → List Value → State → Done Page
dispatch w target name args m = each_in_turn (snapshot target name m.host.listeners) (call_listener w args) m

-- ---- DOM, "Interface AbortSignal": signal abort

-- whether a signal is aborted
abbrev pub is_aborted : Page → ℕ → Bool
is_aborted p s = AbortGraph.is_aborted p.signals s

-- the same of an abort source, where there is one
abbrev pub is_aborted_source : Page → Option ℕ → Bool
is_aborted_source p None = false
is_aborted_source p (Some s) = is_aborted p s

-- the reason of a signal, and unit where it is not aborted
abbrev pub reason_value : Page → ℕ → Value
reason_value p s = unwrap_or (AbortGraph.reason_of p.signals s) UnitValue

-- whether completion steps are those of this registration's delayed `postTask`
abbrev pub is_delay_of : ℕ → Completion → Bool
is_delay_of r (QueueTimer t) = false
is_delay_of r (EnqueuePost q source) = q == r
is_delay_of r (QueueSignal q s) = false

-- what a net task asks of a closure; nothing of any other task
abbrev pub host_task_of : Steps → Option HostTask
host_task_of RunScript = None
host_task_of (RunTimer t) = None
host_task_of (TimeOutSignal s) = None
host_task_of (FireAtWindow name v) = None
host_task_of (AnswerHost t) = Some t
host_task_of (RunFrame t) = None
host_task_of InvokeIdle = None
host_task_of (IdleTimeout handle) = None
host_task_of (NotifyRejected ps) = None
host_task_of (NotifyHandled n) = None

-- whether it was asked by this registration
abbrev pub is_for : ℕ → Option HostTask → Bool
is_for r None = false
is_for r (Some t) = t.registration == r

-- the host answer that is pending for a registration
abbrev pub waiting_answer : ℕ → Page → Option HostAnswer
waiting_answer r p = find (λ a. a.task.registration == r) p.host_answers

-- the net task of a registration that has not begun
abbrev pub waiting_net_task : ℕ → Page → Option Task
waiting_net_task r p = find (λ t. is_for r (host_task_of t.steps)) p.tasks

-- the registration's task, delay or host answer has not begun
abbrev pub has_not_begun : ℕ → Page → Bool
has_not_begun r p =
    is_there (find (λ t. t.registration == r) p.sched_tasks)
    || is_there (find (λ c. is_delay_of r c.completion) p.completions)
    || is_there (waiting_answer r p)
    || is_there (waiting_net_task r p)

-- a closure after it was dropped
abbrev pub closure_dropped : HostClosure → HostClosure
closure_dropped c = record c { mark = Dropped }

-- closure number k is dropped, where there is one
abbrev pub drop_at : ℕ → Option HostClosure → List HostClosure → List HostClosure
drop_at k None hosts = hosts
drop_at k (Some c) hosts = slice_set hosts k (closure_dropped c)

-- the closure that was asked is dropped
abbrev pub drop_closure : Option HostTask → List HostClosure → List HostClosure
drop_closure None hosts = hosts
drop_closure (Some t) hosts = drop_at t.closure (slice_get hosts t.closure) hosts

-- what a pending answer was asked
abbrev pub task_in_answer : Option HostAnswer → Option HostTask
task_in_answer a = option_map (λ x. x.task) a

-- what a net task was asked
abbrev pub task_in_net : Option Task → Option HostTask
task_in_net None = None
task_in_net (Some t) = host_task_of t.steps

-- A registration is dropped: its scheduler task leaves the queue; its host answer is no longer pending and the closure is dropped. A
-- delay stays an active timer, and a net task stays in its queue.
abbrev pub drop_registration : ℕ → Page → Page
drop_registration r p =
    emit (Drop r)
    (without_sched r
    (record p {
      hosts = drop_closure (task_in_answer (waiting_answer r p)) (drop_closure (task_in_net (waiting_net_task r p)) p.hosts);
      host_answers = without (λ a. a.task.registration == r) p.host_answers;
    }))

-- Prioritized Task Scheduling, "Scheduling Tasks and Continuations": the abort steps of a registration: its promise is rejected with the
-- reason, and it is dropped where it had not begun
abbrev pub abort_registration : Value → ℕ → Page → Page
abort_registration reason r p =
    (if has_not_begun r p then drop_registration r else (λ q. q)) (promises.reject (the_registration p r).promise reason p)

-- the abort steps of registrations in a row
abbrev pub abort_registrations : Value → List ℕ → Page → Page
abort_registrations reason [] p = p
abort_registrations reason (r ∷ more) p = abort_registrations reason more (abort_registration reason r p)

-- the algorithms of a signal, in order, which empties them
abbrev pub run_algorithms : ℕ → Page → Page
run_algorithms s p =
    abort_registrations (reason_value p s) (the_signal p.signals s).algorithms (record p { signals = with_algorithms s [] p.signals })

-- the abort steps of a signal: its algorithms, and then `abort` is fired
abbrev pub abort_steps : Ways → ℕ → State → Done Page
abort_steps w s m = dispatch w (AtSignal s) (codes "abort") (SignalValue s ∷ []) (on_page (run_algorithms s) m)

-- the reason is set on all signals, with an `abort` line for each
abbrev pub reason_set : Value → List ℕ → Page → Page
reason_set reason ss p = emit_each (map Abort ss) (record p { signals = with_reason reason ss p.signals })

-- the reason is set on all signals, and then come the abort steps of each
abbrev pub abort_each : Ways → Value → List ℕ → State → Done Page
abort_each w reason ss m = each_in_turn ss (abort_steps w) (on_page (reason_set reason ss) m)

-- a signal is aborted: the reason is set on all, and then come the abort steps of each
abbrev pub abort : Ways → ℕ → Value → State → Done Page
abort w s reason m = abort_each w reason (marked s m.host.signals) m

-- the abort steps of a registration are added to its signal, where it has one
abbrev pub watch : Option ℕ → ℕ → Page → Page
watch None r p = p
watch (Some s) r p = record p { signals = add_algorithm s r p.signals }

-- the abort steps of a registration are taken off its signal
abbrev pub unwatch : ℕ → Page → Page
unwatch r p = elim (the_registration p r).signal [ None ↦ p | Some s ↦ record p { signals = remove_algorithm s r p.signals } ]

-- ---- Prioritized Task Scheduling, "The TaskSignal Interface": signal priority change

-- a priority as a value, unit for none
abbrev pub priority_value : Option Priority → Value
priority_value None = UnitValue
priority_value (Some priority) = TextValue (priority_text priority)

-- a signal is given its first priority, with the line
abbrev pub give_priority : ℕ → Priority → Page → Page
give_priority s priority p = emit (Prio s priority) (record p { prios = TaskSignals.give s priority p.prios })

-- a change begins, with the `prio` line
abbrev pub change_begun : ℕ → Priority → Page → Page
change_begun s priority p = emit (Prio s priority) (record p { prios = TaskSignals.begun s priority p.prios })

-- a change ends
abbrev pub change_ended : ℕ → Page → Page
change_ended s p = record p { prios = TaskSignals.ended s p.prios }

-- a change of s that does something: the priority is set, `prioritychange` is fired, and the same is done for each signal that followed s
-- then, by `each`.
-- Ours: this order, and that the change of s is in progress until those of its followers are done
abbrev pub change_through : Ways → ℕ → Priority → (ℕ → State → Done Page) → State → Done Page
change_through w s priority each m =
    let before = m.host.prios in
    afterwards
    (dispatch w (AtSignal s) (codes "prioritychange") (SignalValue s ∷ priority_value (priority_of before s) ∷ [])
    (on_page (change_begun s priority) m))
    (λ m. afterwards (each_in_turn (followers before s) each m) (λ m. finish (on_page (change_ended s) m)))

-- whether a signal has exactly this priority
abbrev pub has_priority : Prios → ℕ → Priority → Bool
has_priority ps s priority = elim (priority_of ps s) [ None ↦ false | Some own ↦ same_priority own priority ]

-- A priority change passes over a signal whose change is in progress or which has the priority. No chain of followers is longer than n.
abbrev pub change : Ways → Priority → (zero s : ℕ) → State → Done Page
change w priority zero s m = finish m
change w priority (suc n) s m =
    branch (TaskSignals.is_changing m.host.prios s || has_priority m.host.prios s priority) m finish
    (change_through w s priority (change w priority n))
