-- The task of a source, with the answer of the host closure that it asks.
use Rattle.std.specs.Prelude.{ℤ, Option, Some, None, option_map, option_and_then, Result, slice_get}
use Rattle.page_types.specs.declared.Source.{Source}
use Rattle.page_types.specs.declared.Source.TheVariants.{Sched}
use Rattle.page_parts.specs.HostClosures.{HostClosure}
use Rattle.lang_meaning.specs.Machine.{Done, finish, afterwards, Caller}
use Rattle.page_model.specs.State.{Page, State, Steps, Task, HostTask, SchedTask, on_page}
use Rattle.page_model.specs.PageTime.{first_task}
use Rattle.page_model.specs.SchedulerTasks.{first_sched, without_sched}
use Rattle.page_model.specs.Invoke.{in_task}
use Rattle.page_model.specs.PageSignals.{host_task_of}
use Rattle.page_model.specs.Tasks.{perform_steps, perform_sched, answer_host, after_task}
use Rattle.page_model.specs.Turns.{not_dropped, without_task}

-- ---- HTML, "Event loops: processing model": performing a task. Ours: the answer of a host closure stands beside it

-- the closure of a net task that is performed on this page, unless it was dropped
abbrev pub live_closure : Page → HostTask → Option HostClosure
live_closure p t = not_dropped (slice_get p.hosts t.closure)

-- a task that asks a host closure, with its answer; nothing is done where the closure was dropped
abbrev pub answered : Option HostClosure → HostTask → Result ℤ ℤ → State → Done Page
answered None t answer m = finish m
answered (Some k) t answer m = finish (on_page (answer_host t answer) m)

-- the steps of a task that has left its queue, by what it asks
abbrev pub steps_with : Caller Page → Steps → Option HostTask → Result ℤ ℤ → State → Done Page
steps_with call steps None answer m = perform_steps (in_task call) steps m
steps_with call steps (Some t) answer m = answered (live_closure m.host t) t answer m

-- the first task of a queue
abbrev pub first_with : Caller Page → Option Task → Result ℤ ℤ → State → Done Page
first_with call None answer m = finish m
first_with call (Some task) answer m = steps_with call task.steps (host_task_of task.steps) answer (on_page (without_task task.number) m)

-- the scheduler task that is next
abbrev pub sched_with : Caller Page → Option SchedTask → State → Done Page
sched_with call None m = finish m
sched_with call (Some t) m = perform_sched (in_task call) t (on_page (without_sched t.registration) m)

-- the first task of a source
abbrev pub source_with : Caller Page → Source → Result ℤ ℤ → State → Done Page
source_with call Sched answer m = sched_with call (first_sched m.host) m
source_with call source answer m = first_with call (first_task source m.host.tasks) answer m

-- the same with the checkpoint behind it
abbrev pub performed : Caller Page → Source → Result ℤ ℤ → State → Done Page
performed call source answer m = afterwards (source_with call source answer m) (after_task call)

-- the host task of a task, and its closure as it is once the task has left its queue, unless it was dropped
pub record Asking : Type 0 where
  pub asked : HostTask
  pub closure : HostClosure

abbrev pub asking : HostTask → Option HostClosure → Option Asking
asking t k = option_map (λ c. record { asked = t; closure = c }) k

-- what a task's steps ask on this page, if they ask a closure that was not dropped
abbrev pub steps_asking : Page → Steps → Option Asking
steps_asking p steps = option_and_then (λ h. asking h (live_closure p h)) (host_task_of steps)

-- the same of a task, where there is one
abbrev pub asking_of : Page → Option Task → Option Asking
asking_of p task = option_and_then (λ (t : Task). steps_asking p t.steps) task

-- what the first task of a source asks, if it asks a closure that was not dropped
abbrev pub first_asking : Source → Page → Option Asking
first_asking Sched p = None
first_asking source p = asking_of p (first_task source p.tasks)
