-- The tasks of the code as those of the model's page. HTML, "Event loops: definitions"; Prioritized Task Scheduling
use Rattle.std.specs.Prelude.{ℕ, Bool, true, false}
use Rattle.page_values.specs.Seen.{seen}
use Rattle.page_model.specs.State as Model
use Rattle.post_task.specs.declared.level.PrioSource.{PrioSource}
use Rattle.post_task.specs.declared.level.PrioSource.TheVariants as P
use Rattle.page_tasks.specs.declared.tasks.TimerTask.{TimerTask}
use Rattle.page_tasks.specs.declared.tasks.HostTask.{HostTask}
use Rattle.page_tasks.specs.declared.page_task.TaskSteps.{TaskSteps}
use Rattle.page_tasks.specs.declared.page_task.TaskSteps.TheVariants as V
use Rattle.page_tasks.specs.declared.page_task.PostedTask.{PostedTask}
use Rattle.page_tasks.specs.declared.page_task.SchedTask.{SchedTask}
use Rattle.page_tasks.specs.declared.page_task.PageTask.{PageTask}
use Rattle.page_tasks.specs.declared.page_task.PageTask.TheVariants.{OfSource, OfScheduler}

-- the task of a timer
abbrev pub timer_task : TimerTask → Model.TimerTask
timer_task t =
    record {
      registration = t.registration;
      id = t.id;
      handle = t.handle;
      level = t.level;
      repeats = t.repeats;
      timeout = t.timeout;
    }

-- the task of a host closure
abbrev pub host_task : HostTask → Model.HostTask
host_task t = record { registration = t.registration; closure = t.closure; number = t.number }

-- the steps of a task
abbrev pub steps_of : TaskSteps → Model.Steps
steps_of V.RunScript = Model.RunScript
steps_of (V.RunTimer t) = Model.RunTimer (timer_task t)
steps_of (V.TimeOutSignal s) = Model.TimeOutSignal s
steps_of (V.FireAtWindow event) = Model.FireAtWindow event.value.name (seen event.value.value)
steps_of (V.AnswerHost t) = Model.AnswerHost (host_task t)
steps_of (V.RunFrame t) = Model.RunFrame t.0
steps_of V.InvokeIdle = Model.InvokeIdle
steps_of (V.IdleTimeout handle) = Model.IdleTimeout handle
steps_of (V.NotifyRejected ps) = Model.NotifyRejected ps.items
steps_of (V.NotifyHandled n) = Model.NotifyHandled n

-- the priority source of a scheduler task
abbrev pub prio_source : PrioSource → Model.PrioSource
prio_source (P.Fixed priority) = Model.Fixed priority
prio_source (P.Signal s) = Model.OfSignal s

-- a scheduler task that was taken
abbrev pub sched_task : SchedTask → Model.SchedTask
sched_task t =
    record {
      registration = t.registration;
      source = prio_source t.source;
      continuation = t.continuation;
      order = t.order;
    }

-- a scheduler task in its queue, under its order
abbrev pub posted_task : ℕ → PostedTask → Model.SchedTask
posted_task order t =
    record {
      registration = t.registration;
      source = prio_source t.source;
      continuation = t.continuation;
      order = order;
    }

-- whether a queued task is one of a task source
abbrev pub has_steps : PageTask → Bool
has_steps (OfSource steps) = true
has_steps (OfScheduler t) = false

-- the steps of a task of a task source; a scheduler task, which stands in no list of theirs, has none of its own
abbrev pub steps_in : PageTask → Model.Steps
steps_in (OfSource steps) = steps_of steps.value
steps_in (OfScheduler t) = Model.RunScript

-- the registration of a scheduler task; a task of a task source, which stands in no list of theirs, has none
abbrev pub registration_in : PageTask → ℕ
registration_in (OfSource steps) = 0
registration_in (OfScheduler t) = t.registration
