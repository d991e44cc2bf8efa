-- What is noted of the tasks of host closures. Ours
use Rattle.std.specs.Prelude.{◌≡◌, ℕ, List, Option, Some, None, find, ◌==◌}
use Rattle.std.specs.Option.{option_map}
use Rattle.page_model.specs.State.{Page}
use Rattle.page_model.specs.PageSignals.{task_in_net, waiting_net_task}
use Rattle.page_tasks.specs.declared.asked.Asked.{Asked}
use Rattle.page_tasks.specs.declared.tasks.HostTask.{HostTask}
use Rattle.page_tasks.specs.declared.page_task.TaskSteps.{TaskSteps}
use Rattle.page_tasks.specs.declared.page_task.TaskSteps.TheVariants as V
use Rattle.page_tasks.specs.Seen.{host_task}

-- the task of a host closure that these steps are
abbrev pub host_task_in : TaskSteps → Option HostTask
host_task_in V.RunScript = None
host_task_in (V.RunTimer t) = None
host_task_in (V.TimeOutSignal s) = None
host_task_in (V.FireAtWindow event) = None
host_task_in (V.AnswerHost t) = Some t
host_task_in (V.RunFrame t) = None
host_task_in V.InvokeIdle = None
host_task_in (V.IdleTimeout handle) = None
host_task_in (V.NotifyRejected ps) = None
host_task_in (V.NotifyHandled n) = None

-- what is noted of a task that has these steps
abbrev pub asked_by : ℕ → TaskSteps → Option Asked
asked_by number steps = option_map (λ task. record { number = number; task = task }) (host_task_in steps)

-- the first task noted that a registration asked for
abbrev pub asked_for : ℕ → List Asked → Option HostTask
asked_for r asked = option_map (λ (a : Asked). a.task) (find (λ (a : Asked). a.task.registration == r) asked)

-- this is what a host closure is asked by the first task of a page that waits for its answer to a registration
abbrev pub IsNetTask : Option HostTask → (registration : ℕ) → Page → Type 0
IsNetTask result registration p = option_map host_task result ≡ task_in_net (waiting_net_task registration p)
