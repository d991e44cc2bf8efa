-- What stands in the pool of a page's queued tasks. Ours: the standards do not say how queues are stored
use Rattle.std.specs.Prelude.{ℕ, [], ◌+◌, ◌-◌, ◌≤◌}
use Rattle.task_pool.specs.Lists.{Lists}
use Rattle.page_tasks.specs.declared.page_task.PageTask.{PageTask}
use Rattle.page_tasks.specs.Held.{Holds}
use Rattle.page_tasks.specs.Queued.{Queued}
use Rattle.page_state.specs.Standing.{TaskFields, Standing}

-- the lists of the pool hold these tasks and nothing else, each once, under its number and with its content
abbrev pub HoldsTasks : Lists PageTask → TaskFields → Type 0
HoldsTasks pool t =
    Holds pool (record { tasks = t.tasks; sched_tasks = t.sched_tasks; tasks_made = t.tasks_made; priorities = []; spare = 0 })

-- so many tasks in all are sure to find memory in the pool: those that have a number, and as many more as it has to spare
abbrev pub HasRoom : ℕ → Queued → Type 0
HasRoom room q = room ≤ q.tasks_made + q.spare

-- how many more tasks are sure to find memory in the pool
abbrev pub spare_of : Standing → ℕ
spare_of s = s.room - s.tasks.tasks_made
