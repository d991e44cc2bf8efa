-- The pool holds the tasks, whatever else is told of them, and what is sure to find memory in it stays.
use Rattle.std.proofs.Common.{◌≡◌, ◌≤◌, ◌+◌, ℕ, suc, arith}
use Rattle.task_pool.specs.Lists.{Lists}
use Rattle.page_tasks.specs.declared.page_task.PageTask.{PageTask}
use Rattle.page_tasks.specs.Held.{Holds}
use Rattle.page_tasks.specs.Queued.{Queued}
use Rattle.page_state.specs.Pooled.{HoldsTasks, HasRoom}

pub holds-tasks : (pool : Lists PageTask) (q : Queued) → Holds pool q
    → HoldsTasks pool (record { tasks = q.tasks; sched_tasks = q.sched_tasks; tasks_made = q.tasks_made })
holds-tasks pool q h = record {
  each = λ entry stands. record { one = (h.each entry stands).one };
  tasks = h.tasks;
  sched_tasks = h.sched_tasks;
  many = h.many;
}

-- a further number is given out, and a cell at most is taken
pub room-queued : (room : ℕ) (old new : Queued) → HasRoom room old → new.tasks_made ≡ suc old.tasks_made → old.spare ≤ new.spare + 1
    → HasRoom room new
room-queued room old new h made spare = omega arith

-- no number is given out, and no cell is taken
pub room-kept : (room : ℕ) (old new : Queued) → HasRoom room old → new.tasks_made ≡ old.tasks_made → old.spare ≤ new.spare → HasRoom room new
room-kept room old new h made spare = omega arith
