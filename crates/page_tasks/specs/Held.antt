-- What stands in the pool of a page's queued tasks. Ours: the standards do not say how queues are stored
use Rattle.std.specs.Prelude.{◌≡◌, ◌⊎◌, ℕ, ◌+◌, List, [], ◌∷◌, length}
use Rattle.page_model.specs.State.{Task, SchedTask}
use Rattle.task_pool.specs.Lists.{Entry, Lists, list_of, count}
use Rattle.page_tasks.specs.declared.page_task.PageTask.{PageTask}
use Rattle.page_tasks.specs.declared.page_task.PageTask.TheVariants.{OfSource, OfScheduler}
use Rattle.page_tasks.specs.Seen.{steps_of, posted_task}
use Rattle.page_tasks.specs.Queued.{Queued}

-- one of these
abbrev pub IsIn : {X : Type 0} → X → List X → Type 0
IsIn x [] = ⊥
IsIn x (y ∷ ys) = (y ≡ x) ⊎ IsIn x ys

-- a task of a source that has these steps
abbrev pub IsTaskOf : Task → ℕ → PageTask → Type 0
IsTaskOf t number (OfSource steps) = (t.number ≡ number) × (t.steps ≡ steps_of steps.value)
IsTaskOf t number (OfScheduler posted) = ⊥

-- a scheduler task with this content
abbrev pub IsSchedTaskOf : SchedTask → ℕ → PageTask → Type 0
IsSchedTaskOf t number (OfSource steps) = ⊥
IsSchedTaskOf t number (OfScheduler posted) = t ≡ posted_task number posted

-- what has this number and content is queued
pub record IsQueued (q : Queued) (number : ℕ) (content : PageTask) : Type 0 where
  pub one : ((t : Task) × IsIn t q.tasks × IsTaskOf t number content)
      ⊎ ((t : SchedTask) × IsIn t q.sched_tasks × IsSchedTaskOf t number content)

-- an entry of some list of the pool
pub record StandsIn (pool : Lists PageTask) (entry : Entry PageTask) : Type 0 where
  pub list : ℕ
  pub stands : IsIn entry (list_of pool list)

-- the lists of the pool hold the queued tasks and nothing else, each under its number and with its content; they are as many, so each
-- stands once
pub record Holds (pool : Lists PageTask) (q : Queued) : Type 0 where
  pub each : (entry : Entry PageTask) → StandsIn pool entry → IsQueued q entry.number entry.item
  pub tasks : (t : Task) → IsIn t q.tasks → (entry : Entry PageTask) × StandsIn pool entry × IsTaskOf t entry.number entry.item
  pub sched_tasks : (t : SchedTask) → IsIn t q.sched_tasks
      → (entry : Entry PageTask) × StandsIn pool entry × IsSchedTaskOf t entry.number entry.item
  pub many : count pool.lists ≡ length q.tasks + length q.sched_tasks
