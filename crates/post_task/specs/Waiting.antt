-- Scheduler tasks that wait, in one list. Prioritized Task Scheduling, "Scheduling Tasks and Continuations" and "Selecting the Task
-- Queue of the Next Scheduler Task"
use Rattle.std.specs.Prelude.{◌≡◌, ◌⊎◌, ℕ, ◌+◌, ◌*◌, ◌≤◌, Bool, false, if◌then◌else◌, not, ◌==◌, List, [], ◌∷◌, ◌++◌, Option, Some, MatchOption}
use Rattle.std.specs.Option.{option_map}
use Rattle.page_types.specs.declared.Priority.{Priority}
use Rattle.page_parts.specs.TaskSignals.{rank, same_priority}
use Rattle.cell_room.specs.declared.room.Cell.{Cell}
use Rattle.task_pool.specs.Lists.{same_cell}
use Rattle.post_task.specs.declared.level.PrioSource.{PrioSource}
use Rattle.post_task.specs.declared.level.PrioSource.TheVariants.{Fixed, Signal}

-- whether two priority sources are the same
abbrev pub same_source : (a b : PrioSource) → Bool
same_source (Fixed a) (Fixed b) = same_priority a b
same_source (Signal a) (Signal b) = a == b
same_source (Fixed a) (Signal b) = false
same_source (Signal a) (Fixed b) = false

-- a task that waits: its cell, its priority source, the priority of that source now, whether it is a continuation, its enqueue order and
-- what is to be done
pub record Waiting (T : Type 0) : Type 0 where
  pub cell : Cell
  pub source : PrioSource
  pub priority : Priority
  pub continuation : Bool
  pub order : ℕ
  pub item : T

module _ {T : Type 0} where
  -- the effective priority of a task now: twice the rank of its priority, and one more for a continuation
  abbrev pub effective : Waiting T → ℕ
  effective task = 2 * rank task.priority + (if task.continuation then 1 else 0)

  -- one of these tasks
  abbrev pub Among : Waiting T → List (Waiting T) → Type 0
  Among task [] = ⊥
  Among task (other ∷ rest) = (other ≡ task) ⊎ Among task rest

  -- among the tasks of greatest effective priority now, the one of least order
  pub record IsFirst (task : Waiting T) (tasks : List (Waiting T)) : Type 0 where
    pub waits : Among task tasks
    pub greatest : (other : Waiting T) → Among other tasks → effective other ≤ effective task
    pub least : (other : Waiting T) → Among other tasks → effective other ≡ effective task → task.order ≤ other.order

  -- this is the order of the first of these tasks
  abbrev pub IsFirstOrder : ℕ → List (Waiting T) → Type 0
  IsFirstOrder order tasks = (task : Waiting T) × IsFirst task tasks × (order ≡ task.order)

  -- what is selected: the order of the first task, none where no task waits
  abbrev pub IsSelected : Option ℕ → List (Waiting T) → Type 0
  IsSelected result tasks = MatchOption result (tasks ≡ []) (λ order. IsFirstOrder order tasks)

  -- the second list is the first with one task more
  pub record Inserted (task : Waiting T) (tasks more : List (Waiting T)) : Type 0 where
    pub front : List (Waiting T)
    pub back : List (Waiting T)
    pub before : tasks ≡ front ++ back
    pub after : more ≡ front ++ task ∷ back

  -- what is handed out of a task
  abbrev pub ordered : Waiting T → ℕ × T
  ordered task = (task.order, task.item)

  -- the order of what is handed out
  abbrev pub order_of : ℕ × T → ℕ
  order_of given = given.0

  -- what is handed out has the order of the first of these tasks, where there is one
  abbrev pub HasFirstOrder : Option (ℕ × T) → List (Waiting T) → Type 0
  HasFirstOrder given tasks = (order : ℕ) → IsFirstOrder order tasks → option_map order_of given ≡ Some order

  -- whether a task stands in this cell, or in another one
  abbrev pub has_cell : Cell → Waiting T → Bool
  has_cell cell task = same_cell task.cell cell

  abbrev pub lacks_cell : Cell → Waiting T → Bool
  lacks_cell cell task = not (has_cell cell task)

  -- a task once its signal's priority has changed; one of another source stays as it is
  abbrev pub moved : ℕ → Priority → Waiting T → Waiting T
  moved s priority task = if same_source task.source (Signal s) then record task { priority = priority } else task
