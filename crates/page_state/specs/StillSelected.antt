-- By which priorities the queued tasks are selected, also after a change. Prioritized Task Scheduling, "Selecting the
-- Task Queue of the Next Scheduler Task"
use Rattle.std.specs.Prelude.{◌≡◌, ℕ, Option}
use Rattle.page_types.specs.declared.Priority.{Priority}
use Rattle.page_parts.specs.TaskSignals.{Prios, priority_of}
use Rattle.post_task.specs.declared.level.PrioSource.{PrioSource}
use Rattle.post_task.specs.declared.level.PrioSource.TheVariants.{Signal}
use Rattle.page_tasks.specs.Queued.{Queued}
use Rattle.page_state.specs.Selecting.{AreSelectedBy}
use Rattle.page_state.specs.FoldActs.{AllBut}

-- these priorities select the tasks: each signal for which room was made has the priority by which its tasks are selected
abbrev pub Select : (prios : Prios) → (tasks : Queued) → Type 0
Select prios tasks = AreSelectedBy prios tasks.priorities

-- these priorities give a source its priority, where it is a signal
abbrev pub Give : (prios : Prios) → PrioSource → Option Priority → Type 0
Give prios source priority = (s : ℕ) → source ≡ Signal s → priority ≡ priority_of prios s

-- where the tasks were selected by priorities of which only the one of this signal was changed since, they are selected by these
abbrev pub SelectsChanged : (changed : Option ℕ) → (after : Prios) → (old new : Queued) → Type 0
SelectsChanged changed after old new = (before : Prios) → AllBut changed before after → Select before old → Select after new
