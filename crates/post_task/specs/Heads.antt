-- The first tasks of the priority sources. Prioritized Task Scheduling, "Selecting the Task Queue of the Next Scheduler Task"
use Rattle.std.specs.Prelude.{ℕ, ◌+◌, ◌*◌, Bool, true, false, if◌then◌else◌, List, Option, map}
use Rattle.std.specs.Option.{option_map, option_or}
use Rattle.page_types.specs.declared.Priority.{Priority}
use Rattle.page_parts.specs.TaskSignals.{rank}
use Rattle.task_pool.specs.Lists.{Entry, Lists, list_of, first_entry}
use Rattle.post_task.specs.declared.level.Level.{Level}
use Rattle.post_task.specs.declared.tournament.Head.{Head}

-- the effective priority of tasks of this priority
abbrev pub effective_of : Priority → Bool → ℕ
effective_of priority continuation = 2 * rank priority + (if continuation then 1 else 0)

module _ {T : Type 0} where
  -- the first of these entries under an effective priority
  abbrev pub head_in : ℕ → List (Entry T) → Option Head
  head_in effective entries =
      option_map (λ (entry : Entry T). record { effective = effective; order = entry.number }) (first_entry entries)

  -- the first continuation of a priority source, and where it has none the first of its other tasks
  abbrev pub first_of : Lists T → Level → Option Head
  first_of pool level =
      option_or
      (head_in (effective_of level.priority true) (list_of pool level.continuations.0))
      (head_in (effective_of level.priority false) (list_of pool level.plain.0))

  -- the first tasks of all
  abbrev pub firsts : List Level → Lists T → List (Option Head)
  firsts levels pool = map (first_of pool) levels
