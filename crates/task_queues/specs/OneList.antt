-- The tasks of all sources as one list in the order of their numbers. HTML, "Event loops: definitions": each task has one source
use Rattle.std.specs.Prelude.{◌≡◌, ◌≢◌, ℕ, ◌<◌, Bool, nat_lt, if◌then◌else◌, List, [], ◌∷◌, ◌++◌, map, filter, drop, Some, ◌==◌}
use Rattle.std.specs.List.{AllByRecursion, find}
use Rattle.std.specs.Option.{option_map}
use Rattle.page_types.specs.declared.Source.{Source}
use Rattle.page_parts.specs.Sources.{same_source, default_list}
use Rattle.page_parts.specs.Words.{and_last, without}
use Rattle.task_pool.specs.Lists.{Entry, Lists, first_entry}
use Rattle.task_queues.specs.declared.queues.Queues.{Queues}
use Rattle.task_queues.specs.BySource.{tasks_of, Queued}

-- a task as it stands among those of all sources: its number, its source and its item
pub record SourcedTask (T : Type 0) : Type 0 where
  pub number : ℕ
  pub source : Source
  pub item : T

-- a list for each source, first to last
abbrev pub BySource : Type 0 → Type 0
BySource T = Source → List (Entry T)

module _ {T : Type 0} where
  -- an entry of the list of a source
  abbrev pub sourced : Source → Entry T → SourcedTask T
  sourced s entry = record { number = entry.number; source = s; item = entry.item }

  -- whether a task is of this source
  abbrev pub is_of : Source → SourcedTask T → Bool
  is_of s t = same_source t.source s

  -- the tasks in the order of their numbers, with one more
  abbrev pub with_task : SourcedTask T → List (SourcedTask T) → List (SourcedTask T)
  with_task t [] = t ∷ []
  with_task t (u ∷ more) = if nat_lt u.number t.number then u ∷ with_task t more else t ∷ u ∷ more

  -- tasks in the order of their numbers
  abbrev pub in_order : List (SourcedTask T) → List (SourcedTask T)
  in_order [] = []
  in_order (t ∷ more) = with_task t (in_order more)

  -- the tasks of some sources, source by source
  abbrev pub of_each : BySource T → List Source → List (SourcedTask T)
  of_each lists [] = []
  of_each lists (s ∷ more) = map (sourced s) (lists s) ++ of_each lists more

  -- the lists of all sources merged by number
  abbrev pub merged : BySource T → List (SourcedTask T)
  merged lists = in_order (of_each lists default_list)

  -- all numbers are below n
  abbrev pub AreBelow : ℕ → List (SourcedTask T) → Type 0
  AreBelow n tasks = AllByRecursion (λ (t : SourcedTask T). t.number < n) tasks

  -- the numbers of tasks rise
  abbrev pub Rise : List (SourcedTask T) → Type 0
  Rise [] = Unit {0}
  Rise (t ∷ more) = AllByRecursion (λ (u : SourcedTask T). t.number < u.number) more × Rise more

  -- one list has the tasks of all sources: their numbers rise, and those of each source are its list
  pub record IsOneList (lists : BySource T) (tasks : List (SourcedTask T)) : Type 0 where
    pub rise : Rise tasks
    pub each : (s : Source) → filter (is_of s) tasks ≡ map (sourced s) (lists s)

  -- the list of a source is another one now, and those of the others are as they were
  pub record ListIs (s : Source) (entries : List (Entry T)) (old new : BySource T) : Type 0 where
    pub own : new s ≡ entries
    pub others : (o : Source) → o ≢ s → new o ≡ old o

  -- what a call tells of the lists of the queues is such a change
  abbrev pub ChangeIs : Queues T → (old new : Lists T) → Type 0
  ChangeIs queues old new =
      (s : Source) (entries : List (Entry T)) → Queued queues old new s entries
      → ListIs s entries (tasks_of queues old) (tasks_of queues new)

  -- where no source has a task, there is none
  abbrev pub NoneIs : BySource T → Type 0
  NoneIs lists = ((s : Source) → lists s ≡ []) → IsOneList lists []

  -- no other list has the tasks of all sources than those merged by number
  abbrev pub MergedIs : BySource T → List (SourcedTask T) → Type 0
  MergedIs lists tasks = IsOneList lists tasks → merged lists ≡ tasks

  -- the first task of a source is the first of its list
  abbrev pub FirstIs : BySource T → List (SourcedTask T) → Type 0
  FirstIs lists tasks = (s : Source) → IsOneList lists tasks → find (is_of s) tasks ≡ option_map (sourced s) (first_entry (lists s))

  -- a task at the end of a source's list, with a number above all others, stands behind all tasks
  abbrev pub QueuedIs : (old new : BySource T) → List (SourcedTask T) → Type 0
  QueuedIs old new tasks =
      (s : Source) (entry : Entry T)
      → IsOneList old tasks → AreBelow entry.number tasks
      → ListIs s (and_last (old s) entry) old new
      → IsOneList new (and_last tasks (sourced s entry))

  -- where the first task of a source leaves its list, the task with its number leaves the one list
  abbrev pub TakenIs : (old new : BySource T) → List (SourcedTask T) → Type 0
  TakenIs old new tasks =
      (s : Source) (entry : Entry T)
      → IsOneList old tasks → first_entry (old s) ≡ Some entry
      → ListIs s (drop 1 (old s)) old new
      → IsOneList new (without (λ t. t.number == entry.number) tasks)
