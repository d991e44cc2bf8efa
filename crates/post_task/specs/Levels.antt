-- Two lists of a pool for each priority source. Prioritized Task Scheduling, "Scheduling Tasks and Continuations": a queue for tasks and
-- one for continuations
use Rattle.std.specs.Prelude.{◌≡◌, ◌≢◌, ◌⊎◌, ℕ, zero, suc, ◌<◌, Bool, true, false, if◌then◌else◌, List, [], ◌∷◌, ◌++◌, map, length, Option, Some, None, IsSome, unwrap_or, Result, IfOk, MatchOption}
use Rattle.std.specs.BTreeMap.{BTreeMap, get}
use Rattle.std.specs.Ordering.{nat_cmp}
use Rattle.std.specs.List.{find, flat_map}
use Rattle.std.specs.Option.{option_map}
use Rattle.page_types.specs.declared.Priority.{Priority}
use Rattle.page_types.specs.declared.Priority.TheVariants.{UserVisible}
use Rattle.page_parts.specs.TaskSignals.{rank}
use Rattle.cell_room.specs.declared.room.Cell.{Cell}
use Rattle.task_pool.specs.Lists.{Entry, Lists, list_of}
use Rattle.task_pool.specs.declared.pool.Ticket.{Ticket}
use Rattle.post_task.specs.declared.level.Level.{Level}
use Rattle.post_task.specs.declared.level.PrioSource.{PrioSource}
use Rattle.post_task.specs.declared.level.PrioSource.TheVariants.{Fixed, Signal}
use Rattle.post_task.specs.declared.tournament.Head.{Head}
use Rattle.post_task.specs.Heads.{firsts}
use Rattle.post_task.specs.Waiting.{Waiting, IsFirst, Inserted, ordered, same_source}

-- a queue: its priority source, the priority of that source now, whether it is that of continuations, and its list
pub record Queue : Type 0 where
  pub source : PrioSource
  pub priority : Priority
  pub continuation : Bool
  pub list : ℕ

-- the queue of a priority source for continuations, or that for other tasks
abbrev pub queue_in : Level → Bool → Queue
queue_in level continuation =
    let list = if continuation then level.continuations.0 else level.plain.0 in
    record { source = level.source; priority = level.priority; continuation = continuation; list = list }

-- the two queues of a priority source
abbrev pub queues_of : Level → List Queue
queues_of level = queue_in level false ∷ queue_in level true ∷ []

-- all queues
abbrev pub all_queues : List Level → List Queue
all_queues levels = flat_map queues_of levels

-- whether the lists are those of this source
abbrev pub has_source : PrioSource → Level → Bool
has_source source level = same_source level.source source

-- the priority of a source now, where it has lists
abbrev pub priority_in : List Level → PrioSource → Option Priority
priority_in levels source = option_map (λ (level : Level). level.priority) (find (has_source source) levels)

-- a fixed priority has lists from the start, a signal once they were made
abbrev pub HasRoom : List Level → PrioSource → Type 0
HasRoom levels (Fixed priority) = Unit {0}
HasRoom levels (Signal s) = IsSome (priority_in levels (Signal s))

-- each source but one has lists as before, with the same priority
abbrev pub SameBut : PrioSource → (old new : List Level) → Type 0
SameBut but old new = (source : PrioSource) → same_source source but ≡ false → priority_in new source ≡ priority_in old source

-- the lists of a source once a signal's priority has changed
abbrev pub moved_level : ℕ → Priority → Level → Level
moved_level s priority level = if has_source (Signal s) level then record level { priority = priority } else level

-- the number of the place of a source among these, from 0
abbrev pub place_of : List Level → PrioSource → Option ℕ
place_of [] source = None
place_of (level ∷ rest) source = if has_source source level then Some 0 else option_map suc (place_of rest source)

-- each source has one pair of lists
abbrev pub AreApart : List Level → Type 0
AreApart [] = Unit {0}
AreApart (level ∷ rest) = (place_of rest level.source ≡ None) × AreApart rest

-- the lists of all these have greater numbers
abbrev pub AreBehind : ℕ → List Level → Type 0
AreBehind list [] = Unit {0}
AreBehind list (level ∷ rest) = (list < level.plain.0) × (list < level.continuations.0) × AreBehind list rest

-- the numbers of the lists rise
abbrev pub ListsRise : List Level → Type 0
ListsRise [] = Unit {0}
ListsRise (level ∷ rest) = (level.plain.0 < level.continuations.0) × AreBehind level.continuations.0 rest × ListsRise rest

-- the source at this place has this list
abbrev pub HasList : (list place : ℕ) → List Level → Type 0
HasList list place [] = ⊥
HasList list zero (level ∷ rest) = (level.plain.0 ≡ list) ⊎ (level.continuations.0 ≡ list)
HasList list (suc place) (level ∷ rest) = HasList list place rest

-- where a source that is added stands: the fixed priorities stand in front, in their order
abbrev pub StandsNext : PrioSource → List Level → Type 0
StandsNext (Fixed priority) levels = length levels ≡ rank priority
StandsNext (Signal s) levels = Unit {0}

-- the map has another place for one source, where that is a signal's
abbrev pub Notes : PrioSource → Option ℕ → (old new : BTreeMap ℕ ℕ) → Type 0
Notes source place old new = (s : ℕ) → get nat_cmp new s ≡ (if same_source source (Signal s) then place else get nat_cmp old s)

-- each source stands at its place, and the map has those of the signals
pub record ArePlaced (levels : List Level) (signals : BTreeMap ℕ ℕ) : Type 0 where
  pub apart : AreApart levels
  pub rising : ListsRise levels
  pub fixed : (priority : Priority) (place : ℕ) → place_of levels (Fixed priority) ≡ Some place → place ≡ rank priority
  pub known : (s : ℕ) → get nat_cmp signals s ≡ place_of levels (Signal s)

-- the priority sources with their lists, and the first task of each as it is kept
pub record Sched : Type 0 where
  pub levels : List Level
  pub heads : List (Option Head)

-- no queue of these has this list
abbrev pub Lone : ℕ → List Queue → Type 0
Lone list [] = Unit {0}
Lone list (queue ∷ rest) = (queue.list ≢ list) × Lone list rest

-- no queue of all has this list
abbrev pub IsLone : ℕ → List Level → Type 0
IsLone list levels = Lone list (all_queues levels)

module _ {T : Type 0} where
  -- a task as it waits in a queue
  abbrev pub in_queue : Queue → Entry T → Waiting T
  in_queue queue entry =
      record {
        cell = entry.cell;
        source = queue.source;
        priority = queue.priority;
        continuation = queue.continuation;
        order = entry.number;
        item = entry.item;
      }

  -- what waits in a queue
  abbrev pub of_queue : Lists T → Queue → List (Waiting T)
  of_queue pool queue = map (in_queue queue) (list_of pool queue.list)

  -- what waits in these queues
  abbrev pub waiting_in : Lists T → List Queue → List (Waiting T)
  waiting_in pool queues = flat_map (of_queue pool) queues

  -- all scheduler tasks that wait
  abbrev pub waiting : List Level → Lists T → List (Waiting T)
  waiting levels pool = waiting_in pool (all_queues levels)

  -- a task that is enqueued: its priority is that of its source now
  abbrev pub new_task : List Level → Cell → PrioSource → Bool → ℕ → T → Waiting T
  new_task levels cell source continuation order item =
      record {
        cell = cell;
        source = source;
        priority = unwrap_or (priority_in levels source) UserVisible;
        continuation = continuation;
        order = order;
        item = item;
      }

  -- a task that is enqueued in this cell
  abbrev pub task_in : Sched → PrioSource → Bool → ℕ → T → Cell → Waiting T
  task_in sched source continuation order item cell = new_task sched.levels cell source continuation order item

  -- where it is enqueued, it is one task more
  abbrev pub Enqueues : Result Ticket T → PrioSource → (continuation : Bool) → (order : ℕ) → (item : T)
      → (before : Sched) → (old : Lists T) → (after : Sched) → (new : Lists T) → Type 0
  Enqueues result source continuation order item before old after new =
      IfOk result (λ ticket. Inserted (task_in before source continuation order item ticket.0)
      (waiting before.levels old) (waiting after.levels new))

  -- the first task is taken
  pub record TakesFirst (old new : List (Waiting T)) (given : ℕ × T) : Type 0 where
    pub task : Waiting T
    pub first : IsFirst task old
    pub rest : Inserted task new old
    pub is : given ≡ ordered task

  -- what is taken: the first task, none where no task waits
  abbrev pub IsTaken : Option (ℕ × T) → (old new : List (Waiting T)) → Type 0
  IsTaken result old new = MatchOption result (old ≡ []) (TakesFirst old new)

  -- each list but one is as before
  abbrev pub Elsewhere : ℕ → (old new : Lists T) → Type 0
  Elsewhere list old new = (l : ℕ) → l ≢ list → list_of new l ≡ list_of old l

  -- the first tasks are those of the lists, where they were so before one list has changed
  abbrev pub ReadsAgain : ℕ → (before pool : Lists T) → (old new : Sched) → Type 0
  ReadsAgain list before pool old new =
      old.heads ≡ firsts old.levels before → Elsewhere list before pool → new.heads ≡ firsts new.levels pool

  -- each of these entries has a greater number
  abbrev pub Above : ℕ → List (Entry T) → Type 0
  Above number [] = Unit {0}
  Above number (entry ∷ rest) = (number < entry.number) × Above number rest

  -- the numbers rise
  abbrev pub Rises : List (Entry T) → Type 0
  Rises [] = Unit {0}
  Rises (entry ∷ rest) = Above entry.number rest × Rises rest

  -- the pool has made the queues' lists, each queue has a list of its own, and the orders in it rise
  abbrev pub AreKept : Lists T → List Queue → Type 0
  AreKept pool [] = Unit {0}
  AreKept pool (queue ∷ rest) =
      (queue.list < length pool.lists) × Rises (list_of pool queue.list) × Lone queue.list rest × AreKept pool rest

  -- the lists of the queues stand in this pool as their own calls left them, each fixed priority has its lists, and the first tasks are
  -- those of the lists
  pub record Kept (sched : Sched) (pool : Lists T) : Type 0 where
    pub lists : AreKept pool (all_queues sched.levels)
    pub fixed : (priority : Priority) → priority_in sched.levels (Fixed priority) ≡ Some priority
    pub heads : sched.heads ≡ firsts sched.levels pool

  -- a priority source with two empty lists, which are new in the pool
  pub record IsNew (level : Level) (before after : Lists T) (source : PrioSource) (priority : Priority) : Type 0 where
    pub source_is : level.source ≡ source
    pub priority_is : level.priority ≡ priority
    pub plain : level.plain.0 ≡ length before.lists
    pub continuations : level.continuations.0 ≡ length (before.lists ++ [] ∷ [])
    pub lists : after.lists ≡ (before.lists ++ [] ∷ []) ++ [] ∷ []

  -- a priority source has got two empty lists, which are new in the pool
  pub record Added (old new : List Level) (before after : Lists T) (source : PrioSource) (priority : Priority) : Type 0 where
    pub level : Level
    pub is : new ≡ old ++ level ∷ []
    pub made : IsNew level before after source priority
