-- All scheduler tasks that wait as one list, in the order in which they were enqueued. Prioritized Task Scheduling,
-- "Selecting the Task Queue of the Next Scheduler Task"
use Rattle.std.specs.Prelude.{◌≡◌, ℕ, ◌<◌, Bool, ◌&&◌, ◌||◌, ◌==◌, nat_lt, if◌then◌else◌, List, [], ◌∷◌, ◌++◌, map, Option, Some, None}
use Rattle.std.specs.List.{filter}
use Rattle.page_types.specs.declared.Priority.{Priority}
use Rattle.cell_room.specs.declared.room.Cell.{Cell}
use Rattle.post_task.specs.Waiting.{Waiting, Among, Inserted, IsFirst, effective, lacks_cell, moved}

-- the first of these and the best so far
abbrev pub first_from : {X : Type 0} → (X → X → Bool) → X → List X → X
first_from before best [] = best
first_from before best (item ∷ rest) = first_from before (if before item best then item else best) rest

-- the first of these, where one item goes before another by this test
abbrev pub first_by : {X : Type 0} → (X → X → Bool) → List X → Option X
first_by before [] = None
first_by before (item ∷ rest) = Some (first_from before item rest)

module _ {T : Type 0} where
  -- whether a goes before b: it has the greater effective priority now, or the lesser order where that is equal
  abbrev pub precedes : (a b : Waiting T) → Bool
  precedes a b = nat_lt (effective b) (effective a) || ((effective a == effective b) && nat_lt a.order b.order)

  -- a task put in among others by its order
  abbrev pub put_in : Waiting T → List (Waiting T) → List (Waiting T)
  put_in task [] = task ∷ []
  put_in task (other ∷ rest) = if nat_lt task.order other.order then task ∷ other ∷ rest else other ∷ put_in task rest

  -- tasks in the order of their orders
  abbrev pub in_order : List (Waiting T) → List (Waiting T)
  in_order [] = []
  in_order (task ∷ rest) = put_in task (in_order rest)

  -- each of these tasks has a greater order
  abbrev pub AreLater : ℕ → List (Waiting T) → Type 0
  AreLater order [] = Unit {0}
  AreLater order (task ∷ rest) = (order < task.order) × AreLater order rest

  -- the orders rise
  abbrev pub OrdersRise : List (Waiting T) → Type 0
  OrdersRise [] = Unit {0}
  OrdersRise (task ∷ rest) = AreLater task.order rest × OrdersRise rest

  -- a task that is enqueued with a greater order is the last
  abbrev pub EnqueuedLast : Waiting T → (old new : List (Waiting T)) → Type 0
  EnqueuedLast task old new =
      Inserted task old new → ((other : Waiting T) → Among other old → other.order < task.order) → in_order new ≡ in_order old ++ task ∷ []

  -- a task that is taken has left its place
  abbrev pub TakenOut : Waiting T → (old new : List (Waiting T)) → Type 0
  TakenOut task old new = Inserted task new old → Inserted task (in_order new) (in_order old)

  -- so has one that is taken out by its cell
  abbrev pub RemovedByCell : Cell → List (Waiting T) → Type 0
  RemovedByCell cell tasks = in_order (filter (lacks_cell cell) tasks) ≡ filter (lacks_cell cell) (in_order tasks)

  -- a change of a priority leaves each task where it is
  abbrev pub MovedInPlace : ℕ → Priority → List (Waiting T) → Type 0
  MovedInPlace s priority tasks = in_order (map (moved s priority) tasks) ≡ map (moved s priority) (in_order tasks)

  -- the first task is the first of the list in order, gone through from its front
  abbrev pub FirstOfList : Waiting T → List (Waiting T) → Type 0
  FirstOfList task tasks = OrdersRise (in_order tasks) → IsFirst task tasks → first_by precedes (in_order tasks) ≡ Some task
