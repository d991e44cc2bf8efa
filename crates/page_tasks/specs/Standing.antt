-- How the queued tasks stand in one pool. Ours: the standards do not say how queues are stored
use Rattle.std.specs.Prelude.{◌≡◌, ◌≢◌, ℕ, suc, ◌≤◌, ◌<◌, ◌==◌, if◌then◌else◌, List, [], map, Option, Some, None, IsTrue, filter_map, option_map}
use Rattle.std.specs.List.{AllByRecursion}
use Rattle.page_types.specs.declared.Source.{Source}
use Rattle.page_types.specs.declared.Source.TheVariants.{Sched}
use Rattle.page_model.specs.State as Model
use Rattle.page_model.specs.PageSignals.{host_task_of}
use Rattle.cell_room.specs.declared.room.Cell.{Cell}
use Rattle.task_pool.specs.Lists.{Entry, Lists, list_of}
use Rattle.task_pool.specs.declared.pool.Ticket.{Ticket}
use Rattle.task_queues.specs.declared.queues.Queues.{Queues}
use Rattle.task_queues.specs.BySource.{tasks_of, list_number, StandIn, IsApart}
use Rattle.task_queues.specs.OneList.{SourcedTask, BySource, merged, IsOneList, AreBelow}
use Rattle.post_task.specs.declared.level.Level.{Level}
use Rattle.post_task.specs.declared.level.PrioSource.TheVariants.{Fixed, Signal}
use Rattle.post_task.specs.Waiting.{Waiting, Among}
use Rattle.post_task.specs.Levels.{Sched as SchedLevels, all_queues, Lone, waiting, priority_in, Kept}
use Rattle.post_task.specs.InOrder.{in_order, OrdersRise}
use Rattle.page_fields.specs.Fields as Fields
use Rattle.page_tasks.specs.declared.asked.Asked.{Asked}
use Rattle.page_tasks.specs.declared.page_task.PageTask.{PageTask}
use Rattle.page_tasks.specs.declared.page_task.PageTask.TheVariants.{OfScheduler}
use Rattle.page_tasks.specs.Seen.{host_task, has_steps, steps_in, registration_in, prio_source}
use Rattle.page_tasks.specs.Queued.{SignalPriority, Queued, none_queued}

-- ---- what is seen

-- the tasks of these lists in the order of their numbers
abbrev pub tasks_in : BySource PageTask → List Model.Task
tasks_in lists = Fields.tasks_of steps_in (merged lists)

-- a scheduler task that waits
abbrev pub sched_task_in : Waiting PageTask → Model.SchedTask
sched_task_in w =
    record {
      registration = registration_in w.item;
      source = prio_source w.source;
      continuation = w.continuation;
      order = w.order;
    }

-- the scheduler tasks that wait, in the order of their orders
abbrev pub sched_tasks_in : List (Waiting PageTask) → List Model.SchedTask
sched_tasks_in ws = map sched_task_in (in_order ws)

-- the priority of a signal, by its lists
abbrev pub priority_by : Level → Option SignalPriority
priority_by level = elim level.source [
  | Fixed priority ↦ None
  | Signal s ↦ Some (record { signal = s; priority = level.priority })
]

-- the priorities of the signals that have lists
abbrev pub priorities_in : List Level → List SignalPriority
priorities_in levels = filter_map priority_by levels

-- what the lists of a pool are seen as
abbrev pub seen_in : Lists PageTask → Queues PageTask → SchedLevels → ℕ → Queued
seen_in pool queues sched made =
    record {
      tasks = tasks_in (tasks_of queues pool);
      sched_tasks = sched_tasks_in (waiting sched.levels pool);
      tasks_made = made;
      priorities = priorities_in sched.levels;
      spare = pool.spare;
    }

-- a task of a host closure, as it is noted with its number
pub record NotedHost : Type 0 where
  pub number : ℕ
  pub task : Model.HostTask

-- what is noted of a task
abbrev pub noted_of : Model.Task → Option NotedHost
noted_of t = option_map (λ h. record { number = t.number; task = h }) (host_task_of t.steps)

-- what was noted
abbrev pub noted : Asked → NotedHost
noted a = record { number = a.number; task = host_task a.task }

-- ---- what always holds

-- the lists of both sides stand in the pool, they have none in common, and every other list of the pool is empty
pub record AreApart (pool : Lists PageTask) (queues : Queues PageTask) (sched : SchedLevels) : Type 0 where
  pub stand : StandIn queues pool
  pub kept : Kept sched pool
  pub apart : (s : Source) → s ≢ Sched → Lone (list_number queues s) (all_queues sched.levels)
  pub others : (l : ℕ) → IsApart queues l → Lone l (all_queues sched.levels) → list_of pool l ≡ []

-- the lists of the sources are one list of numbered tasks, each of which has steps, and those of host closures are noted
pub record AreTasks (lists : BySource PageTask) (asked : List Asked) (made : ℕ) : Type 0 where
  pub one : IsOneList lists (merged lists)
  pub below : AreBelow (suc made) (merged lists)
  pub steps : (s : Source) → AllByRecursion (λ (entry : Entry PageTask). IsTrue (has_steps entry.item)) (lists s)
  pub noted : map noted asked ≡ filter_map noted_of (tasks_in lists)

-- the content of a scheduler task is that of its place, its priority is that of its source, and it is known by its registration
pub record IsKnown (levels : List Level) (tickets : ℕ → Option Ticket) (inserts made : ℕ) (w : Waiting PageTask) : Type 0 where
  pub posted : w.item ≡ OfScheduler (record {
    registration = registration_in w.item;
    source = w.source;
    continuation = w.continuation;
  })
  pub priority : priority_in levels w.source ≡ Some w.priority
  pub ticket : tickets (registration_in w.item) ≡ Some (record { 0 = w.cell })
  pub below : w.order ≤ made
  pub older : w.cell.generation < inserts

-- a scheduler task of this registration waits in this cell
pub record WaitsIn (r : ℕ) (cell : Cell) (ws : List (Waiting PageTask)) : Type 0 where
  pub task : Waiting PageTask
  pub waits : Among task ws
  pub cell_is : task.cell ≡ cell
  pub registration : registration_in task.item ≡ r

-- the scheduler tasks that wait: their orders differ, no two stand in one cell, and there is a ticket for each and no other
pub record AreScheduled (levels : List Level) (ws : List (Waiting PageTask)) (tickets : ℕ → Option Ticket) (inserts made : ℕ)
    : Type 0 where
  pub rise : OrdersRise (in_order ws)
  pub each : (w : Waiting PageTask) → Among w ws → IsKnown levels tickets inserts made w
  pub cells : (a b : Waiting PageTask) → Among a ws → Among b ws → a.cell ≡ b.cell → a ≡ b
  pub known : (r : ℕ) (t : Ticket) → tickets r ≡ Some t → WaitsIn r t.0 ws

-- no task of a source has the number of a scheduler task
abbrev pub AreOnce : List (SourcedTask PageTask) → List (Waiting PageTask) → Type 0
AreOnce tasks ws = (w : Waiting PageTask) → Among w ws → AllByRecursion (λ t. t.number ≢ w.order) tasks

-- all of it
pub record IsStanding (pool : Lists PageTask) (queues : Queues PageTask) (sched : SchedLevels)
    (tickets : ℕ → Option Ticket) (asked : List Asked) (made : ℕ) : Type 0 where
  pub lists : AreApart pool queues sched
  pub tasks : AreTasks (tasks_of queues pool) asked made
  pub scheduled : AreScheduled sched.levels (waiting sched.levels pool) tickets pool.inserts made
  pub once : AreOnce (merged (tasks_of queues pool)) (waiting sched.levels pool)
  pub inserts : pool.inserts ≤ made

-- the lists of both sides are new: with no ticket and no number given out they stand in the pool,
-- and are seen as no task
pub record AreNew (pool : Lists PageTask) (queues : Queues PageTask) (sched : SchedLevels)
    : Type 0 where
  pub stand : IsStanding pool queues sched (λ _. None) [] 0
  pub seen : seen_in pool queues sched 0 ≡ none_queued pool.spare

-- a registration has this ticket now, and every other one keeps what it had
abbrev pub PutsTicket : (registration : ℕ) → Ticket → (old new : ℕ → Option Ticket) → Type 0
PutsTicket registration ticket old new = (r : ℕ) → new r ≡ (if registration == r then Some ticket else old r)
