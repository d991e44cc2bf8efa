-- How changes of the queued tasks are changes of a page of the model. Ours: how code that owns the tasks stands to the model
use Rattle.std.specs.Prelude.{◌≡◌, ℕ, false, Bool, [], map, Some, None}
use Rattle.page_types.specs.declared.Source.{Source}
use Rattle.page_types.specs.declared.Priority.{Priority}
use Rattle.page_parts.specs.TaskSignals.{PrioRecord, priority_of, begun}
use Rattle.page_model.specs.State.{Steps, PrioSource, Page, queue_task}
use Rattle.page_model.specs.SchedulerTasks.{enqueue, without_sched}
use Rattle.page_model.specs.Turns.{without_task}
use Rattle.page_tasks.specs.Queued.{Queued, SignalPriority, IsOf, IsMoved, HasRoomFor, with_spare, queued, without_number, enqueued, without_registration}

-- a task is queued
abbrev pub QueuedIs : Queued → Page → Type 0
QueuedIs q p =
    (source : Source) (steps : Steps) (spare : ℕ) → IsOf q p
    → IsOf (with_spare spare (queued source steps q)) (queue_task source steps p)

-- a task is taken out by its number
abbrev pub TakenIs : Queued → Page → Type 0
TakenIs q p = (n spare : ℕ) → IsOf q p → IsOf (with_spare spare (without_number n q)) (without_task n p)

-- a scheduler task is enqueued
abbrev pub EnqueuedIs : Queued → Page → Type 0
EnqueuedIs q p =
    (r : ℕ) (source : PrioSource) (continuation : Bool) (spare : ℕ) → IsOf q p
    → IsOf (with_spare spare (enqueued r source continuation q)) (enqueue r source continuation p)

-- a registration's scheduler task leaves its queue
abbrev pub LeftIs : Queued → Page → Type 0
LeftIs q p = (r spare : ℕ) → IsOf q p → IsOf (with_spare spare (without_registration r q)) (without_sched r p)

-- a change of a signal's priority begins
abbrev pub BegunIs : (q new : Queued) → Page → Type 0
BegunIs q new p =
    (s : ℕ) (priority : Priority) → new ≡ record q { priorities = new.priorities } → IsMoved s priority q new → IsOf q p
    → IsOf new (record p { prios = begun s priority p.prios })

-- room is made for a signal that has this priority in the page
abbrev pub RoomIs : (q new : Queued) → Page → Type 0
RoomIs q new p =
    (s : ℕ) (priority : Priority) → new ≡ record q { priorities = new.priorities } → HasRoomFor s priority q new
    → priority_of p.prios s ≡ Some priority → IsOf q p → IsOf new p

-- a signal that has this priority, which follows none
abbrev pub record_with : SignalPriority → PrioRecord
record_with p = record { signal = p.signal; priority = p.priority; follows = None; followers = []; changing = false }

-- a page that has these tasks
abbrev pub with_tasks : Queued → Page → Page
with_tasks q p =
    record p {
      tasks = q.tasks;
      sched_tasks = q.sched_tasks;
      tasks_made = q.tasks_made;
      prios = map record_with q.priorities;
    }

-- every page is one that has these tasks once they are put into it
abbrev pub SomePageIs : Queued → Page → Type 0
SomePageIs q p = IsOf q (with_tasks q p)
