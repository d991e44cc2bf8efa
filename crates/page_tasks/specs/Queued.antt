-- All queued tasks of a page. HTML, "Event loops: definitions"; Prioritized Task Scheduling, "Scheduling Tasks and Continuations"
use Rattle.std.specs.Prelude.{◌≡◌, ℕ, suc, ◌+◌, Bool, List, [], Option, Some, None, IsSome, find, option_map, filter_map, slice_index_or, ◌==◌, if◌then◌else◌, refl}
use Rattle.std.specs.Coded.{Coded, code_by, coded×, coded_ℕ, coded_list}
use Rattle.page_types.specs.declared.Source.{Source}
use Rattle.page_types.specs.declared.Priority.{Priority}
use Rattle.page_parts.specs.Words.{and_last, without}
use Rattle.page_parts.specs.Sources.{default_list, source_number}
use Rattle.page_parts.specs.TaskSignals.{priority_of}
use Rattle.page_parts.specs.WrittenChoices.{Runnable}
use Rattle.page_model.specs.State as Model
use Rattle.page_model.specs.State.{Steps, Task, SchedTask, Page}
use Rattle.post_task.specs.declared.level.PrioSource.{PrioSource}
use Rattle.post_task.specs.declared.level.PrioSource.TheVariants as P
use Rattle.page_tasks.specs.declared.page_task.TaskSteps.{TaskSteps}
use Rattle.page_tasks.specs.Seen.{steps_of, prio_source}
use Rattle.page_tasks.specs.Coded.{coded_priority, coded_task, coded_sched_task}

-- the priority that the scheduler tasks of a signal have now
pub record SignalPriority : Type 0 where
  pub signal : ℕ
  pub priority : Priority

-- the tasks of all sources but the scheduler's in the order of their numbers; the scheduler tasks in that of their orders; how many
-- numbers were given out; the priorities of the signals for which room was made; how many tasks more are sure to find room in the pool
pub record Queued : Type 0 where
  pub tasks : List Task
  pub sched_tasks : List SchedTask
  pub tasks_made : ℕ
  pub priorities : List SignalPriority
  pub spare : ℕ

abbrev coded_signal_priority : Coded SignalPriority
coded_signal_priority =
    code_by (ℕ × Priority) (coded× coded_ℕ coded_priority)
    (λ p. (p.signal, p.priority)) (λ t. record { signal = t.0; priority = t.1 }) (λ _. refl)

abbrev pub coded_queued : Coded Queued
coded_queued =
    code_by (List Task × (List SchedTask × (ℕ × (List SignalPriority × ℕ))))
    (coded× (coded_list coded_task) (coded× (coded_list coded_sched_task)
    (coded× coded_ℕ (coded× (coded_list coded_signal_priority) coded_ℕ))))
    (λ q. (q.tasks, (q.sched_tasks, (q.tasks_made, (q.priorities, q.spare)))))
    (λ t. record {
      tasks = t.0;
      sched_tasks = t.1.0;
      tasks_made = t.1.1.0;
      priorities = t.1.1.1.0;
      spare = t.1.1.1.1;
    })
    (λ _. refl)

-- the priority that a signal's tasks have now, none where no room was made for them
abbrev pub priority_for : List SignalPriority → ℕ → Option Priority
priority_for ps s = option_map (λ p. p.priority) (find (λ p. p.signal == s) ps)

-- a page of the model has these tasks and has given out as many numbers, and each signal for which room was made has its priority
pub record IsOf (q : Queued) (p : Page) : Type 0 where
  pub tasks : p.tasks ≡ q.tasks
  pub sched_tasks : p.sched_tasks ≡ q.sched_tasks
  pub tasks_made : p.tasks_made ≡ q.tasks_made
  pub priorities : (s : ℕ) (priority : Priority)
      → priority_for q.priorities s ≡ Some priority → priority_of p.prios s ≡ Some priority

-- ---- the changes

-- no task is queued, and no number was given out
abbrev pub none_queued : ℕ → Queued
none_queued spare = record { tasks = []; sched_tasks = []; tasks_made = 0; priorities = []; spare = spare }

-- the same, with room for so many more
abbrev pub with_spare : ℕ → Queued → Queued
with_spare spare q = record q { spare = spare }

-- a task is queued, with the next number
abbrev pub queued : Source → Steps → Queued → Queued
queued source steps q =
    record q {
      tasks_made = suc q.tasks_made;
      tasks = and_last q.tasks (record { number = suc q.tasks_made; source = source; steps = steps });
    }

-- the task with a number is taken out of its queue
abbrev pub without_number : ℕ → Queued → Queued
without_number n q = record q { tasks = without (λ t. t.number == n) q.tasks }

-- a scheduler task is enqueued; its order is the next number
abbrev pub enqueued : (registration : ℕ) → Model.PrioSource → Bool → Queued → Queued
enqueued r source continuation q =
    record q {
      tasks_made = suc q.tasks_made;
      sched_tasks = and_last q.sched_tasks (record {
        registration = r;
        source = source;
        continuation = continuation;
        order = suc q.tasks_made;
      });
    }

-- a scheduler task is enqueued, whatever room is left then
abbrev pub Enqueues : (registration : ℕ) → PrioSource → (continuation : Bool) → (old new : Queued) → Type 0
Enqueues r source continuation old new = new ≡ with_spare new.spare (enqueued r (prio_source source) continuation old)

-- a registration's scheduler task leaves its queue
abbrev pub without_registration : ℕ → Queued → Queued
without_registration r q = record q { sched_tasks = without (λ t. t.registration == r) q.sched_tasks }

-- the task with a number is taken out, which leaves room for one more
abbrev pub number_freed : ℕ → Queued → Queued
number_freed n q = with_spare (q.spare + 1) (without_number n q)

-- a registration's scheduler task is taken out, which leaves room for one more
abbrev pub registration_freed : ℕ → Queued → Queued
registration_freed r q = with_spare (q.spare + 1) (without_registration r q)

-- the scheduler task of a registration
abbrev pub sched_task_for : ℕ → Queued → Option SchedTask
sched_task_for r q = find (λ t. t.registration == r) q.sched_tasks

-- a fixed priority needs no room; a signal has had room made for its tasks
abbrev pub HasPriority : Queued → PrioSource → Type 0
HasPriority q (P.Fixed priority) = Unit {0}
HasPriority q (P.Signal s) = IsSome (priority_for q.priorities s)

-- a signal has this priority now where room was made for it, and every other one keeps what it had
abbrev pub IsMoved : ℕ → Priority → (old new : Queued) → Type 0
IsMoved s priority old new =
    (other : ℕ) → priority_for new.priorities other
    ≡ (if s == other then option_map (λ _. priority) (priority_for old.priorities other) else priority_for old.priorities other)

-- room was made for a signal, which has this priority now, and every other one keeps what it had
abbrev pub HasRoomFor : ℕ → Priority → (old new : Queued) → Type 0
HasRoomFor s priority old new =
    (other : ℕ) → priority_for new.priorities other ≡ (if s == other then Some priority else priority_for old.priorities other)

-- ---- what is given out

-- a task that was taken from a source's queue
abbrev pub taken : Source → ℕ × TaskSteps → Task
taken source given = record { number = given.0; source = source; steps = steps_of given.1 }

-- the number of the first task of a source, where the numbers stand in the order of the default list
abbrev pub number_at : List (Option ℕ) → Source → Option ℕ
number_at numbers source = slice_index_or numbers (source_number source) None

-- the sources that have a number, each with it, in the order of the default list
abbrev pub runnables : List (Option ℕ) → List Runnable
runnables numbers =
    filter_map (λ s. option_map (λ n. record { source = s; first = n }) (number_at numbers s)) default_list
