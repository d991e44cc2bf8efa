-- The scheduler's tasks: effective priority, the task that is next, and the scheduling state.
use Rattle.std.specs.Prelude.{ℕ, suc, ◌+◌, ◌*◌, Bool, if◌then◌else◌, ◌&&◌, ◌||◌, List, [], ◌∷◌, length, Option, Some, None, nat_lt, ◌==◌, unwrap_or}
use Rattle.page_types.specs.declared.Priority.{Priority}
use Rattle.page_types.specs.declared.Priority.TheVariants.{UserVisible}
use Rattle.page_types.specs.Events.{QueueName, FixedQueue, SignalQueue, Enq}
use Rattle.page_parts.specs.Words.{and_last, without, numbered}
use Rattle.page_parts.specs.TaskSignals.{rank, priority_of}
use Rattle.page_model.specs.State.{PrioSource, Fixed, OfSignal, SchedTask, SchedulingState, Page, emit}

-- ---- Prioritized Task Scheduling, "Selecting the Task Queue of the Next Scheduler Task"

-- the priority of a source now
abbrev pub priority_now : Page → PrioSource → Priority
priority_now p (Fixed priority) = priority
priority_now p (OfSignal s) = unwrap_or (priority_of p.prios s) UserVisible

-- the effective priority of a scheduler task now: twice the rank of its priority, and one more for a continuation
abbrev pub effective : Page → SchedTask → ℕ
effective p t = 2 * rank (priority_now p t.source) + (if t.continuation then 1 else 0)

-- whether a goes before b
abbrev pub goes_before : Page → (a b : SchedTask) → Bool
goes_before p a b = nat_lt (effective p b) (effective p a) || ((effective p a == effective p b) && nat_lt a.order b.order)

-- the first of these and the best so far
abbrev pub first_sched_from : Page → SchedTask → List SchedTask → SchedTask
first_sched_from p a [] = a
first_sched_from p a (b ∷ more) = first_sched_from p (if goes_before p b a then b else a) more

-- among the tasks of greatest effective priority now, the one of least order
abbrev pub first_of : Page → List SchedTask → Option SchedTask
first_of p [] = None
first_of p (a ∷ more) = Some (first_sched_from p a more)

-- the scheduler task that is next
abbrev pub first_sched : Page → Option SchedTask
first_sched p = first_of p p.sched_tasks

-- ---- Prioritized Task Scheduling, "Scheduling Tasks and Continuations"

-- the queue of a priority source, in its line
abbrev pub queue_name : PrioSource → QueueName
queue_name (Fixed priority) = FixedQueue priority
queue_name (OfSignal s) = SignalQueue s

-- a scheduler task is enqueued; its order is its task number
abbrev pub enqueue : ℕ → PrioSource → Bool → Page → Page
enqueue r source continuation p =
    emit (Enq r (queue_name source) continuation (suc p.tasks_made))
    (record p {
      tasks_made = suc p.tasks_made;
      sched_tasks = and_last p.sched_tasks (record {
        registration = r;
        source = source;
        continuation = continuation;
        order = suc p.tasks_made;
      });
    })

-- a registration's scheduler task leaves its queue
abbrev pub without_sched : ℕ → Page → Page
without_sched r p = record p { sched_tasks = without (λ t. t.registration == r) p.sched_tasks }

-- with no current scheduling state there is no abort source, and the priority is fixed user-visible
abbrev pub no_state : SchedulingState
no_state = record { abort_source = None; prio_source = Fixed UserVisible }

-- the current scheduling state; with none, no abort source and fixed user-visible
abbrev pub current_state : Page → SchedulingState
current_state p = elim p.scheduling [ None ↦ no_state | Some n ↦ numbered p.scheduling_states n no_state ]

-- a new scheduling state is made and is the current one
abbrev pub with_state : SchedulingState → Page → Page
with_state s p = record p { scheduling_states = and_last p.scheduling_states s; scheduling = Some (suc (length p.scheduling_states)) }
