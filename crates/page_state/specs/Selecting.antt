-- By which priorities the scheduler tasks of signals are selected. Prioritized Task Scheduling, "Selecting the Task Queue of the Next
-- Scheduler Task"
use Rattle.std.specs.Prelude.{◌≡◌, ℕ, suc, Bool, List, Some}
use Rattle.page_types.specs.declared.Priority.{Priority}
use Rattle.page_parts.specs.Words.{and_last}
use Rattle.page_parts.specs.TaskSignals.{Prios, priority_of}
use Rattle.page_model.specs.State.{PrioSource, Page}
use Rattle.page_tasks.specs.Queued.{SignalPriority, priority_for}

-- each signal for which room was made has the priority by which its tasks are selected
pub record AreSelectedBy (prios : Prios) (priorities : List SignalPriority) : Type 0 where
  pub each : (s : ℕ) (priority : Priority) → priority_for priorities s ≡ Some priority → priority_of prios s ≡ Some priority

-- a scheduler task is enqueued, without its line
abbrev pub sched_put : (registration : ℕ) → PrioSource → (continuation : Bool) → Page → Page
sched_put r source continuation p =
    record p {
      tasks_made = suc p.tasks_made;
      sched_tasks = and_last p.sched_tasks (record {
        registration = r;
        source = source;
        continuation = continuation;
        order = suc p.tasks_made;
      });
    }
