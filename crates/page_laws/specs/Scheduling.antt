-- What the scheduler reads, what becomes of it, and how turns and periods begin.
use Rattle.std.specs.Prelude.{◌≡◌, ◌≤◌, ◌==◌, ℕ, true, false, List, Some}
use Rattle.page_types.specs.declared.Priority.{Priority}
use Rattle.page_types.specs.Events.{Event}
use Rattle.page_parts.specs.TaskSignals.{Prios, priority_of}
use Rattle.page_parts.specs.Words.{is_there, numbered}
use Rattle.page_model.specs.State.{Page, PrioSource, Fixed, OfSignal, SchedulingState}
use Rattle.page_model.specs.SchedulerTasks.{no_state}
use Rattle.page_laws.specs.History.{is_period, is_turn}

-- the priorities of signals, the scheduling states, and how many task numbers were given; and the last idle period start
pub record Scheduling : Type 0 where
  pub prios : Prios
  pub states : List SchedulingState
  pub tasks_made : ℕ
  pub idle_start : ℕ

abbrev pub scheduling_of : Page → Scheduling
scheduling_of p =
    record { prios = p.prios; states = p.scheduling_states; tasks_made = p.tasks_made; idle_start = p.last_idle_start }

-- the same priorities, scheduling states and idle period start, and no fewer task numbers
pub record SchedulingAfter (before after : Scheduling) : Type 0 where
  pub priorities : (s : ℕ) → priority_of after.prios s ≡ priority_of before.prios s
  pub states : after.states ≡ before.states
  pub tasks_made : before.tasks_made ≤ after.tasks_made
  pub idle_start : after.idle_start ≡ before.idle_start

-- a line at which a period begins stands at the idle period start, and one at which a turn begins at nesting level 0
abbrev pub BeginsWell : Event → Page → Type 0
BeginsWell e p = (is_period e ≡ true → p.last_idle_start ≡ p.now) × (is_turn e ≡ true → p.level ≡ 0)

-- a priority source that has a priority: a fixed one, or a signal with a priority
abbrev pub HasPriority : Prios → PrioSource → Type 0
HasPriority ps (Fixed priority) = Unit {0}
HasPriority ps (OfSignal s) = is_there (priority_of ps s) ≡ true

-- a source that has a priority, or is that of a scheduling state
pub data Sourced (ps : Prios) (states : List SchedulingState) : PrioSource → Type 0 where
  known : {source : PrioSource} → HasPriority ps source → Sourced ps states source
  inherited : (k : ℕ) → Sourced ps states (numbered states k no_state).prio_source

-- signal s gets this priority, where it has one, and all other priorities stay
pub record PrioSet (s : ℕ) (priority : Priority) (before after : Prios) : Type 0 where
  pub others : (t : ℕ) → (s == t) ≡ false → priority_of after t ≡ priority_of before t
  pub own : (other : Priority) → priority_of after s ≡ Some other → other ≡ priority
  pub kept : (t : ℕ) → is_there (priority_of before t) ≡ true → is_there (priority_of after t) ≡ true
