-- The items that go on in parallel, which is first, and what taking one gives and leaves.
use Rattle.std.specs.Prelude.{◌≡◌, ℕ, ◌==◌, ◌&&◌, Bool, List, ◌++◌, map, Option, Some, None, option_map, nat_lt, if◌then◌else◌}
use Rattle.page_parts.specs.Words.{is_empty, is_there, without, without_numbered}
use Rattle.page_parts.specs.Setup.{Arrival}
use Rattle.page_parts.specs.Timers as Timers
use Rattle.page_parts.specs.Timers.{ActiveTimer}
use Rattle.page_model.specs.State.{Completion, Completing, HostTask, HostAnswer, IdleTimer}
use Rattle.page_model.specs.PageTime.{completion_of}
use Rattle.page_model.specs.Parallel.{Item, ItemKind, ArrivalItem, HostItem, TimerItem, IdleItem, FrameItem, arrival_items, first_item_of, due_item}
use Rattle.parallel_items.specs.InParallel.{Waiting, InParallel}

-- ---- each class of items, in its order

abbrev pub answer_item : HostAnswer → Item
answer_item a = record { due = a.due; what = HostItem a }

abbrev pub answer_items : List HostAnswer → List Item
answer_items answers = map (λ a. record { due = a.due; what = HostItem a }) answers

abbrev pub timer_item : ActiveTimer → Item
timer_item t = record { due = t.due; what = TimerItem t }

abbrev pub timer_items : List ActiveTimer → List Item
timer_items timers = map (λ t. record { due = t.due; what = TimerItem t }) timers

abbrev pub idle_item : IdleTimer → Item
idle_item t = record { due = t.due; what = IdleItem t }

abbrev pub idle_items : List IdleTimer → List Item
idle_items timers = map (λ t. record { due = t.due; what = IdleItem t }) timers

-- all but the rendering opportunity, class after class
abbrev pub waiting_items : Waiting → List Item
waiting_items w = arrival_items 1 w.arrivals ++ answer_items w.host_answers ++ timer_items w.timers.active ++ idle_items w.idle_timers

-- the one that is due first
abbrev pub first_waiting : Waiting → Option Item
first_waiting w = first_item_of (waiting_items w)

-- the same, where it is due
abbrev pub first_due : (now : ℕ) → Waiting → Option Item
first_due now w = due_item now (first_waiting w)

-- the first of the arrivals
abbrev pub first_arrival : List Arrival → Option Item
first_arrival arrivals = first_item_of (arrival_items 1 arrivals)

-- the first of the host answers
abbrev pub first_answer : List HostAnswer → Option Item
first_answer answers = first_item_of (answer_items answers)

-- the first of the active timers
abbrev pub first_timer : List ActiveTimer → Option Item
first_timer timers = first_item_of (timer_items timers)

-- the first of the idle timeouts
abbrev pub first_idle : List IdleTimer → Option Item
first_idle timers = first_item_of (idle_items timers)

-- the moment at which an item is due
abbrev pub due_of : Option Item → Option ℕ
due_of item = option_map (λ i. i.due) item

-- the one of two that is due earlier, the first of them where they are due together
abbrev pub earlier : (a b : Option Item) → Option Item
earlier None b = b
earlier (Some a) None = Some a
earlier (Some a) (Some b) = Some (if nat_lt b.due a.due then b else a)

-- ---- taking an item

-- what taking an item gives: an arrival; what a host is asked; the completion steps of a timer; an idle timeout
pub data Taken : Type 0 where
  TakenArrival : Arrival → Taken
  TakenAnswer : HostTask → Taken
  TakenCompletion : Completion → Taken
  TakenIdleTimeout : (handle : ℕ) → (registration : ℕ) → Taken

abbrev pub taken_by : ItemKind → List Completing → Option Taken
taken_by (ArrivalItem n a) cs = Some (TakenArrival a)
taken_by (HostItem a) cs = Some (TakenAnswer a.task)
taken_by (TimerItem t) cs = option_map TakenCompletion (completion_of cs t.start)
taken_by (IdleItem t) cs = Some (TakenIdleTimeout t.handle t.registration)
taken_by FrameItem cs = None

-- what it leaves
abbrev pub left_by : ItemKind → Waiting → Waiting
left_by (ArrivalItem n a) w = record w { arrivals = without_numbered n w.arrivals }
left_by (HostItem a) w = record w { host_answers = without (λ b. b.task.registration == a.task.registration) w.host_answers }
left_by (TimerItem t) w =
    record w { timers = Timers.completed t.start w.timers; completions = without (λ c. c.start == t.start) w.completions }
left_by (IdleItem t) w = record w { idle_timers = without (λ u. u.handle == t.handle) w.idle_timers }
left_by FrameItem w = w

-- the same of an item that may not be there
abbrev pub taken_of : Option Item → List Completing → Option Taken
taken_of None cs = None
taken_of (Some i) cs = taken_by i.what cs

abbrev pub left_of : Option Item → Waiting → Waiting
left_of None w = w
left_of (Some i) w = left_by i.what w

-- what taking the first active timer gives
abbrev pub timer_taken : Waiting → Option Taken
timer_taken w = taken_of (first_timer w.timers.active) w.completions

-- taking an item leaves this
abbrev pub without_item : Option Item → InParallel → InParallel
without_item item s = record s { waiting = left_of item s.waiting }

-- taking the first arrival leaves these, whatever else waits
abbrev pub LeavesArrivals : (old new : List Arrival) → Waiting → Type 0
LeavesArrivals old new w = left_of (first_arrival old) (record w { arrivals = old }) ≡ record w { arrivals = new }

-- taking the first host answer leaves these, whatever else waits
abbrev pub LeavesAnswers : (old new : List HostAnswer) → Waiting → Type 0
LeavesAnswers old new w = left_of (first_answer old) (record w { host_answers = old }) ≡ record w { host_answers = new }

-- taking the first idle timeout leaves these, whatever else waits
abbrev pub LeavesIdle : (old new : List IdleTimer) → Waiting → Type 0
LeavesIdle old new w = left_of (first_idle old) (record w { idle_timers = old }) ≡ record w { idle_timers = new }

-- an item, where there is one, is taken: what is given, and what is left
pub record Takes (item : Option Item) (old : InParallel) (given : Option Taken) (new : InParallel) : Type 0 where
  pub taken : given ≡ taken_of item old.waiting.completions
  pub some : is_there given ≡ is_there item
  pub left : new ≡ record old { waiting = left_of item old.waiting }

-- nothing goes on in parallel
abbrev pub nothing_waits : Waiting → Bool
nothing_waits w = is_empty w.arrivals && is_empty w.host_answers && is_empty w.timers.active && is_empty w.idle_timers
