-- Parallel items.
use Rattle.std.specs.Prelude.{ℕ, zero, suc, ◌+◌, false, if◌then◌else◌, List, [], ◌∷◌, ◌++◌, map, length, Option, Some, None, nat_lt, nat_le, ◌==◌}
use Rattle.page_types.specs.declared.Source.TheVariants.{Net, Timer, Render, Idle}
use Rattle.page_types.specs.Events.{Due}
use Rattle.page_parts.specs.Words.{without, without_numbered}
use Rattle.page_parts.specs.Timers.{ActiveTimer}
use Rattle.page_model.specs.State.{RunTimer, TimeOutSignal, FireAtWindow, AnswerHost, RunFrame, IdleTimeout, Completion, QueueTimer, EnqueuePost, QueueSignal, IdleTimer, HostAnswer, Page, the_registration, emit, queue_task}
use Rattle.page_parts.specs.Setup.{Arrival}
use Rattle.page_model.specs.PageSignals.{is_aborted_source}
use Rattle.page_model.specs.PageTime.{without_timer, completion_of, next_frame}
use Rattle.page_model.specs.SchedulerTasks.{enqueue}

-- ---- HTML, "Event loops: processing model": what goes on in parallel. Ours: its order, and that it is done only at the top of a turn

-- what goes on beside the script: an arrival with its number among those that are left, a host answer, an active timer, an idle timeout,
-- a rendering opportunity
pub data ItemKind : Type 0 where
  ArrivalItem : (number : ℕ) → Arrival → ItemKind
  HostItem : HostAnswer → ItemKind
  TimerItem : ActiveTimer → ItemKind
  IdleItem : IdleTimer → ItemKind
  FrameItem : ItemKind

-- the arrivals with one more, which stands behind those of the same or an earlier time
abbrev pub with_arrival : Arrival → List Arrival → List Arrival
with_arrival a [] = a ∷ []
with_arrival a (b ∷ more) = if nat_le b.at a.at then b ∷ with_arrival a more else a ∷ b ∷ more

-- a further arrival is to come
abbrev pub arrive : Arrival → Page → Page
arrive a p = record p { arrivals = with_arrival a p.arrivals }

-- a parallel item, and when it is due
pub record Item : Type 0 where
  pub due : ℕ
  pub what : ItemKind

-- the next rendering opportunity, where there is one
abbrev pub frame_items : Option ℕ → List Item
frame_items None = []
frame_items (Some t) = record { due = t; what = FrameItem } ∷ []

-- the arrivals in line order, numbered from n on
abbrev pub arrival_items : ℕ → List Arrival → List Item
arrival_items n [] = []
arrival_items n (a ∷ more) = record { due = a.at; what = ArrivalItem n a } ∷ arrival_items (suc n) more

-- all items, class after class: arrivals in line order, host answers, active timers and idle timeouts in order of start, the next
-- rendering opportunity
abbrev pub items_in_order : Page → List Item
items_in_order p =
    arrival_items 1 p.arrivals
    ++ map (λ a. record { due = a.due; what = HostItem a }) p.host_answers
    ++ map (λ t. record { due = t.due; what = TimerItem t }) p.timers.active
    ++ map (λ t. record { due = t.due; what = IdleItem t }) p.idle_timers
    ++ frame_items (next_frame p)

-- the first item of the least due time
abbrev pub first_item_from : Item → List Item → Item
first_item_from a [] = a
first_item_from a (b ∷ more) = first_item_from (if nat_lt b.due a.due then b else a) more

-- the first item of a list
abbrev pub first_item_of : List Item → Option Item
first_item_of [] = None
first_item_of (a ∷ more) = Some (first_item_from a more)

-- the item that is due first
abbrev pub first_item : Page → Option Item
first_item p = first_item_of (items_in_order p)

-- The completion steps of an active timer, with its `due` line. The delay of a post that was aborted enqueues nothing.
abbrev pub complete : Completion → Page → Page
complete (QueueTimer t) p = queue_task Timer (RunTimer t) (emit (Due t.registration) p)
complete (EnqueuePost r source) p =
    (if is_aborted_source p (the_registration p r).signal then (λ q. q) else enqueue r source false) (emit (Due r) p)
complete (QueueSignal r s) p = queue_task Timer (TimeOutSignal s) (emit (Due r) p)

-- the same where completion steps are there
abbrev pub complete_at : Option Completion → Page → Page
complete_at None p = p
complete_at (Some c) p = complete c p

-- what taking an item does: all but a delayed `postTask` queue a task; a rendering opportunity sets the last render opportunity time to now
abbrev pub take_item : ItemKind → Page → Page
take_item (ArrivalItem n a) p = queue_task a.source (FireAtWindow a.name a.value) (record p { arrivals = without_numbered n p.arrivals })
take_item (HostItem a) p =
    queue_task Net (AnswerHost a.task)
    (emit (Due a.task.registration) (record p { host_answers = without (λ b. b.task.registration == a.task.registration) p.host_answers }))
take_item (TimerItem t) p = complete_at (completion_of p.completions t.start) (without_timer t.start p)
take_item (IdleItem t) p =
    queue_task Idle (IdleTimeout t.handle)
    (emit (Due t.registration) (record p { idle_timers = without (λ u. u.handle == t.handle) p.idle_timers }))
take_item FrameItem p = queue_task Render (RunFrame p.now) (record p { last_opportunity = p.now })

-- the item, if it is due
abbrev pub due_item : ℕ → Option Item → Option Item
due_item now None = None
due_item now (Some a) = if nat_le a.due now then Some a else None

-- while an item is due, the first one is taken; there are no more than n
abbrev pub take_due : ℕ → Page → Page
take_due zero p = p
take_due (suc n) p = elim (due_item p.now (first_item p)) [ None ↦ p | Some a ↦ take_due n (take_item a.what p) ]

-- taking an item adds none, so the items of now are enough
abbrev pub item_count : Page → ℕ
item_count p = suc (length p.arrivals + length p.host_answers + length p.timers.active + length p.idle_timers)

-- the parallel items that are due are taken
abbrev pub parallel : Page → Page
parallel p = take_due (item_count p) p
