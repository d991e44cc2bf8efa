-- How the part's calls are what the model's page does.
use Rattle.std.specs.Prelude.{◌≡◌, ℕ, ◌+◌, ◌*◌, not, ◌&&◌, ◌||◌, Bool, true, List, ◌++◌, Option, Some, None, ℤ, nat_lt, if◌then◌else◌}
use Rattle.page_types.specs.Events.{Arm, Drop, Due}
use Rattle.page_types.specs.declared.Source.TheVariants.{Net, Idle}
use Rattle.page_parts.specs.Words.{and_last, is_empty, is_there, least}
use Rattle.page_parts.specs.Setup.{Arrival}
use Rattle.page_parts.specs.Timers.{armed, has_id}
use Rattle.page_parts.specs.IdleCallbacks.{waits}
use Rattle.page_parts.specs.HostClosures.{HostClosure}
use Rattle.page_model.specs.State.{Completion, HostAnswer, IdleTimeout, FireAtWindow, AnswerHost, Page, emit, queue_task}
use Rattle.page_model.specs.PageTime.{run_after, init_timer, clear_id, clear_timer, registration_with_id, idle_timeout, next_frame}
use Rattle.page_model.specs.PageSignals.{drop_registration, drop_closure, waiting_answer, waiting_net_task, task_in_answer, task_in_net}
use Rattle.page_model.specs.SchedulerTasks.{without_sched}
use Rattle.page_model.specs.Parallel.{Item, FrameItem, first_item, frame_items, first_item_of, items_in_order, arrive, complete, take_item}
use Rattle.page_model.specs.Turns.{is_pending}
use Rattle.parallel_items.specs.InParallel.{Waiting, TimerOwner, waiting_of, with_waiting}
use Rattle.parallel_items.specs.Steps.{with_delay, with_timer, without_id, owner_of, with_answer, pending_answer, without_answer, with_idle_timeout, with_further}
use Rattle.parallel_items.specs.Items.{waiting_items, first_waiting, nothing_waits, due_of, earlier, Taken, TakenArrival, TakenAnswer, TakenCompletion, TakenIdleTimeout, taken_by, left_by}

-- the fields of a page that was given others are those
abbrev pub WaitingIs : Waiting → Page → Type 0
WaitingIs w p = (waiting_of (with_waiting w p) ≡ w) × (with_waiting (waiting_of p) p ≡ p)

abbrev pub RunAfterIs : (milliseconds : ℕ) → Completion → Page → Type 0
RunAfterIs ms completion p = run_after ms completion p ≡ with_waiting (with_delay ms p.now completion (waiting_of p)) p

-- the call, and then the line that tells it
abbrev pub InitIs : Option ℕ → (registration : ℕ) → (repeats : Bool) → (timeout : ℤ) → Page → Type 0
InitIs again r repeats timeout p =
    let a = armed again timeout p.level p.now p.timers in
    init_timer again r repeats timeout p
    ≡ emit (Arm r a.due a.level) (with_waiting (with_timer again a r repeats timeout (waiting_of p)) p)

abbrev pub ClearIs : ℕ → Page → Type 0
ClearIs id p = clear_id id p ≡ with_waiting (without_id id (waiting_of p)) p

abbrev pub IdleTimeoutIs : (milliseconds : ℕ) → (registration : ℕ) → Page → Type 0
IdleTimeoutIs ms r p =
    idle_timeout ms r p ≡ emit (Arm r (p.now + ms * 1000) 0) (with_waiting (with_idle_timeout ms p.now p.idle.made r (waiting_of p)) p)

-- asking a host, beside any other change of its closures
abbrev pub AskIs : List HostClosure → HostAnswer → Page → Type 0
AskIs hosts answer p =
    record p { hosts = hosts; host_answers = and_last p.host_answers answer }
    ≡ with_waiting (with_answer answer (waiting_of p)) (record p { hosts = hosts })

abbrev pub PendingIs : ℕ → Page → Type 0
PendingIs r p = task_in_answer (waiting_answer r p) ≡ pending_answer r (waiting_of p)

-- of each id in the map, and of no other, the owner is the registration that has this timer id
pub record AreOwners (owners : List TimerOwner) (p : Page) : Type 0 where
  pub there : (id : ℕ) → is_there (owner_of id owners) ≡ has_id id p.timers
  pub named : (id r : ℕ) → owner_of id owners ≡ Some r → registration_with_id id 1 p.registrations ≡ r

-- an id is cleared, where it has an owner, with the line that drops it
abbrev pub cleared_by : Option ℕ → (id : ℕ) → Page → Page
cleared_by None id p = p
cleared_by (Some r) id p = emit (Drop r) (with_waiting (without_id id (waiting_of p)) p)

abbrev pub ClearTimerIs : ℕ → List TimerOwner → Page → Type 0
ClearTimerIs id owners p = AreOwners owners p → clear_timer id p ≡ cleared_by (owner_of id owners) id p

-- a registration that is dropped gives its answer up
abbrev pub GiveUpIs : ℕ → Page → Type 0
GiveUpIs r p =
    drop_registration r p
    ≡ emit (Drop r)
    (without_sched r
    (with_waiting (without_answer r (waiting_of p))
    (record p {
      hosts =
          drop_closure (task_in_answer (waiting_answer r p)) (drop_closure (task_in_net (waiting_net_task r p)) p.hosts);
    })))

abbrev pub ArriveIs : Arrival → Page → Type 0
ArriveIs a p = arrive a p ≡ with_waiting (with_further a (waiting_of p)) p

-- what the page does with what it has taken
abbrev pub done_with : Option Taken → Page → Page
done_with None p = p
done_with (Some (TakenArrival a)) p = queue_task a.source (FireAtWindow a.name a.value) p
done_with (Some (TakenAnswer t)) p = queue_task Net (AnswerHost t) (emit (Due t.registration) p)
done_with (Some (TakenCompletion c)) p = complete c p
done_with (Some (TakenIdleTimeout handle r)) p = queue_task Idle (IdleTimeout handle) (emit (Due r) p)

-- taking an item that is no rendering opportunity: it leaves, and then the page does what it gives
abbrev pub TakeIs : Item → Page → Type 0
TakeIs i p =
    (i.what ≡ FrameItem → ⊥)
    → take_item i.what p ≡ done_with (taken_by i.what p.completions) (with_waiting (left_by i.what (waiting_of p)) p)

-- the items of a page, and the first of them: the rendering opportunity is last of its moment
abbrev pub ItemsAre : Page → Type 0
ItemsAre p = items_in_order p ≡ waiting_items (waiting_of p) ++ frame_items (next_frame p)

abbrev pub FirstIs : Page → Type 0
FirstIs p = first_item p ≡ earlier (first_waiting (waiting_of p)) (first_item_of (frame_items (next_frame p)))

-- whether a moment is before an item, or there is none
abbrev pub is_before : ℕ → Option Item → Bool
is_before t None = true
is_before t (Some i) = nat_lt t i.due

-- the rendering opportunity is first exactly where it is before the first of the others
abbrev pub FrameIsFirst : (t : ℕ) → Page → Type 0
FrameIsFirst t p =
    let others = first_waiting (waiting_of p) in
    next_frame p ≡ Some t
    → first_item p ≡ (if is_before t others then Some (record { due = t; what = FrameItem }) else others)

-- the moment of the first item
abbrev pub DueIs : Page → Type 0
DueIs p = due_of (first_item p) ≡ least (due_of (first_waiting (waiting_of p))) (next_frame p)

-- whether anything is pending
abbrev pub PendsIs : Page → Type 0
PendsIs p = is_pending p ≡ (not (nothing_waits (waiting_of p) && is_empty p.frames.callbacks) || waits p.idle)
