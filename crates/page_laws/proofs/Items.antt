-- Taking the parallel items that are due is a row of changes.
use Rattle.page_model.proofs.GivenNumbers.Tasks.{ItemIsGiven, IfItemIsGiven, items-given, first_of-given, due_item-given, take_item-held, completion_of-given}
use Rattle.std.proofs.Common.{◌≡◌, ℕ, zero, suc, ◌⊎◌, inl, inr, ◌≤◌, ◌<◌, Bool, true, false, List, [], ◌∷◌, Option, Some, None, refl, ap, sym, subst, ◌∙◌, ◌++◌, cond, nat_lt, nat_le, map, arith}
use Rattle.page_types.specs.declared.Source.TheVariants.{Net, Timer, Render, Idle as IdleSource}
use Rattle.page_types.specs.Events.{Due}
use Rattle.page_parts.specs.Words.{without_numbered}
use Rattle.page_parts.specs.Timers.{ActiveTimer}
use Rattle.page_parts.specs.Setup.{Arrival}
use Rattle.page_model.specs.State.{SchedTask, HostAnswer, IdleTimer, TimeOutSignal, FireAtWindow, RunFrame, Completion, QueueTimer, EnqueuePost, QueueSignal, PrioSource, Page, emit, the_registration}
use Rattle.page_model.specs.PageTime.{next_frame, completion_of, without_timer}
use Rattle.page_model.proofs.GivenNumbers.Growing.{Held, InCompletions}
use Rattle.page_model.specs.SchedulerTasks.{enqueue, queue_name}
use Rattle.page_model.specs.PageSignals.{is_aborted_source}
use Rattle.page_model.specs.Parallel.{ItemKind, ArrivalItem, HostItem, TimerItem, IdleItem, FrameItem, Item, arrival_items, frame_items, items_in_order, first_item_from, first_item_of, complete, complete_at, take_item, due_item, first_item, take_due, item_count, parallel}
use Rattle.page_model.specs.Numbers.{Each, IfThere, made_by, CompletionIsGiven}
use Rattle.page_laws.specs.Moves.{calmly, DelayWaits, IsIn, IsFirstDue, IsTimerDue, places, completed, Changes, nothing, with_change, timer_due, delay_due, signal_due, idle_due, answer_due, post_fell_due}
use Rattle.std.proofs.lemmas.Bool.{leb-true, ltb-true, ltb-false}
use Rattle.page_laws.proofs.Moving.{changes-then}
use Rattle.page_laws.specs.TimerLaws.{was_done}
use Rattle.page_laws.proofs.TimersLive.{found-steps}
use Rattle.page_laws.proofs.Unarmed.{each-in}
use Rattle.page_laws.proofs.Watching.{AbortedBy, PostsWatched, changes-posts, over-due}
use Rattle.page_laws.proofs.Moved.{due-changes, placed, queue_task-changes, quietly}

-- ---- parallel items

-- where no abort is under way
abbrev pub none_under_way : ℕ → Bool
none_under_way s = false

-- a delayed post that was found by a start
delay-found : (p : Page) (start r : ℕ) (source : PrioSource) → completion_of p.completions start ≡ Some (EnqueuePost r source) → DelayWaits r p.completions
delay-found p start r source e =
    let found = found-steps start (EnqueuePost r source) p.completions e in
    record { steps = found.steps; there = found.there; source = source; own = found.what }

aborted-by : (p : Page) (o : Option ℕ) → is_aborted_source p o ≡ true → AbortedBy p o
aborted-by p None a = absurd (no_abort a)
  where
    no_abort : false ≡ true → ⊥
    no_abort e = Prim.cc
aborted-by p (Some s) a = a

-- the steps of an active timer complete, which were found by its start
complete-changes : (start : ℕ) (c : Completion) (p : Page) → completion_of p.completions start ≡ Some c → CompletionIsGiven (made_by p) c → IsTimerDue (places p) start p.now → ((r : ℕ) (source : PrioSource) → completion_of p.completions start ≡ Some (EnqueuePost r source) → is_aborted_source p (the_registration p r).signal ≡ true → was_done p.events r ≡ true) → Changes p (complete c (without_timer start p))
complete-changes start (QueueTimer t) p e x by over =
    due-changes t.registration p (complete (QueueTimer t) (without_timer start p)) (timer_due start (suc p.tasks_made) Timer t e refl x.registration.role) (record { notices = refl; performing = refl; events = refl; registrations = refl; frames = refl; calls = refl; aborted = λ s h. h; watched = calmly (λ s r i. inr (i, λ h. h)); level = refl; form = refl; scheduling = record { priorities = λ s. refl; states = refl; tasks_made = omega arith; idle_start = refl } }) (by, refl, refl) tt
complete-changes start (EnqueuePost r source) p e x by over = by_abort (is_aborted_source p (the_registration p r).signal) refl
  where
    t : SchedTask
    t = record { registration = r; source = source; continuation = false; order = suc p.tasks_made }

    by_abort : (b : Bool) → is_aborted_source p (the_registration p r).signal ≡ b → Changes p (cond b (λ q. q) (enqueue r source false) (emit (Due r) (without_timer start p)))
    by_abort true k = due-changes r p (emit (Due r) (without_timer start p)) (delay_due start source e x.2.role) (record { notices = refl; performing = refl; events = refl; registrations = refl; frames = refl; calls = refl; aborted = λ s h. h; watched = calmly (λ s r i. inr (i, λ h. h)); level = refl; form = refl; scheduling = record { priorities = λ s. refl; states = refl; tasks_made = omega arith; idle_start = refl } }) (by, over r source e k) tt
    by_abort false k = with_change nothing (post_fell_due start source t (queue_name source) e x.2.role k refl (record { order = refl; made = omega arith; named = refl }, refl, refl) (record { notices = refl; performing = refl; events = refl; registrations = refl; frames = refl; calls = refl; aborted = λ s h. h; watched = calmly (λ s r i. inr (i, λ h. h)); level = refl; form = refl; scheduling = record { priorities = λ s. refl; states = refl; tasks_made = omega arith; idle_start = refl } }) by) tt
complete-changes start (QueueSignal r s) p e x by over =
    let gone = emit (Due r) (without_timer start p) in
    changes-then (due-changes r p gone (signal_due start s e x.0.role) (record { notices = refl; performing = refl; events = refl; registrations = refl; frames = refl; calls = refl; aborted = λ s h. h; watched = calmly (λ s r i. inr (i, λ h. h)); level = refl; form = refl; scheduling = record { priorities = λ s. refl; states = refl; tasks_made = omega arith; idle_start = refl } }) by tt) (queue_task-changes Timer (TimeOutSignal s) gone refl refl)

complete_at-changes : (start : ℕ) (c : Option Completion) (p : Page) → completion_of p.completions start ≡ c → IfThere (CompletionIsGiven (made_by p)) c → IsTimerDue (places p) start p.now → ((r : ℕ) (source : PrioSource) → completion_of p.completions start ≡ Some (EnqueuePost r source) → is_aborted_source p (the_registration p r).signal ≡ true → was_done p.events r ≡ true) → Changes p (complete_at c (without_timer start p))
complete_at-changes start None p e x by over = placed p (without_timer start p) (completed start e) tt tt refl refl refl refl refl refl refl refl
complete_at-changes start (Some c) p e x by over = complete-changes start c p e x by over

-- an answer that is pending: the ones before it and behind it
record Pending (xs : List HostAnswer) (a : HostAnswer) : Type 0 where
  before : List HostAnswer
  after : List HostAnswer
  whole : xs ≡ before ++ a ∷ after

-- a host's item is an answer that is pending, a timer's the active timer that completes first, an idle item an idle timeout, with its due time
abbrev Stands : Page → ℕ → ItemKind → Type 0
Stands p due (HostItem a) = Pending p.host_answers a × a.due ≡ due
Stands p due (TimerItem t) = IsFirstDue t p.timers.active × t.due ≡ due
Stands p due (IdleItem t) = IsIn t p.idle_timers × t.due ≡ due
Stands p due what = Unit {0}

take_item-changes : (what : ItemKind) (due : ℕ) (p : Page) → Stands p due what → due ≤ p.now → Held (made_by p) p → PostsWatched none_under_way p → ItemIsGiven (made_by p) what → Changes p (take_item what p)
take_item-changes (ArrivalItem n a) due p h le k w x =
    let q : Page = record p { arrivals = without_numbered n p.arrivals } in
    changes-then (quietly p q refl refl refl refl refl refl refl refl refl) (queue_task-changes a.source (FireAtWindow a.name a.value) q refl refl)
take_item-changes (HostItem a) due p h le k w x =
    let same = h.1 in
    due-changes a.task.registration p (take_item (HostItem a) p) (answer_due h.0.before a h.0.after (suc p.tasks_made) Net h.0.whole refl x.kind.role) (record { notices = refl; performing = refl; events = refl; registrations = refl; frames = refl; calls = refl; aborted = λ s h. h; watched = calmly (λ s r i. inr (i, λ h. h)); level = refl; form = refl; scheduling = record { priorities = λ s. refl; states = refl; tasks_made = omega arith; idle_start = refl } }) (omega (arith, le, same), refl, refl) tt
take_item-changes (TimerItem t) due p h le k w x =
    let same = h.1 in
    complete_at-changes t.start (completion_of p.completions t.start) p refl (completion_of-given (made_by p) p.completions t.start (k InCompletions))
    (record { timer = t; first = h.0; own = refl; time = omega (arith, le, same) }) (λ r source e a. over-due p w r (delay-found p t.start r source e) (the_registration p r).signal refl (aborted-by p (the_registration p r).signal a))
take_item-changes (IdleItem t) due p h le k w x =
    let same = h.1 in
    due-changes t.registration p (take_item (IdleItem t) p) (idle_due t (suc p.tasks_made) IdleSource h.0 refl x.registration.role) (record { notices = refl; performing = refl; events = refl; registrations = refl; frames = refl; calls = refl; aborted = λ s h. h; watched = calmly (λ s r i. inr (i, λ h. h)); level = refl; form = refl; scheduling = record { priorities = λ s. refl; states = refl; tasks_made = omega arith; idle_start = refl } }) (omega (arith, le, same), refl) tt
take_item-changes FrameItem due p h le k w x =
    let q : Page = record p { last_opportunity = p.now } in
    changes-then (quietly p q refl refl refl refl refl refl refl refl refl) (queue_task-changes Render (RunFrame p.now) q refl refl)

-- ---- the item that is due first

-- the first of these of least due time
abbrev IsPicked : Item → List Item → Type 0
IsPicked x [] = ⊥
IsPicked x (b ∷ bs) = (x ≡ b × Each (λ (c : Item). x.due ≤ c.due) bs) ⊎ (x.due < b.due × IsPicked x bs)

picked-least : (x b : Item) (bs : List Item) → IsPicked x (b ∷ bs) → x.due ≤ b.due
picked-least x b bs (inl h) = let e = ap {A = Item} {B = ℕ} (λ i. i.due) h.0 in omega (arith, e)
picked-least x b bs (inr h) = let a = h.0 in omega (arith, a)

first-picked : (a : Item) (others : List Item) → IsPicked (first_item_from a others) (a ∷ others)
first-picked a [] = inl (refl, tt)
first-picked a (b ∷ others) = by_test (nat_lt b.due a.due) refl (first-picked (cond (nat_lt b.due a.due) b a) others)
  where
    by_test : (c : Bool) → nat_lt b.due a.due ≡ c → IsPicked (first_item_from (cond c b a) others) (cond c b a ∷ others) → IsPicked (first_item_from (cond c b a) others) (a ∷ b ∷ others)
    by_test true e k = let le = picked-least (first_item_from b others) b others k in let lt = ltb-true b.due a.due e in inr (omega (arith, le, lt), k)
    by_test false e (inl k) =
        let same = ap {A = Item} {B = ℕ} (λ i. i.due) k.0 in
        let le = ltb-false b.due a.due e in
        inl (k.0, (omega (arith, same, le), k.1))
    by_test false e (inr k) = let lt = k.0 in let le = ltb-false b.due a.due e in inr (lt, inr (omega (arith, lt, le), k.1))

picked-either : (x : Item) (xs ys : List Item) → IsPicked x (xs ++ ys) → IsPicked x xs ⊎ IsPicked x ys
picked-either x [] ys h = inr h
picked-either x (b ∷ xs) ys (inl h) = inl (inl (h.0, fewer xs h.1))
  where
    fewer : (zs : List Item) → Each (λ (c : Item). x.due ≤ c.due) (zs ++ ys) → Each (λ (c : Item). x.due ≤ c.due) zs
    fewer [] h = tt
    fewer (z ∷ zs) h = (h.0, fewer zs h.1)
picked-either x (b ∷ xs) ys (inr h) = by_rest (picked-either x xs ys h.1)
  where
    by_rest : IsPicked x xs ⊎ IsPicked x ys → IsPicked x (b ∷ xs) ⊎ IsPicked x ys
    by_rest (inl k) = inl (inr (h.0, k))
    by_rest (inr k) = inr k

picked-in : (x : Item) (xs : List Item) → IsPicked x xs → IsIn x xs
picked-in x [] h = elim h [ ]
picked-in x (b ∷ xs) (inl h) = inl h.0
picked-in x (b ∷ xs) (inr h) = inr (picked-in x xs h.1)

abbrev Standing : Page → Item → Type 0
Standing p x = Stands p x.due x.what

-- ---- the items that stand in a page

arrivals_stand : (p : Page) (n : ℕ) (xs : List Arrival) → Each (Standing p) (arrival_items n xs)
arrivals_stand p n [] = tt
arrivals_stand p n (x ∷ xs) = (tt, arrivals_stand p (suc n) xs)

hosts_stand : (p : Page) (before xs : List HostAnswer) → p.host_answers ≡ before ++ xs → Each (Standing p) (map (λ a. record { due = a.due; what = HostItem a }) xs)
hosts_stand p before [] e = tt
hosts_stand p before (x ∷ xs) e = ((record { before = before; after = xs; whole = e }, refl), hosts_stand p (before ++ x ∷ []) xs (e ∙ shifted before))
  where
    shifted : (ys : List HostAnswer) → ys ++ x ∷ xs ≡ (ys ++ x ∷ []) ++ xs
    shifted [] = refl
    shifted (y ∷ ys) = ap (y ∷◌) (shifted ys)

idles_stand : (p : Page) (xs : List IdleTimer) → ((t : IdleTimer) → IsIn t xs → IsIn t p.idle_timers) → Each (Standing p) (map (λ t. record { due = t.due; what = IdleItem t }) xs)
idles_stand p [] h = tt
idles_stand p (x ∷ xs) h = ((h x (inl refl), refl), idles_stand p xs (λ t i. h t (inr i)))

frames_stand : (p : Page) (o : Option ℕ) → Each (Standing p) (frame_items o)
frames_stand p None = tt
frames_stand p (Some t) = (tt, tt)

-- the item of an active timer, and this is the first of least due time
abbrev timer_item : ActiveTimer → Item
timer_item t = record { due = t.due; what = TimerItem t }

record OfTimer (x : Item) (ts : List ActiveTimer) : Type 0 where
  timer : ActiveTimer
  own : timer_item timer ≡ x
  first : IsFirstDue timer ts

timer-picked : (x : Item) (ts : List ActiveTimer) → IsPicked x (map timer_item ts) → OfTimer x ts
timer-picked x [] h = elim h [ ]
timer-picked x (b ∷ bs) (inl h) = record { timer = b; own = sym h.0; first = inl (refl, later bs h.1) }
  where
    later : (cs : List ActiveTimer) → Each (λ (c : Item). x.due ≤ c.due) (map timer_item cs) → (c : ActiveTimer) → IsIn c cs → b.due ≤ c.due
    later [] k c i = elim i [ ]
    later (d ∷ cs) k c (inl e) =
        let a = k.0 in
        let same = ap {A = Item} {B = ℕ} (λ i. i.due) h.0 in
        let own = ap {A = ActiveTimer} {B = ℕ} (λ t. t.due) e in
        omega (arith, a, same, own)
    later (d ∷ cs) k c (inr i) = later cs k.1 c i
timer-picked x (b ∷ bs) (inr h) =
    let k = timer-picked x bs h.1 in
    let own = ap {A = Item} {B = ℕ} (λ i. i.due) k.own in
    let lt = h.0 in
    record { timer = k.timer; own = k.own; first = inr (omega (arith, own, lt), k.first) }

items_stand : (p : Page) (x : Item) → IsPicked x (items_in_order p) → Standing p x
items_stand p x h = by_frames (picked-either x (arrivals ++ hosts ++ timers ++ idles) (frame_items (next_frame p)) h)
  where
    arrivals : List Item
    arrivals = arrival_items 1 p.arrivals

    hosts : List Item
    hosts = map (λ a. record { due = a.due; what = HostItem a }) p.host_answers

    timers : List Item
    timers = map timer_item p.timers.active

    idles : List Item
    idles = map (λ t. record { due = t.due; what = IdleItem t }) p.idle_timers

    of_timer : OfTimer x p.timers.active → Standing p x
    of_timer k = subst (Standing p) k.own (k.first, refl)

    by_hosts : IsPicked x (arrival_items 1 p.arrivals) ⊎ IsPicked x (map (λ a. record { due = a.due; what = HostItem a }) p.host_answers) → Standing p x
    by_hosts (inl k) = each-in (Standing p) (arrival_items 1 p.arrivals) (arrivals_stand p 1 p.arrivals) x (picked-in x (arrival_items 1 p.arrivals) k)
    by_hosts (inr k) = each-in (Standing p) _ (hosts_stand p [] p.host_answers refl) x (picked-in x _ k)

    by_timers : IsPicked x (arrival_items 1 p.arrivals ++ map (λ a. record { due = a.due; what = HostItem a }) p.host_answers) ⊎ IsPicked x (map timer_item p.timers.active) → Standing p x
    by_timers (inl k) = by_hosts (picked-either x (arrival_items 1 p.arrivals) _ k)
    by_timers (inr k) = of_timer (timer-picked x p.timers.active k)

    by_idles : IsPicked x (arrival_items 1 p.arrivals ++ map (λ a. record { due = a.due; what = HostItem a }) p.host_answers ++ map timer_item p.timers.active) ⊎ IsPicked x (map (λ t. record { due = t.due; what = IdleItem t }) p.idle_timers) → Standing p x
    by_idles (inl k) = by_timers (picked-either x (arrival_items 1 p.arrivals ++ map (λ a. record { due = a.due; what = HostItem a }) p.host_answers) (map timer_item p.timers.active) k)
    by_idles (inr k) = each-in (Standing p) _ (idles_stand p p.idle_timers (λ t i. i)) x (picked-in x _ k)

    by_frames : IsPicked x (arrival_items 1 p.arrivals ++ map (λ a. record { due = a.due; what = HostItem a }) p.host_answers ++ map timer_item p.timers.active ++ map (λ t. record { due = t.due; what = IdleItem t }) p.idle_timers) ⊎ IsPicked x (frame_items (next_frame p)) → Standing p x
    by_frames (inl k) = by_idles (picked-either x (arrival_items 1 p.arrivals ++ map (λ a. record { due = a.due; what = HostItem a }) p.host_answers ++ map timer_item p.timers.active) _ k)
    by_frames (inr k) = each-in (Standing p) (frame_items (next_frame p)) (frames_stand p (next_frame p)) x (picked-in x (frame_items (next_frame p)) k)

first_of-stands : (p : Page) (xs : List Item) → ((x : Item) → IsPicked x xs → Standing p x) → IfThere (Standing p) (first_item_of xs)
first_of-stands p [] h = tt
first_of-stands p (a ∷ others) h = h (first_item_from a others) (first-picked a others)

due_stands : (p : Page) (o : Option Item) → IfThere (Standing p) o → IfThere (λ (x : Item). Standing p x × x.due ≤ p.now) (due_item p.now o)
due_stands p None k = tt
due_stands p (Some a) k = by_test (nat_le a.due p.now) refl
  where
    by_test : (b : Bool) → nat_le a.due p.now ≡ b → IfThere (λ (x : Item). Standing p x × x.due ≤ p.now) (cond b (Some a) None)
    by_test true e = (k, leb-true a.due p.now e)
    by_test false e = tt

take_due-changes : (n : ℕ) (p : Page) → Held (made_by p) p → PostsWatched none_under_way p → Changes p (take_due n p)
take_due-changes zero p h w = nothing
take_due-changes (suc n) p h w =
    by_item (due_item p.now (first_item p)) (due_stands p (first_item p) (first_of-stands p (items_in_order p) (items_stand p)))
    (due_item-given (made_by p) p.now (first_item p) (first_of-given (made_by p) (items_in_order p) (items-given p h))) (λ q k v. take_due-changes n q k v)
  where
    by_item : (o : Option Item) → IfThere (λ (x : Item). Standing p x × x.due ≤ p.now) o → IfItemIsGiven (made_by p) o → ((q : Page) → Held (made_by q) q → PostsWatched none_under_way q → Changes q (take_due n q)) → Changes p (elim o [ None ↦ p | Some a ↦ take_due n (take_item a.what p) ])
    by_item None k x rest = nothing
    by_item (Some a) k x rest =
        let taken = take_item-changes a.what a.due p k.0 k.1 h w x in
        changes-then taken (rest (take_item a.what p) (take_item-held a.what p h x).1 (changes-posts none_under_way taken w))

pub parallel-changes : (p : Page) → Held (made_by p) p → PostsWatched none_under_way p → Changes p (parallel p)
parallel-changes p h w = take_due-changes (item_count p) p h w
