-- The bound of the parallel items suffices: each one that is taken is one less, and none comes.
use Rattle.std.proofs.Common.{◌≡◌, ℕ, zero, suc, ◌+◌, ◌≤◌, ◌<◌, le_refl, Bool, true, false, List, [], ◌∷◌, ◌++◌, map, length, append_assoc, Option, Some, None, refl, ap, sym, subst, cond, ◌||◌, nat_lt, nat_le, find, arith, eq-eqb}
use Rattle.std.specs.Prelude.{◌==◌}
use Rattle.page_types.specs.declared.Source.{Source}
use Rattle.page_types.specs.declared.Source.TheVariants.{Net, Timer, Render, Idle}
use Rattle.page_types.specs.Events.{Due}
use Rattle.page_parts.specs.Words.{without, without_numbered, is_empty, is_there, and_last}
use Rattle.page_parts.specs.Setup.{Arrival}
use Rattle.page_parts.specs.Sources.{same_source}
use Rattle.page_model.specs.State.{Page, Steps, RunTimer, TimeOutSignal, FireAtWindow, AnswerHost, IdleTimeout, Completion, QueueTimer, EnqueuePost, QueueSignal, emit, queue_task, the_registration}
use Rattle.page_model.specs.PageSignals.{is_aborted_source}
use Rattle.page_model.specs.PageTime.{first_task, next_frame, without_timer, completion_of}
use Rattle.page_model.specs.SchedulerTasks.{enqueue}
use Rattle.page_model.specs.Parallel.{ItemKind, ArrivalItem, HostItem, TimerItem, IdleItem, FrameItem, Item, arrival_items, frame_items, items_in_order, first_item_from, first_item_of, first_item, complete, complete_at, take_item, due_item, take_due, item_count}
use Rattle.page_model.specs.Bounds.{take_due_or}
use Rattle.page_model.proofs.Holding.Evaluation.{Every, IfThere, Every-append}

-- ---- lists

Every-of_map : {X Y : Type 0} (P : Y → Type 0) (f : X → Y) (xs : List X) → Every (λ x. P (f x)) xs → Every P (map f xs)
Every-of_map P f [] h = tt
Every-of_map P f (x ∷ xs) h = (h.0, Every-of_map P f xs h.1)

without-le : {X : Type 0} (test : X → Bool) (xs : List X) → length (without test xs) ≤ length xs
without-le test [] = le_refl 0
without-le test (x ∷ xs) = by_test (test x) (without-le test xs)
  where
    by_test : (b : Bool) → length (without test xs) ≤ length xs → length (cond b (without test xs) (x ∷ without test xs)) ≤ suc (length xs)
    by_test true h = omega arith
    by_test false h = omega arith

-- a list without an item that it has is shorter
shrinks : {X : Type 0} (test : X → Bool) (before : List X) (a : X) (after : List X) → test a ≡ true → length (without test (before ++ a ∷ after)) < length (before ++ a ∷ after)
shrinks test [] a after e = by_test (test a) e
  where
    by_test : (b : Bool) → b ≡ true → length (cond b (without test after) (a ∷ without test after)) < suc (length after)
    by_test true e = omega (arith, without-le test after)
    by_test false e = absurd Prim.cc
shrinks test (x ∷ before) a after e = by_test (test x) (shrinks test before a after e)
  where
    by_test : (b : Bool) → length (without test (before ++ a ∷ after)) < length (before ++ a ∷ after) → length (cond b (without test (before ++ a ∷ after)) (x ∷ without test (before ++ a ∷ after))) < suc (length (before ++ a ∷ after))
    by_test true h = omega arith
    by_test false h = omega arith

-- so it is for each item, where a test is met by its own item
each_shrinks_from : {X : Type 0} (test : X → X → Bool) → ((x : X) → test x x ≡ true) → (before xs : List X) → Every (λ a. length (without (test a) (before ++ xs)) < length (before ++ xs)) xs
each_shrinks_from test own before [] = tt
each_shrinks_from test own before (x ∷ xs) =
    (shrinks (test x) before x xs (own x), subst (λ l. Every (λ a. length (without (test a) l) < length l) xs) (append_assoc before (x ∷ []) xs) (each_shrinks_from test own (before ++ x ∷ []) xs))

each_shrinks : {X : Type 0} (test : X → X → Bool) → ((x : X) → test x x ≡ true) → (xs : List X) → Every (λ a. length (without (test a) xs) < length xs) xs
each_shrinks test own xs = each_shrinks_from test own [] xs

find_there-more : {X : Type 0} (test : X → Bool) (xs : List X) (x : X) → is_there (find test xs) ≡ true → is_there (find test (and_last xs x)) ≡ true
find_there-more test [] x e = absurd Prim.cc
find_there-more test (y ∷ xs) x e = by_test (test y) (find_there-more test xs x) e
  where
    by_test : (b : Bool) → (is_there (find test xs) ≡ true → is_there (find test (and_last xs x)) ≡ true) → is_there (cond b (Some y) (find test xs)) ≡ true → is_there (cond b (Some y) (find test (and_last xs x))) ≡ true
    by_test true more e = refl
    by_test false more e = more e

find_there-last : {X : Type 0} (test : X → Bool) (xs : List X) (x : X) → test x ≡ true → is_there (find test (and_last xs x)) ≡ true
find_there-last test [] x e = by_test (test x) e
  where
    by_test : (b : Bool) → b ≡ true → is_there (cond b (Some x) None) ≡ true
    by_test true e = refl
    by_test false e = e
find_there-last test (y ∷ xs) x e = by_test (test y) (find_there-last test xs x e)
  where
    by_test : (b : Bool) → is_there (find test (and_last xs x)) ≡ true → is_there (cond b (Some y) (find test (and_last xs x))) ≡ true
    by_test true last = refl
    by_test false last = last

-- ---- how many items wait

-- 1 where a rendering opportunity is an item, else 0
abbrev pub frames_waiting : Page → ℕ
frames_waiting p = length (frame_items (next_frame p))

-- the items of a page
abbrev pub items_waiting : Page → ℕ
items_waiting p = length p.arrivals + length p.host_answers + length p.timers.active + length p.idle_timers + frames_waiting p

frames_by : (a b b' : Bool) (t t' : ℕ) → (b ≡ true → b' ≡ true) → length (frame_items (cond (a || b') None (Some t'))) ≤ length (frame_items (cond (a || b) None (Some t)))
frames_by true b b' t t' h = le_refl 0
frames_by false true true t t' h = le_refl 0
frames_by false true false t t' h = absurd (let e = h refl in Prim.cc)
frames_by false false true t t' h = omega arith
frames_by false false false t t' h = le_refl 1

frames_none : (a b : Bool) (t : ℕ) → b ≡ true → length (frame_items (cond (a || b) None (Some t))) ≡ 0
frames_none true b t e = refl
frames_none false true t e = refl
frames_none false false t e = absurd Prim.cc

frames_few : (a b : Bool) (t : ℕ) → length (frame_items (cond (a || b) None (Some t))) ≤ 1
frames_few true b t = omega arith
frames_few false true t = omega arith
frames_few false false t = le_refl 1

-- at most as many as the bound
frames-within : (p : Page) → frames_waiting p ≤ 1
frames-within p = frames_few (is_empty p.frames.callbacks) (is_there (first_task Render p.tasks)) _

pub items-within : (p : Page) → items_waiting p ≤ item_count p
items-within p = omega (arith, frames-within p)

-- a task that is queued brings no rendering opportunity
queued-frames : (p : Page) (source : Source) (steps : Steps) → frames_waiting (queue_task source steps p) ≤ frames_waiting p
queued-frames p source steps =
    frames_by (is_empty p.frames.callbacks) (is_there (first_task Render p.tasks)) (is_there (first_task Render (queue_task source steps p).tasks)) _ _
    (λ e. find_there-more (λ t. same_source t.source Render) p.tasks _ e)

-- ---- the first item is one of those that wait

-- taking what is there makes one less: the list that it stands in is shorter without it
abbrev pub Known : Page → ItemKind → Type 0
Known p (ArrivalItem n a) = length (without_numbered n p.arrivals) < length p.arrivals
Known p (HostItem a) = length (without (λ b. b.task.registration == a.task.registration) p.host_answers) < length p.host_answers
Known p (TimerItem t) = length (without (λ a. a.start == t.start) p.timers.active) < length p.timers.active
Known p (IdleItem t) = length (without (λ u. u.handle == t.handle) p.idle_timers) < length p.idle_timers
Known p FrameItem = 0 < frames_waiting p

shorter : {X : Type 0} (n : ℕ) (xs : List X) → n < length xs → length (without_numbered (suc n) xs) < length xs
shorter n [] h = absurd (omega (arith, h))
shorter zero (x ∷ xs) h = omega arith
shorter (suc n) (x ∷ xs) h = omega (arith, shorter n xs (omega arith))

arrivals_known : (p : Page) (n : ℕ) (xs : List Arrival) → n + length xs ≤ length p.arrivals → Every (λ (i : Item). Known p i.what) (arrival_items (suc n) xs)
arrivals_known p n [] h = tt
arrivals_known p n (x ∷ xs) h = (shorter n p.arrivals (omega arith), arrivals_known p (suc n) xs (omega arith))

frames_known : (p : Page) (o : Option ℕ) → length (frame_items o) ≤ frames_waiting p → Every (λ (i : Item). Known p i.what) (frame_items o)
frames_known p None h = tt
frames_known p (Some t) h = (h, tt)

all_known : (p : Page) → Every (λ (i : Item). Known p i.what) (items_in_order p)
all_known p =
    let P : Item → Type 0 = λ i. Known p i.what in
    let arrivals : List Item = arrival_items 1 p.arrivals in
    let hosts : List Item = map (λ a. record { due = a.due; what = HostItem a }) p.host_answers in
    let timers : List Item = map (λ t. record { due = t.due; what = TimerItem t }) p.timers.active in
    let idles : List Item = map (λ t. record { due = t.due; what = IdleItem t }) p.idle_timers in
    Every-append P (arrivals ++ hosts ++ timers ++ idles) (frame_items (next_frame p))
    (Every-append P (arrivals ++ hosts ++ timers) idles
    (Every-append P (arrivals ++ hosts) timers
    (Every-append P arrivals hosts (arrivals_known p 0 p.arrivals (omega arith))
    (Every-of_map P (λ a. record { due = a.due; what = HostItem a }) p.host_answers (each_shrinks (λ a b. b.task.registration == a.task.registration) (λ a. eq-eqb a.task.registration a.task.registration refl) p.host_answers)))
    (Every-of_map P (λ t. record { due = t.due; what = TimerItem t }) p.timers.active (each_shrinks (λ t a. a.start == t.start) (λ t. eq-eqb t.start t.start refl) p.timers.active)))
    (Every-of_map P (λ t. record { due = t.due; what = IdleItem t }) p.idle_timers (each_shrinks (λ t u. u.handle == t.handle) (λ t. eq-eqb t.handle t.handle refl) p.idle_timers)))
    (frames_known p (next_frame p) (le_refl (frames_waiting p)))

first_from-has : (P : Item → Type 0) (a : Item) (more : List Item) → P a → Every P more → P (first_item_from a more)
first_from-has P a [] h q = h
first_from-has P a (b ∷ more) h q = first_from-has P (cond (nat_lt b.due a.due) b a) more (by_test (nat_lt b.due a.due)) q.1
  where
    by_test : (t : Bool) → P (cond t b a)
    by_test true = q.0
    by_test false = h

first_of-has : (P : Item → Type 0) (xs : List Item) → Every P xs → IfThere P (first_item_of xs)
first_of-has P [] q = tt
first_of-has P (a ∷ more) q = first_from-has P a more q.0 q.1

due-has : (P : Item → Type 0) (now : ℕ) (o : Option Item) → IfThere P o → IfThere P (due_item now o)
due-has P now None h = tt
due-has P now (Some a) h = by_test (nat_le a.due now)
  where
    by_test : (b : Bool) → IfThere P (cond b (Some a) None)
    by_test true = h
    by_test false = tt

pub first-known : (p : Page) → IfThere (λ (i : Item). Known p i.what) (first_item p)
first-known p = first_of-has (λ i. Known p i.what) (items_in_order p) (all_known p)

pub due-known : (p : Page) → IfThere (λ (i : Item). Known p i.what) (due_item p.now (first_item p))
due-known p = due-has (λ i. Known p i.what) p.now (first_item p) (first-known p)

-- ---- taking it makes one less

completed-items : (c : Completion) (p : Page) → items_waiting (complete c p) ≤ items_waiting p
completed-items (QueueTimer t) p = omega (arith, queued-frames p Timer (RunTimer t))
completed-items (EnqueuePost r source) p = by_signal (is_aborted_source p (the_registration p r).signal)
  where
    by_signal : (b : Bool) → items_waiting (cond b (λ q. q) (enqueue r source false) (emit (Due r) p)) ≤ items_waiting p
    by_signal true = le_refl (items_waiting p)
    by_signal false = le_refl (items_waiting p)
completed-items (QueueSignal r s) p = omega (arith, queued-frames p Timer (TimeOutSignal s))

completed_at-items : (c : Option Completion) (p : Page) → items_waiting (complete_at c p) ≤ items_waiting p
completed_at-items None p = le_refl (items_waiting p)
completed_at-items (Some c) p = completed-items c p

framed-none : (p : Page) → frames_waiting (take_item FrameItem p) ≡ 0
framed-none p = frames_none (is_empty p.frames.callbacks) (is_there (first_task Render (take_item FrameItem p).tasks)) _ (find_there-last (λ t. same_source t.source Render) p.tasks _ refl)

pub taken-items : (p : Page) (what : ItemKind) → Known p what → suc (items_waiting (take_item what p)) ≤ items_waiting p
taken-items p (ArrivalItem n a) h = omega (arith, queued-frames p a.source (FireAtWindow a.name a.value))
taken-items p (HostItem a) h = omega (arith, queued-frames p Net (AnswerHost a.task))
taken-items p (TimerItem t) h = omega (arith, completed_at-items (completion_of p.completions t.start) (without_timer t.start p))
taken-items p (IdleItem t) h = omega (arith, queued-frames p Idle (IdleTimeout t.handle))
taken-items p FrameItem h = omega (arith, framed-none p)

-- ---- the bound

-- where no item waits, none is due
none_due : (p : Page) → items_waiting p ≡ 0 → (o : Option Item) → IfThere (λ (i : Item). Known p i.what) o → o ≡ None
none_due p e None h = refl
none_due p e (Some a) h = absurd (let less = taken-items p a.what h in omega arith)

pub none_due_now : (p : Page) → items_waiting p ≡ 0 → due_item p.now (first_item p) ≡ None
none_due_now p e = none_due p e (due_item p.now (first_item p)) (due-known p)

-- once no item is due, nothing is taken
take_due-none : (n : ℕ) (p : Page) → due_item p.now (first_item p) ≡ None → take_due n p ≡ p
take_due-none zero p e = refl
take_due-none (suc n) p e = ap {A = Option Item} (λ o. elim o [ None ↦ p | Some a ↦ take_due n (take_item a.what p) ]) e

take_due_or-none : (other : Page → Page) (n : ℕ) (p : Page) → due_item p.now (first_item p) ≡ None → take_due_or other (suc n) p ≡ p
take_due_or-none other n p e = ap {A = Option Item} (λ o. elim o [ None ↦ p | Some a ↦ take_due_or other n (take_item a.what p) ]) e

pub take_due-agree : (n k : ℕ) (p : Page) → items_waiting p ≤ n → items_waiting p ≤ k → take_due n p ≡ take_due k p
take_due-agree zero k p h h' = sym (take_due-none k p (none_due_now p (omega arith)))
take_due-agree (suc n) zero p h h' = take_due-none (suc n) p (none_due_now p (omega arith))
take_due-agree (suc n) (suc k) p h h' =
    by_item (due_item p.now (first_item p)) (λ a q. let less = taken-items p a.what q in take_due-agree n k (take_item a.what p) (omega arith) (omega arith)) (due-known p)
  where
    by_item : (o : Option Item) → ((a : Item) → Known p a.what → take_due n (take_item a.what p) ≡ take_due k (take_item a.what p)) → IfThere (λ (i : Item). Known p i.what) o → ◌≡◌ {A = Page} (elim o [ None ↦ p | Some a ↦ take_due n (take_item a.what p) ]) (elim o [ None ↦ p | Some a ↦ take_due k (take_item a.what p) ])
    by_item None more q = refl
    by_item (Some a) more q = more a q

pub take_due_or-agree : (other : Page → Page) (n k : ℕ) (p : Page) → items_waiting p < n → items_waiting p ≤ k → take_due_or other n p ≡ take_due k p
take_due_or-agree other zero k p h h' = absurd (omega arith)
take_due_or-agree other (suc n) zero p h h' = take_due_or-none other n p (none_due_now p (omega arith))
take_due_or-agree other (suc n) (suc k) p h h' =
    by_item (due_item p.now (first_item p)) (λ a q. let less = taken-items p a.what q in take_due_or-agree other n k (take_item a.what p) (omega arith) (omega arith)) (due-known p)
  where
    by_item : (o : Option Item) → ((a : Item) → Known p a.what → take_due_or other n (take_item a.what p) ≡ take_due k (take_item a.what p)) → IfThere (λ (i : Item). Known p i.what) o → ◌≡◌ {A = Page} (elim o [ None ↦ p | Some a ↦ take_due_or other n (take_item a.what p) ]) (elim o [ None ↦ p | Some a ↦ take_due k (take_item a.what p) ])
    by_item None more q = refl
    by_item (Some a) more q = more a q

-- afterwards no item is due
-- no item is due
abbrev NoneDue : Page → Type 0
NoneDue p = due_item p.now (first_item p) ≡ None

pub take_due-all : (n : ℕ) (p : Page) → items_waiting p ≤ n → due_item (take_due n p).now (first_item (take_due n p)) ≡ None
take_due-all zero p h = none_due_now p (omega arith)
take_due-all (suc n) p h =
    by_item (due_item p.now (first_item p)) refl (λ a q. let less = taken-items p a.what q in take_due-all n (take_item a.what p) (omega arith)) (due-known p)
  where
    by_item : (o : Option Item) → due_item p.now (first_item p) ≡ o → ((a : Item) → Known p a.what → NoneDue (take_due n (take_item a.what p))) → IfThere (λ (i : Item). Known p i.what) o → NoneDue (elim o [ None ↦ p | Some a ↦ take_due n (take_item a.what p) ])
    by_item None e more q = e
    by_item (Some a) e more q = more a q
