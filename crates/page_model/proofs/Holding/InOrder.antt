-- Arrivals stay in the order of time.
use Rattle.std.proofs.Common.{◌≡◌, ℕ, zero, suc, Bool, true, false, cond, ◌&&◌, List, [], ◌∷◌, Option, Some, None, refl, ap, ◌∙◌, nat_le, arith, leb-true, leb-false, le-leb}
use Rattle.page_parts.specs.Words.{without_numbered}
use Rattle.page_parts.specs.Setup.{Arrival, is_not_after, are_in_order}
use Rattle.page_types.specs.Events.{Due}
use Rattle.page_model.specs.State.{Page, Completion, QueueTimer, EnqueuePost, QueueSignal, emit, the_registration}
use Rattle.page_model.specs.PageSignals.{is_aborted_source}
use Rattle.page_model.specs.PageTime.{without_timer, completion_of}
use Rattle.page_model.specs.SchedulerTasks.{enqueue}
use Rattle.page_model.specs.Parallel.{with_arrival, ItemKind, ArrivalItem, HostItem, TimerItem, IdleItem, FrameItem, Item, take_item, complete, complete_at, first_item, due_item, take_due, item_count, parallel}

both : (a b : Bool) → a ≡ true → b ≡ true → (a && b) ≡ true
both a b h k = ap (λ x. x && b) h ∙ k

left : (a b : Bool) → (a && b) ≡ true → a ≡ true
left true b h = refl
left false b h = h

right : (a b : Bool) → (a && b) ≡ true → b ≡ true
right true b h = h
right false b h = absurd Prim.cc

-- ---- a further arrival

-- what is not after the first one and not after the new one is not after the first one then
before_both : (t : ℕ) (a : Arrival) (xs : List Arrival) → is_not_after t xs ≡ true → nat_le t a.at ≡ true → is_not_after t (with_arrival a xs) ≡ true
before_both t a [] h k = k
before_both t a (b ∷ more) h k = by_time (nat_le b.at a.at)
  where
    by_time : (q : Bool) → is_not_after t (cond q (b ∷ with_arrival a more) (a ∷ b ∷ more)) ≡ true
    by_time true = h
    by_time false = k

pub arrival-in_order : (a : Arrival) (xs : List Arrival) → are_in_order xs ≡ true → are_in_order (with_arrival a xs) ≡ true
arrival-in_order a [] h = refl
arrival-in_order a (b ∷ more) h = by_time (nat_le b.at a.at) refl (arrival-in_order a more (right (is_not_after b.at more) (are_in_order more) h))
  where
    by_time : (q : Bool) → nat_le b.at a.at ≡ q → are_in_order (with_arrival a more) ≡ true → are_in_order (cond q (b ∷ with_arrival a more) (a ∷ b ∷ more)) ≡ true
    by_time true k rest =
        both (is_not_after b.at (with_arrival a more)) (are_in_order (with_arrival a more))
        (before_both b.at a more (left (is_not_after b.at more) (are_in_order more) h) k) rest
    by_time false k rest = let later = leb-false b.at a.at k in both (nat_le a.at b.at) _ (le-leb a.at b.at (omega arith)) h

-- ---- an arrival that is taken

-- what is not after the first of a row in order is not after the first one that is left
still_before : (t n : ℕ) (xs : List Arrival) → is_not_after t xs ≡ true → are_in_order xs ≡ true → is_not_after t (without_numbered n xs) ≡ true
still_before t zero xs h k = h
still_before t (suc n) [] h k = refl
still_before t (suc zero) (a ∷ []) h k = refl
still_before t (suc zero) (a ∷ b ∷ more) h k =
    let first = leb-true t a.at h in
    let next = leb-true a.at b.at (left (nat_le a.at b.at) (are_in_order (b ∷ more)) k) in
    le-leb t b.at (omega arith)
still_before t (suc (suc n)) (a ∷ more) h k = h

pub without-in_order : (n : ℕ) (xs : List Arrival) → are_in_order xs ≡ true → are_in_order (without_numbered n xs) ≡ true
without-in_order zero xs h = h
without-in_order (suc n) [] h = refl
without-in_order (suc zero) (a ∷ more) h = right (is_not_after a.at more) (are_in_order more) h
without-in_order (suc (suc n)) (a ∷ more) h =
    let before = left (is_not_after a.at more) (are_in_order more) h in
    let rest = right (is_not_after a.at more) (are_in_order more) h in
    both (is_not_after a.at (without_numbered (suc n) more)) _ (still_before a.at (suc n) more before rest) (without-in_order (suc n) more rest)

-- ---- what goes on in parallel

complete-arrivals : (c : Completion) (p : Page) → (complete c p).arrivals ≡ p.arrivals
complete-arrivals (QueueTimer t) p = refl
complete-arrivals (EnqueuePost r source) p = by_signal (is_aborted_source p (the_registration p r).signal)
  where
    by_signal : (b : Bool) → (cond b (λ q. q) (enqueue r source false) (emit (Due r) p)).arrivals ≡ p.arrivals
    by_signal true = refl
    by_signal false = refl
complete-arrivals (QueueSignal r s) p = refl

complete_at-arrivals : (c : Option Completion) (p : Page) → (complete_at c p).arrivals ≡ p.arrivals
complete_at-arrivals None p = refl
complete_at-arrivals (Some c) p = complete-arrivals c p

pub taken-in_order : (what : ItemKind) (p : Page) → are_in_order p.arrivals ≡ true → are_in_order (take_item what p).arrivals ≡ true
taken-in_order (ArrivalItem n a) p h = without-in_order n p.arrivals h
taken-in_order (HostItem a) p h = h
taken-in_order (TimerItem t) p h = ap are_in_order (complete_at-arrivals (completion_of p.completions t.start) (without_timer t.start p)) ∙ h
taken-in_order (IdleItem t) p h = h
taken-in_order FrameItem p h = h

due-in_order : (n : ℕ) (p : Page) → are_in_order p.arrivals ≡ true → are_in_order (take_due n p).arrivals ≡ true
due-in_order zero p h = h
due-in_order (suc n) p h = by_item (due_item p.now (first_item p)) (λ a. due-in_order n (take_item a.what p) (taken-in_order a.what p h))
  where
    by_item : (o : Option Item) → ((a : Item) → are_in_order (take_due n (take_item a.what p)).arrivals ≡ true) → are_in_order (elim o as (λ x. Page) [ None ↦ p | Some a ↦ take_due n (take_item a.what p) ]).arrivals ≡ true
    by_item None rest = h
    by_item (Some a) rest = rest a

pub parallel-in_order : (p : Page) → are_in_order p.arrivals ≡ true → are_in_order (parallel p).arrivals ≡ true
parallel-in_order p h = due-in_order (item_count p) p h
