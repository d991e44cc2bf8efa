-- The bound of the waits of a turn suffices: after each wait an item is taken, or the idle moment has come.
use Rattle.std.proofs.Common.{◌≡◌, ℕ, zero, suc, ◌+◌, ◌≤◌, ◌<◌, le_refl, max, Bool, true, false, length, Option, Some, None, option_map, refl, ap, sym, subst, ◌∙◌, cond, ◌&&◌, ◌||◌, nat_lt, nat_le, ◌⊎◌, inl, inr, ⊎_elim, arith, ltb-true, leb-true, le-ltb, lt-ltb, le-leb, eqb-true}
use Rattle.std.specs.Prelude.{◌==◌, ◌^◌}
use Rattle.page_types.specs.Events.{Wait, Due}
use Rattle.page_parts.specs.Words.{is_empty, least}
use Rattle.page_parts.specs.IdleCallbacks.{waits}
use Rattle.lang_meaning.specs.Machine.{Caller}
use Rattle.page_model.specs.State.{Page, State, Completion, QueueTimer, EnqueuePost, QueueSignal, on_page, emit, the_registration}
use Rattle.page_model.specs.PageSignals.{is_aborted_source}
use Rattle.page_model.specs.PageTime.{deadline, idle_moment, completion_of, without_timer}
use Rattle.page_model.specs.SchedulerTasks.{enqueue}
use Rattle.page_model.specs.Parallel.{ItemKind, ArrivalItem, HostItem, TimerItem, IdleItem, FrameItem, Item, first_item, due_item, complete, complete_at, take_item, take_due, item_count, parallel}
use Rattle.page_model.specs.Choosing.{Rules, Chosen, is_reading, chosen_reading}
use Rattle.page_model.specs.View.{view}
use Rattle.page_model.specs.Turns.{Turned, Stuck, AtBound, choose_turned, from_step_three, is_pending, target, at_time, waited, step_two_by, step_one, after_step_one, from_step_one, turn}
use Rattle.page_model.specs.Bounds.{from_step_one_or, BeginsWell}
use Rattle.page_model.proofs.Holding.Evaluation.{IfThere}
use Rattle.page_model.proofs.Bounding.Leaving.{parallel-leaves}
use Rattle.page_model.proofs.Holding.Turns.{legal_choice, and_left}
use Rattle.page_model.proofs.Bounding.Following.{true_false}
use Rattle.page_model.proofs.Bounding.Items.{items_waiting, items-within, Known, due-known, taken-items}

-- ---- what taking items leaves

-- the end of the last idle period
complete-period : (c : Completion) (p : Page) → (complete c p).idle_period_end ≡ p.idle_period_end
complete-period (QueueTimer t) p = refl
complete-period (EnqueuePost r source) p = by_signal (is_aborted_source p (the_registration p r).signal)
  where
    by_signal : (b : Bool) → (cond b (λ q. q) (enqueue r source false) (emit (Due r) p)).idle_period_end ≡ p.idle_period_end
    by_signal true = refl
    by_signal false = refl
complete-period (QueueSignal r s) p = refl

complete_at-period : (c : Option Completion) (p : Page) → (complete_at c p).idle_period_end ≡ p.idle_period_end
complete_at-period None p = refl
complete_at-period (Some c) p = complete-period c p

take_item-period : (what : ItemKind) (p : Page) → (take_item what p).idle_period_end ≡ p.idle_period_end
take_item-period (ArrivalItem n a) p = refl
take_item-period (HostItem a) p = refl
take_item-period (TimerItem t) p = complete_at-period (completion_of p.completions t.start) (without_timer t.start p)
take_item-period (IdleItem t) p = refl
take_item-period FrameItem p = refl

take_due-period : (n : ℕ) (p : Page) → (take_due n p).idle_period_end ≡ p.idle_period_end
take_due-period zero p = refl
take_due-period (suc n) p = by_item (due_item p.now (first_item p)) (λ a. take_due-period n (take_item a.what p) ∙ take_item-period a.what p)
  where
    by_item : (o : Option Item) → ((a : Item) → (take_due n (take_item a.what p)).idle_period_end ≡ p.idle_period_end) → (elim o as (λ x. Page) [ None ↦ p | Some a ↦ take_due n (take_item a.what p) ]).idle_period_end ≡ p.idle_period_end
    by_item None h = refl
    by_item (Some a) h = h a

-- and there are no more items than before
take_due-items : (n : ℕ) (p : Page) → items_waiting (take_due n p) ≤ items_waiting p
take_due-items zero p = le_refl (items_waiting p)
take_due-items (suc n) p = by_item (due_item p.now (first_item p)) (λ a q. let less = taken-items p a.what q in let more = take_due-items n (take_item a.what p) in omega arith) (due-known p)
  where
    by_item : (o : Option Item) → ((a : Item) → Known p a.what → items_waiting (take_due n (take_item a.what p)) ≤ items_waiting p) → IfThere (λ (i : Item). Known p i.what) o → items_waiting (elim o [ None ↦ p | Some a ↦ take_due n (take_item a.what p) ]) ≤ items_waiting p
    by_item None h q = le_refl (items_waiting p)
    by_item (Some a) h q = h a q

-- ---- how many waits are left

-- 1 where the last idle period has not ended yet, else 0
abbrev ahead_of : ℕ → ℕ → ℕ
ahead_of now end = cond (nat_lt now end) 1 0

abbrev idle_ahead : Page → ℕ
idle_ahead p = ahead_of p.now p.idle_period_end

-- at most so many waits
abbrev pub waits_left : Page → ℕ
waits_left p = items_waiting p + idle_ahead p

few : (b : Bool) → cond b 1 0 ≤ 1
few true = le_refl 1
few false = omega arith

pub waits-within : (p : Page) → waits_left (parallel p) ≤ suc (item_count p)
waits-within p = omega (arith, take_due-items (item_count p) p, items-within p, few (nat_lt (parallel p).now (parallel p).idle_period_end))

pub waits-now : (p : Page) → waits_left p ≤ suc (item_count p)
waits-now p = omega (arith, items-within p, few (nat_lt p.now p.idle_period_end))

-- later it is no more ahead than before
ahead-later : (now later end : ℕ) → now ≤ later → cond (nat_lt later end) 1 0 ≤ cond (nat_lt now end) 1 0
ahead-later now later end le = by_test (nat_lt later end) refl
  where
    by_test : (b : Bool) → nat_lt later end ≡ b → cond b 1 0 ≤ cond (nat_lt now end) 1 0
    by_test true e = let less = ltb-true later end e in subst (λ b. 1 ≤ cond b 1 0) (sym (lt-ltb now end (omega arith))) (le_refl 1)
    by_test false e = omega arith

-- the target is when the first item is due, or the idle moment
target-is : (o : Option Item) (i : Option ℕ) (t : ℕ) → least (option_map (λ a. a.due) o) i ≡ Some t → ((a : Item) × (o ≡ Some a) × (a.due ≡ t)) ⊎ (i ≡ Some t)
target-is None i t e = inr e
target-is (Some a) None t e = inl (a, refl, Prim.cc)
target-is (Some a) (Some b) t e = by_test (nat_lt b a.due) e
  where
    by_test : (c : Bool) → Some (cond c b a.due) ≡ Some t → ((a' : Item) × (Some a ≡ Some a') × (a'.due ≡ t)) ⊎ (Some b ≡ Some t)
    by_test true e = inr e
    by_test false e = inl (a, refl, Prim.cc)

moment-is : (b : Bool) (at t : ℕ) → cond b (Some at) None ≡ Some t → at ≡ t
moment-is true at t e = Prim.cc
moment-is false at t e = absurd Prim.cc

-- the page after a wait
abbrev waited_page : ℕ → ℕ → Page → Page
waited_page t r p = emit (Wait t) (at_time r p)

parallel-now : (p : Page) → (parallel p).now ≡ p.now
parallel-now p = ap (λ x. x.now) (parallel-leaves p)

-- where the first item is due, parallel items are fewer afterwards
some_due : (n : ℕ) (p : Page) (a : Item) → due_item p.now (first_item p) ≡ Some a → suc (items_waiting (take_due (suc n) p)) ≤ items_waiting p
some_due n p a e =
    subst (λ o. suc (items_waiting (elim o [ None ↦ p | Some a ↦ take_due n (take_item a.what p) ])) ≤ items_waiting p) (sym e)
    (let known = subst (IfThere (λ (i : Item). Known p i.what)) e (due-known p) in
    let less = taken-items p a.what known in
    let more = take_due-items n (take_item a.what p) in
    omega arith)

due-when : (now : ℕ) (o : Option Item) (a : Item) → o ≡ Some a → a.due ≤ now → due_item now o ≡ Some a
due-when now o a e le = ap (due_item now) e ∙ ap (λ b. cond b (Some a) None) (le-leb a.due now le)

-- each wait leaves one less
pub wait-less : (p : Page) (t r : ℕ) → target p ≡ Some t → p.now < t → t ≤ r → suc (waits_left (parallel (waited_page t r p))) ≤ waits_left p
wait-less p t r e less le = ⊎_elim by_item by_idle (target-is (first_item p) (idle_moment p) t e)
  where
    q : Page
    q = waited_page t r p

    ahead : idle_ahead (parallel (waited_page t r p)) ≤ idle_ahead p
    ahead =
        subst (λ now. ahead_of now (parallel (waited_page t r p)).idle_period_end ≤ idle_ahead p) (sym (parallel-now (waited_page t r p)))
        (subst (λ end. ahead_of r end ≤ idle_ahead p) (sym (take_due-period (item_count (waited_page t r p)) (waited_page t r p))) (ahead-later p.now r p.idle_period_end (omega arith)))

    by_item : ((a : Item) × (first_item p ≡ Some a) × (a.due ≡ t)) → suc (waits_left (parallel (waited_page t r p))) ≤ waits_left p
    by_item h =
        let due = due-when r (first_item p) h.0 h.1 (let same = h.2 in omega arith) in
        let fewer = some_due (length p.arrivals + length p.host_answers + length p.timers.active + length p.idle_timers) (waited_page t r p) h.0 due in
        omega (arith, fewer, ahead)

    by_idle : idle_moment p ≡ Some t → suc (waits_left (parallel (waited_page t r p))) ≤ waits_left p
    by_idle e =
        let at = moment-is (waits p.idle && nat_lt (max p.now p.idle_period_end) (deadline (max p.now p.idle_period_end) p)) (max p.now p.idle_period_end) t e in
        let before : idle_ahead p ≡ 1 = ap {B = ℕ} (λ b. cond b 1 0) (lt-ltb p.now p.idle_period_end (omega arith)) in
        let after : idle_ahead (parallel (waited_page t r p)) ≡ 0 =
        subst (λ now. ahead_of now (parallel (waited_page t r p)).idle_period_end ≡ 0) (sym (parallel-now (waited_page t r p)))
        (subst (λ end. ahead_of r end ≡ 0) (sym (take_due-period (item_count (waited_page t r p)) (waited_page t r p))) (ap {B = ℕ} (λ b. cond b 1 0) (le-ltb r p.idle_period_end (omega arith)))) in
        let items = take_due-items (item_count (waited_page t r p)) (waited_page t r p) in
        omega (arith, before, after, items)

-- ---- turns

-- one way or the other, the same
choose-same : {C : Type 0} (b : Bool) (then then' else else' : State → Turned C) (m : State) → (b ≡ true → then m ≡ then' m) → (b ≡ false → else m ≡ else' m) → choose_turned b then else m ≡ choose_turned b then' else' m
choose-same true then then' else else' m p q = p refl
choose-same false then then' else else' m p q = q refl

-- step 1 of a turn that is not the first
stepped : (m : State) → (m.host.turns == 0) ≡ false → step_one m ≡ on_page parallel m
stepped m e = ap (λ b. cond b m (on_page parallel m)) e

step_one-turns : (m : State) → (step_one m).host.turns ≡ m.host.turns
step_one-turns m = by_turns (m.host.turns == 0)
  where
    by_turns : (b : Bool) → (cond b m (on_page parallel m)).host.turns ≡ m.host.turns
    by_turns true = refl
    by_turns false = ap (λ x. x.turns) (parallel-leaves m.host)

step_one-waits : (m : State) → waits_left (step_one m).host ≤ suc (item_count m.host)
step_one-waits m = by_turns (m.host.turns == 0)
  where
    by_turns : (b : Bool) → waits_left (cond b m (on_page parallel m)).host ≤ suc (item_count m.host)
    by_turns true = waits-now m.host
    by_turns false = waits-within m.host

module _ {C : Type 0} (rules : Rules C) (call : Caller Page) (until : ℕ) (other : State → C → Turned C) where
  -- where what is done after a wait is the same, the turn is the same
  after-agree : (again again' : State → C → Turned C) (c : C) (m : State) → (is_empty (view m.host) ≡ true → (t r : ℕ) (d : C) → target m.host ≡ Some t → m.host.now < t → t ≤ r → again (on_page (waited_page t r) m) d ≡ again' (on_page (waited_page t r) m) d)
      → after_step_one rules call until again c m ≡ after_step_one rules call until again' c m
  after-agree again again' c m q =
      choose-same (is_empty (view m.host)) _ _ _ _ m
      (λ e. choose-same (is_pending m.host) _ _ _ _ m (λ e'. by_target e (target m.host) refl) (λ e'. refl))
      (λ e. refl)
    where
      by_reading : is_empty (view m.host) ≡ true → (t : ℕ) → target m.host ≡ Some t → nat_lt m.host.now t ≡ true → (r : Option (Chosen ℕ C)) → chosen_reading rules t c ≡ r → waited t r again c m ≡ waited t r again' c m
      by_reading e t at before None k = refl
      by_reading e t at before (Some r) k = q e t r.choice r.left at (ltb-true m.host.now t before) (leb-true t r.choice (and_left (nat_le t r.choice) (nat_lt r.choice (2 ^ 63)) (legal_choice (is_reading t) (rules.reading t c) r k)))

      by_target : is_empty (view m.host) ≡ true → (o : Option ℕ) → target m.host ≡ o → step_two_by rules until o again (from_step_three rules call until c) c m ≡ step_two_by rules until o again' (from_step_three rules call until c) c m
      by_target e None at = refl
      by_target e (Some t) at =
          choose-same (nat_le until m.host.now || nat_le until t) _ _ _ _ m (λ k. refl)
          (λ k. choose-same (nat_lt m.host.now t) _ _ _ _ m (λ before. by_reading e t at before (chosen_reading rules t c) refl) (λ k. refl))

  -- a turn in which nothing is runnable after step 1 is not the first
  not_first : (m : State) → BeginsWell m → is_empty (view (step_one m).host) ≡ true → (m.host.turns == 0) ≡ false
  not_first m b e = by_turns (m.host.turns == 0) refl
    where
      by_turns : (t : Bool) → (m.host.turns == 0) ≡ t → (m.host.turns == 0) ≡ false
      by_turns true h =
          let first = ap (λ b. cond b m (on_page parallel m)) h in
          let busy = b (eqb-true m.host.turns 0 h) in
          true_false (subst (λ n. is_empty (view n.host) ≡ true) first e) busy
      by_turns false h = h

  pub from-agree : (n k : ℕ) (m : State) (c : C) → BeginsWell m → waits_left (step_one m).host < n → waits_left (step_one m).host < k → from_step_one_or other rules call until n m c ≡ from_step_one rules call until k m c
  from-agree zero k m c b h h' = absurd (omega arith)
  from-agree (suc n) zero m c b h h' = absurd (omega arith)
  from-agree (suc n) (suc k) m c b h h' =
      after-agree (from_step_one_or other rules call until n) (from_step_one rules call until k) c (step_one m)
      (λ e t r d at before le.
      let later = on_page (waited_page t r) (step_one m) in
      let count : later.host.turns ≡ m.host.turns = step_one-turns m in
      let turned : (later.host.turns == 0) ≡ false = ap (λ x. x == 0) count ∙ not_first m b e in
      let one = stepped later turned in
      let less = wait-less (step_one m).host t r at before le in
      let fewer : suc (waits_left (step_one later).host) ≤ waits_left (step_one m).host = subst (λ n. suc (waits_left n.host) ≤ waits_left (step_one m).host) (sym one) less in
      from-agree n k later d (λ z. true_false (ap (λ x. x == 0) z) turned) (omega arith) (omega arith))

  pub turn-agree : (n : ℕ) (m : State) (c : C) → BeginsWell m → suc (suc (item_count m.host)) ≤ n → from_step_one_or other rules call until n m c ≡ turn rules call until m c
  turn-agree n m c b h = from-agree n (suc (suc (item_count m.host))) m c b (omega (arith, step_one-waits m)) (omega (arith, step_one-waits m))

-- with its own answer at 0 it is the same for every bound
from_or-own : {C : Type 0} (rules : Rules C) (call : Caller Page) (until n : ℕ) (m : State) (c : C) → from_step_one_or (Stuck AtBound) rules call until n m c ≡ from_step_one rules call until n m c
from_or-own rules call until zero m c = refl
from_or-own rules call until (suc n) m c = after-agree rules call until (Stuck AtBound) (from_step_one_or (Stuck AtBound) rules call until n) (from_step_one rules call until n) c (step_one m) (λ e t r d at before le. from_or-own rules call until n _ d)

pub from_greater : {C : Type 0} (rules : Rules C) (call : Caller Page) (until n : ℕ) (m : State) (c : C) → BeginsWell m → suc (suc (item_count m.host)) ≤ n → from_step_one rules call until n m c ≡ turn rules call until m c
from_greater rules call until n m c b h = sym (from_or-own rules call until n m c) ∙ turn-agree rules call until (Stuck AtBound) n m c b h
