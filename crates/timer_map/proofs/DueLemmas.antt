-- The active timers in the order in which they come due.
use Rattle.std.proofs.Common.{◌≡◌, ℕ, ◌+◌, ◌≤◌, Bool, true, false, cond, inl, inr, List, [], ◌∷◌, ◌++◌, map, Option, Some, None, nat_lt, nat_eq, eqb, leb, refl, ◌∙◌, ap, arith}
use Rattle.std.proofs.lemmas.List.Elements.{recursion_from_All}
use Rattle.std.proofs.lemmas.List.Sorted.{IsPermutation-cons, IsPermutation-map, IsPermutation-refl, IsPermutation-swap, IsPermutation-trans}
use Rattle.std.specs.List.{AllByRecursion, IsDistinct}
use Rattle.std.specs.List.Sorted.{IsPermutation}
use Rattle.std.specs.Option.{option_map}
use Rattle.page_parts.specs.Timers.{Timers, ActiveTimer, first_of, first_timer, next_due, completed}
use Rattle.page_parts.specs.Words.{without}
use Rattle.timer_map.specs.Due.{where_due, due_timer, after_due}
use Rattle.timer_map.specs.Kept.{Given, AreByDue, IsKept, is_sooner}
use Rattle.timer_map.specs.Rows.{with_due, first_due, after_first}
use Rattle.timer_map.specs.Seen.{seen_timer, timers_of, timers_in_order}
use Rattle.timer_map.proofs.FirstLemmas.{FromOn, first_in_order, none_in_order}
use Rattle.timer_map.proofs.OrderLemmas.{order_pushed, order_popped, distinct_pushed, numbered_pushed, numbered_popped}

abbrev start_of : ActiveTimer → ℕ
start_of timer = timer.start

-- ---- a value is added

-- it only takes its place
pub placed : {V : Type 0} (due : ℕ) (v : V) (es : List (ℕ × V)) → IsPermutation ((due, v) ∷ es) (with_due due v es)
placed due v [] = IsPermutation-refl ((due, v) ∷ [])
placed due v (e ∷ es) = by (nat_lt due e.0) (placed due v es)
  where
    by : (b : Bool) → IsPermutation ((due, v) ∷ es) (with_due due v es)
        → IsPermutation ((due, v) ∷ e ∷ es) (cond b ((due, v) ∷ e ∷ es) (e ∷ with_due due v es))
    by true rest = IsPermutation-refl ((due, v) ∷ e ∷ es)
    by false rest =
        let swapped = IsPermutation-swap ((due, v) ∷ e ∷ es) (e ∷ (due, v) ∷ es) 0 1 (omega arith) (omega arith) refl in
        IsPermutation-trans _ _ _ swapped (IsPermutation-cons e _ _ rest)

-- what is kept of each value makes no difference to its place
pub with_due_map : {X Y : Type 0} (f : X → Y) (due : ℕ) (v : X) (es : List (ℕ × X))
    → map (λ (e : ℕ × X). (e.0, f e.1)) (with_due due v es) ≡ with_due due (f v) (map (λ (e : ℕ × X). (e.0, f e.1)) es)
with_due_map {X = X} f due v [] = refl
with_due_map {X = X} f due v (e ∷ es) = by (nat_lt due e.0) (with_due_map f due v es)
  where
    by : (b : Bool) → map (λ (e : ℕ × X). (e.0, f e.1)) (with_due due v es) ≡ with_due due (f v) (map (λ (e : ℕ × X). (e.0, f e.1)) es)
        → map (λ (e : ℕ × X). (e.0, f e.1)) (cond b ((due, v) ∷ e ∷ es) (e ∷ with_due due v es))
        ≡ cond b ((due, f v) ∷ (e.0, f e.1) ∷ map (λ (e : ℕ × X). (e.0, f e.1)) es) ((e.0, f e.1) ∷ with_due due (f v) (map (λ (e : ℕ × X). (e.0, f e.1)) es))
    by true rest = refl
    by false rest = ap (λ l. (e.0, f e.1) ∷ l) rest

-- ---- a timer is started

-- what holds of each timer, and of the new one, holds of all
each_placed : (P : ActiveTimer → Type 0) (due n : ℕ) (es : List (ℕ × ℕ)) → P (seen_timer (due, n)) → AllByRecursion P (timers_of es)
    → AllByRecursion P (timers_of (with_due due n es))
each_placed P due n [] here each = (here, tt)
each_placed P due n (e ∷ es) here each = by (nat_lt due e.0) (each_placed P due n es here each.1)
  where
    by : (b : Bool) → AllByRecursion P (timers_of (with_due due n es))
        → AllByRecursion P (timers_of (cond b ((due, n) ∷ e ∷ es) (e ∷ with_due due n es)))
    by true rest = (here, each)
    by false rest = (each.0, rest)

-- one that is due earlier than the first completes before all
before_all : (due n d m : ℕ) (ts : List ActiveTimer) → nat_lt due d ≡ true → AllByRecursion (λ u. is_sooner (record { start = m; due = d }) u ≡ true) ts
    → AllByRecursion (λ u. is_sooner (record { start = n; due = due }) u ≡ true) ts
before_all due n d m [] lt each = tt
before_all due n d m (t ∷ ts) lt each = (sooner t.due t.start each.0, before_all due n d m ts lt each.1)
  where
    sooner : (due_t start_t : ℕ) → is_sooner (record { start = m; due = d }) (record { start = start_t; due = due_t }) ≡ true
        → is_sooner (record { start = n; due = due }) (record { start = start_t; due = due_t }) ≡ true
    sooner due_t start_t h = grind (arith, lt, h)

by_due_placed : (last due : ℕ) (es : List (ℕ × ℕ)) → AllByRecursion (λ (t : ActiveTimer). Given last t.start) (timers_of es) → AreByDue (timers_of es)
    → AreByDue (timers_of (with_due due (last + 1) es))
by_due_placed last due [] given by_due = (tt, tt)
by_due_placed last due (e ∷ es) given by_due = by (nat_lt due e.0) refl (by_due_placed last due es given.1 by_due.1)
  where
    behind : nat_lt due e.0 ≡ false → e.1 ≤ last → is_sooner (seen_timer e) (seen_timer (due, last + 1)) ≡ true
    behind ge le = grind (arith, ge, le)

    by : (b : Bool) → nat_lt due e.0 ≡ b → AreByDue (timers_of (with_due due (last + 1) es))
        → AreByDue (timers_of (cond b ((due, last + 1) ∷ e ∷ es) (e ∷ with_due due (last + 1) es)))
    by true lt rest =
        let first : is_sooner (seen_timer (due, last + 1)) (seen_timer e) ≡ true = grind (arith, lt) in
        ((first, before_all due (last + 1) e.0 e.1 (timers_of es) lt by_due.0), by_due)
    by false ge rest = (each_placed (λ u. is_sooner (seen_timer e) u ≡ true) due (last + 1) es (behind ge given.0.1) by_due.0, rest)

module _ (last due : ℕ) (old : List (ℕ × ℕ)) (kept : IsKept last old) where
  abbrev pub started : ActiveTimer
  started = record { start = last + 1; due = due }

  distinct : IsDistinct nat_eq (map start_of (started ∷ timers_of old))
  distinct = distinct_pushed start_of last started (timers_of old) refl kept.numbered

  inserted : IsPermutation (started ∷ timers_of old) (timers_of (with_due due (last + 1) old))
  inserted = IsPermutation-map seen_timer ((due, last + 1) ∷ old) (with_due due (last + 1) old) (placed due (last + 1) old)

  pub kept_inserted : IsKept (last + 1) (with_due due (last + 1) old)
  kept_inserted =
      let given = recursion_from_All (λ (t : ActiveTimer). Given last t.start) (timers_of old) kept.numbered.given in
      record {
        numbered = numbered_pushed start_of last started (timers_of old) _ refl inserted kept.numbered;
        by_due = by_due_placed last due old given kept.by_due;
      }

  pub timers_inserted : timers_in_order (last + 1) (with_due due (last + 1) old) ≡ timers_in_order last old ++ started ∷ []
  timers_inserted = order_pushed start_of last started (timers_of old) _ refl inserted distinct

-- ---- the first timer

each_from_on : (t : ActiveTimer) (ts : List ActiveTimer) → AllByRecursion (λ u. is_sooner t u ≡ true) ts → AllByRecursion (FromOn t) ts
each_from_on t [] each = tt
each_from_on t (u ∷ ts) each = (inr each.0, each_from_on t ts each.1)

-- the first one that comes due is the first of the timers
pub first_is_due : (last : ℕ) (es : List (ℕ × ℕ)) → IsKept last es → first_of (timers_in_order last es) ≡ option_map seen_timer (first_due es)
first_is_due last [] kept = ap first_of (none_in_order last)
first_is_due last (e ∷ es) kept =
    let given = recursion_from_All (λ (t : ActiveTimer). Given last t.start) (timers_of (e ∷ es)) kept.numbered.given in
    first_in_order last (seen_timer e) (timers_of es) given.0.0 given.0.1 (inl refl, each_from_on (seen_timer e) (timers_of es) kept.by_due.0)

pub due_of_seen : (es : List (ℕ × ℕ)) → option_map (λ (e : ℕ × ℕ). e.0) (first_due es) ≡ option_map (λ (t : ActiveTimer). t.due) (option_map seen_timer (first_due es))
due_of_seen [] = refl
due_of_seen (e ∷ es) = refl

-- ---- the first timer leaves

pub kept_popped : (last : ℕ) (es : List (ℕ × ℕ)) → IsKept last es → IsKept last (after_first es)
kept_popped last [] kept = kept
kept_popped last (e ∷ es) kept =
    record {
      numbered = numbered_popped start_of last (seen_timer e) (timers_of (e ∷ es)) (timers_of es) (IsPermutation-refl (timers_of (e ∷ es))) kept.numbered;
      by_due = kept.by_due.1;
    }

pub timers_popped : (last : ℕ) (e : ℕ × ℕ) (es : List (ℕ × ℕ)) → IsKept last es → first_due es ≡ Some e
    → timers_in_order last (after_first es) ≡ without (λ t. eqb t.start e.1) (timers_in_order last es)
timers_popped last e [] kept first = cc
timers_popped last e (f ∷ es) kept first =
    let same : f ≡ e = cc in
    let popped = order_popped start_of last (seen_timer f) (timers_of (f ∷ es)) (timers_of es) (IsPermutation-refl (timers_of (f ∷ es))) kept.numbered.distinct in
    popped ∙ ap (λ (g : ℕ × ℕ). without (λ t. eqb t.start g.1) (timers_in_order last (f ∷ es))) same

-- ---- the timer that is due

pub due_first : (now : ℕ) (t : Timers) (x : ActiveTimer) → first_timer t ≡ Some x → x.due ≤ now → due_timer now t ≡ Some x
due_first now t x first le =
    let test : leb x.due now ≡ true = grind (arith, le) in
    ap (λ (r : Option ActiveTimer). elim r [ None ↦ None | Some timer ↦ where_due now timer ]) first ∙ rw test

pub after_timer : (now : ℕ) (t : Timers) (x : ActiveTimer) → due_timer now t ≡ Some x → after_due now t ≡ completed x.start t
after_timer now t x due = ap (λ (r : Option ActiveTimer). elim r [ None ↦ t | Some timer ↦ completed timer.start t ]) due

-- the least due time is that of the first timer
pub due_of_first : (due : ℕ) (t : Timers) (x : ActiveTimer) → first_timer t ≡ Some x → Some due ≡ next_due t → due ≡ x.due
due_of_first due t x first next = let is : next_due t ≡ Some x.due = ap (option_map (λ (a : ActiveTimer). a.due)) first in cc
