-- The heap of idle timeouts, seen in the order of their handles.
use Rattle.std.proofs.Common.{◌≡◌, ℕ, zero, suc, ◌+◌, ◌-◌, ◌<◌, ◌≤◌, Bool, true, false, cond, ◌⊎◌, inl, inr, List, [], ◌∷◌, ◌++◌, map, length, slice_index_or, Option, Some, None, eqb, ltb, nat_lt, refl, sym, subst, ◌∙◌, ap, append-nil, arith}
use Rattle.std.proofs.lemmas.Bool.{eq-eqb, eqb-true}
use Rattle.std.proofs.lemmas.List.{map-append}
use Rattle.std.proofs.lemmas.List.Elements.{All-from_recursion, recursion_from_All}
use Rattle.std.proofs.lemmas.List.Sorted.{IsPermutation-map}
use Rattle.std.specs.BinaryHeap.{IsHeap, IsUpperBound}
use Rattle.std.specs.List.{AllByRecursion}
use Rattle.std.specs.List.Sorted.{IsPermutation}
use Rattle.std.specs.Option.{option_to_list}
use Rattle.std.specs.Ordering.{nat_cmp, ordering_then, is_lt}
use Rattle.std.specs.declared.cmp.Reverse.{Reverse}
use Rattle.page_parts.specs.Words.{without}
use Rattle.page_model.specs.State.{IdleTimer}
use Rattle.page_model.specs.Parallel.{Item, first_item_of}
use Rattle.timer_map.specs.InOrder.{numbered_as, in_order}
use Rattle.timer_map.specs.Kept.{Given, AreNumbered}
use Rattle.timer_map.proofs.OrderLemmas.{Member, find_none, found_number, member_in_order, each_in_order, order_pushed, order_popped, distinct_pushed, numbered_pushed, numbered_popped}
use Rattle.parallel_items.specs.declared.idle.IdleTimeout.{IdleTimeout}
use Rattle.parallel_items.specs.InParallel.{Waiting}
use Rattle.parallel_items.specs.Items.{idle_item, idle_items, earlier, left_of}
use Rattle.parallel_items.specs.Seen.{idle_seen, idle_timers_of, idle_in_order}
use Rattle.parallel_items.specs.Kept.{sooner, AreIdleKept}
use Rattle.parallel_items.proofs.FirstLemmas.{first_cons, earlier_assoc}

-- ---- rising numbers

-- the numbers rise, above `low` and up to `high`
abbrev pub Rise : ℕ → List ℕ → ℕ → Type 0
Rise low [] high = low ≤ high
Rise low (n ∷ ns) high = (low < n) × Rise n ns high

rise_more : (low high more : ℕ) → high ≤ more → (ns : List ℕ) → Rise low ns high → Rise low ns more
rise_more low high more le [] rise = omega (arith, rise, le)
rise_more low high more le (n ∷ ns) rise = (rise.0, rise_more n high more le ns rise.1)

rise_pushed : (low high n : ℕ) → high < n → (ns : List ℕ) → Rise low ns high → Rise low (ns ++ n ∷ []) n
rise_pushed low high n less [] rise = (omega (arith, rise, less), omega arith)
rise_pushed low high n less (m ∷ ns) rise = (rise.0, rise_pushed m high n less ns rise.1)

module _ {X : Type 0} (number : X → ℕ) where
  -- numbers in their order rise
  pub in_order_rises : (last : ℕ) (xs : List X) → Rise 0 (map number (in_order number last xs)) last
  in_order_rises zero xs = omega arith
  in_order_rises (suc last) xs =
      subst (λ ns. Rise 0 ns (suc last)) (sym (map-append number (in_order number last xs) (option_to_list (numbered_as number (suc last) xs))))
      (by (numbered_as number (suc last) xs) refl (in_order_rises last xs))
    where
      by : (r : Option X) → numbered_as number (suc last) xs ≡ r → Rise 0 (map number (in_order number last xs)) last
          → Rise 0 (map number (in_order number last xs) ++ map number (option_to_list r)) (suc last)
      by None e before = subst (λ ns. Rise 0 ns (suc last)) (sym (append-nil (map number (in_order number last xs)))) (rise_more 0 last (suc last) (omega arith) (map number (in_order number last xs)) before)
      by (Some a) e before =
          subst (λ n. Rise 0 (map number (in_order number last xs) ++ n ∷ []) (suc last)) (sym (found_number number (suc last) xs a e))
          (rise_pushed 0 last (suc last) (omega arith) (map number (in_order number last xs)) before)

  pub none_beyond : (last n : ℕ) → last < n → (xs : List X) → AllByRecursion (λ x. Given last (number x)) xs → AllByRecursion (λ x. eqb (number x) n ≡ false) xs
  none_beyond last n less [] given = tt
  none_beyond last n less (x ∷ xs) given = let le : number x ≤ last = given.0.1 in (grind (arith, le, less), none_beyond last n less xs given.1)

  -- the order up to a number above all
  pub order_more : (last more : ℕ) (xs : List X) → last ≤ more → AllByRecursion (λ x. Given last (number x)) xs → in_order number more xs ≡ in_order number last xs
  order_more last zero xs le given = let same : last ≡ 0 = omega (arith, le) in sym (ap (λ n. in_order number n xs) same)
  order_more last (suc more) xs le given = by (eqb last (suc more)) refl (λ less. order_more last more xs less given)
    where
      by : (b : Bool) → eqb last (suc more) ≡ b → (last ≤ more → in_order number more xs ≡ in_order number last xs)
          → in_order number (suc more) xs ≡ in_order number last xs
      by true e before = sym (ap (λ n. in_order number n xs) (eqb-true last (suc more) e))
      by false e before =
          let less : last ≤ more = grind (arith, e, le) in
          let none = find_none (λ x. eqb (number x) (suc more)) xs (none_beyond last (suc more) (omega (arith, less)) xs given) in
          ap (λ r. in_order number more xs ++ option_to_list r) none ∙ append-nil (in_order number more xs) ∙ before less

  numbered_more : (last more : ℕ) (xs : List X) → last ≤ more → AreNumbered number last xs → AreNumbered number more xs
  numbered_more last more xs le numbered =
      record {
        distinct = numbered.distinct;
        given = All-from_recursion (λ x. Given more (number x)) xs (each xs (recursion_from_All (λ x. Given last (number x)) xs numbered.given));
      }
    where
      each : (ys : List X) → AllByRecursion (λ x. Given last (number x)) ys → AllByRecursion (λ x. Given more (number x)) ys
      each [] given = tt
      each (y ∷ ys) given = ((given.0.0, omega (arith, given.0.1, le)), each ys given.1)

-- ---- an idle timeout is started

abbrev handle_of : IdleTimer → ℕ
handle_of t = t.handle

module _ (last due handle r : ℕ) (old new : List (Reverse IdleTimeout)) (kept : AreIdleKept last old) (above : last < handle)
    (p : let item : Reverse IdleTimeout = record { 0 = record { due = record { 0 = due }; handle = handle; registration = r } } in IsPermutation (item ∷ old) new) where
  abbrev started : IdleTimer
  started = record { due = due; handle = handle; registration = r }

  before_it : handle ≡ (handle - 1) + 1
  before_it = omega (arith, above)

  given_before : AllByRecursion (λ (t : IdleTimer). Given last t.handle) (idle_timers_of old)
  given_before = recursion_from_All (λ (t : IdleTimer). Given last t.handle) (idle_timers_of old) kept.numbered.given

  numbered_before : AreNumbered handle_of (handle - 1) (idle_timers_of old)
  numbered_before = numbered_more handle_of last (handle - 1) (idle_timers_of old) (omega (arith, above)) kept.numbered

  pub idle_kept : (IsHeap sooner old → IsHeap sooner new) → AreIdleKept handle new
  idle_kept keeps =
      record {
        heap = keeps kept.heap;
        numbered = subst (λ n. AreNumbered handle_of n (idle_timers_of new)) (sym before_it)
            (numbered_pushed handle_of (handle - 1) started (idle_timers_of old) (idle_timers_of new) before_it (IsPermutation-map idle_seen _ new p) numbered_before);
      }

  pub idle_started : idle_in_order handle new ≡ idle_in_order last old ++ record { due = due; handle = handle; registration = r } ∷ []
  idle_started =
      ap (λ n. in_order handle_of n (idle_timers_of new)) before_it
      ∙ order_pushed handle_of (handle - 1) started (idle_timers_of old) (idle_timers_of new) before_it (IsPermutation-map idle_seen _ new p)
      (distinct_pushed handle_of (handle - 1) started (idle_timers_of old) before_it numbered_before)
      ∙ ap (λ ts. ts ++ started ∷ []) (order_more handle_of last (handle - 1) (idle_timers_of old) (omega (arith, above)) given_before)

-- ---- one leaves

module _ (last : ℕ) (x : Reverse IdleTimeout) (old new : List (Reverse IdleTimeout)) (kept : AreIdleKept last old) (p : IsPermutation old (x ∷ new)) where
  pub idle_kept_popped : IsHeap sooner new → AreIdleKept last new
  idle_kept_popped heap =
      record {
        heap = heap;
        numbered = numbered_popped handle_of last (idle_seen x) (idle_timers_of old) (idle_timers_of new) (IsPermutation-map idle_seen old (x ∷ new) p) kept.numbered;
      }

  pub idle_popped : idle_in_order last new ≡ without (λ t. eqb t.handle x.0.handle) (idle_in_order last old)
  idle_popped = order_popped handle_of last (idle_seen x) (idle_timers_of old) (idle_timers_of new) (IsPermutation-map idle_seen old (x ∷ new) p) kept.numbered.distinct

-- ---- the first one

-- y is due later than x, or together with it and was not started before it
abbrev NotBefore : IdleTimer → IdleTimer → Type 0
NotBefore x y = (x.due < y.due) ⊎ ((x.due ≡ y.due) × (x.handle ≤ y.handle))

due_from : (x y : IdleTimer) → NotBefore x y → x.due ≤ y.due
due_from x y (inl less) = omega (arith, less)
due_from x y (inr both) = omega (arith, both.0)

-- one that is not later than the others stays first
stays_first : (x : IdleTimer) (ts : List IdleTimer) → AllByRecursion (NotBefore x) ts → earlier (Some (idle_item x)) (first_item_of (idle_items ts)) ≡ Some (idle_item x)
stays_first x [] each = refl
stays_first x (y ∷ ts) each =
    let le = due_from x y each.0 in
    let stays : nat_lt y.due x.due ≡ false = grind (arith, le) in
    ap (earlier (Some (idle_item x))) (first_cons (idle_item y) (idle_items ts))
    ∙ earlier_assoc (Some (idle_item x)) (Some (idle_item y)) (first_item_of (idle_items ts))
    ∙ ap (λ b. earlier (Some (cond b (idle_item y) (idle_item x))) (first_item_of (idle_items ts))) stays
    ∙ stays_first x ts each.1

rise_member : (low high : ℕ) (x : IdleTimer) (ts : List IdleTimer) → Rise low (map handle_of ts) high → Member x ts → low < x.handle
rise_member low high x [] rise member = absurd member
rise_member low high x (t ∷ ts) rise (inl e) = subst (λ (u : IdleTimer). low < u.handle) e rise.0
rise_member low high x (t ∷ ts) rise (inr member) = let less = rise_member t.handle high x ts rise.1 member in omega (arith, less, rise.0)

pub first_of_rising : (low high : ℕ) (x : IdleTimer) (ts : List IdleTimer) → Rise low (map handle_of ts) high → AllByRecursion (NotBefore x) ts → Member x ts
    → first_item_of (idle_items ts) ≡ Some (idle_item x)
first_of_rising low high x [] rise each member = absurd member
first_of_rising low high x (t ∷ ts) rise each (inl e) =
    first_cons (idle_item t) (idle_items ts) ∙ ap (λ (u : IdleTimer). earlier (Some (idle_item u)) (first_item_of (idle_items ts))) e ∙ stays_first x ts each.1
first_of_rising low high x (t ∷ ts) rise each (inr member) =
    let above : t.handle < x.handle = rise_member t.handle high x ts rise.1 member in
    let later : nat_lt x.due t.due ≡ true = by each.0 above in
    first_cons (idle_item t) (idle_items ts)
    ∙ ap (earlier (Some (idle_item t))) (first_of_rising t.handle high x ts rise.1 each.1 member)
    ∙ ap (λ b. Some (cond b (idle_item x) (idle_item t))) later
  where
    by : NotBefore x t → t.handle < x.handle → nat_lt x.due t.due ≡ true
    by (inl less) above = grind (arith, less)
    by (inr both) above = let never : ⊥ = omega (arith, above, both.1) in absurd never

-- one that is not greater in the heap is not before the top
not_before : (xd xh xr yd yh yr : ℕ) → is_lt (ordering_then (nat_cmp yd xd) (ordering_then (nat_cmp yh xh) (nat_cmp yr xr))) ≡ false
    → (xd < yd) ⊎ ((xd ≡ yd) × (xh ≤ yh))
not_before xd xh xr yd yh yr h = by (ltb xd yd) refl (ltb yd xd) refl (ltb yh xh) refl
  where
    by : (a : Bool) → ltb xd yd ≡ a → (b : Bool) → ltb yd xd ≡ b → (d : Bool) → ltb yh xh ≡ d → (xd < yd) ⊎ ((xd ≡ yd) × (xh ≤ yh))
    by true e b f d g = inl (grind (arith, e))
    by false e true f d g = let never : ⊥ = grind (arith, f, h) in absurd never
    by false e false f true g = let never : ⊥ = grind (arith, e, f, g, h) in absurd never
    by false e false f false g = inr (grind (arith, e, f), grind (arith, g))

each_not_before : (x : Reverse IdleTimeout) (items : List (Reverse IdleTimeout)) → IsUpperBound sooner x items → AllByRecursion (NotBefore (idle_seen x)) (idle_timers_of items)
each_not_before x [] bound = tt
each_not_before x (y ∷ items) bound =
    (not_before x.0.due.0 x.0.handle x.0.registration y.0.due.0 y.0.handle y.0.registration bound.0, each_not_before x items bound.1)

-- the top of the heap is the first of the idle timeouts
pub first_idle : (last : ℕ) (x : Reverse IdleTimeout) (items : List (Reverse IdleTimeout)) → AreIdleKept last items → 0 < length items
    → x ≡ slice_index_or items 0 x → IsUpperBound sooner x items → first_item_of (idle_items (idle_in_order last items)) ≡ Some (idle_item (idle_seen x))
first_idle last x [] kept some top bound = absurd (omega arith)
first_idle last x (y ∷ items) kept some top bound =
    let given = recursion_from_All (λ (t : IdleTimer). Given last t.handle) (idle_timers_of (y ∷ items)) kept.numbered.given in
    let same : y ≡ x = sym top in
    let itself = eq-eqb y.0.handle y.0.handle refl in
    let found : numbered_as handle_of y.0.handle (idle_timers_of (y ∷ items)) ≡ Some (idle_seen y) = rw itself in
    let member = member_in_order handle_of (idle_seen y) last (idle_timers_of (y ∷ items)) found given.0.0 given.0.1 in
    let bounds = each_not_before y (y ∷ items) (subst (λ z. IsUpperBound sooner z (y ∷ items)) (sym same) bound) in
    let each = each_in_order handle_of (NotBefore (idle_seen y)) last (idle_timers_of (y ∷ items)) bounds in
    first_of_rising 0 last (idle_seen y) (idle_in_order last (y ∷ items)) (in_order_rises handle_of last (idle_timers_of (y ∷ items))) each member
    ∙ ap (λ z. Some (idle_item (idle_seen z))) same

-- there is none in an empty heap
none_in_order : (last : ℕ) → in_order handle_of last [] ≡ []
none_in_order zero = refl
none_in_order (suc last) = rw (none_in_order last)

pub no_idle : (last : ℕ) (items : List (Reverse IdleTimeout)) → length items ≡ 0 → first_item_of (idle_items (idle_in_order last items)) ≡ None
no_idle last [] e = ap (λ ts. first_item_of (idle_items ts)) (none_in_order last)
no_idle last (y ∷ items) e = let never : ⊥ = omega (arith, e) in absurd never

-- what is left after the first one
pub idle_left : (last : ℕ) (x : Reverse IdleTimeout) (old new : List (Reverse IdleTimeout)) → AreIdleKept last old → IsPermutation old (x ∷ new)
    → first_item_of (idle_items (idle_in_order last old)) ≡ Some (idle_item (idle_seen x)) → (w : Waiting)
    → left_of (first_item_of (idle_items (idle_in_order last old))) (record w { idle_timers = idle_in_order last old }) ≡ record w { idle_timers = idle_in_order last new }
idle_left last x old new kept p first w =
    ap (λ (o : Option Item). left_of o (record w { idle_timers = idle_in_order last old })) first
    ∙ sym (ap (λ ts. record w { idle_timers = ts }) (idle_popped last x old new kept p))
