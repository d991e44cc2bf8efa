-- The active timer that is first by due time and start.
use Rattle.std.proofs.Common.{◌≡◌, ℕ, zero, suc, ◌<◌, ◌≤◌, Bool, true, false, cond, ◌⊎◌, inl, inr, List, [], ◌∷◌, Some, refl, ◌∙◌, ap, arith}
use Rattle.std.proofs.lemmas.Bool.{eq-eqb}
use Rattle.std.specs.List.{AllByRecursion}
use Rattle.page_parts.specs.Timers.{ActiveTimer, first_from, first_of}
use Rattle.timer_map.specs.InOrder.{numbered_as, in_order}
use Rattle.timer_map.specs.Kept.{is_sooner}
use Rattle.timer_map.proofs.OrderLemmas.{Member, member_in_order, each_in_order}

-- a timer is x, or completes after it
abbrev pub FromOn : ActiveTimer → ActiveTimer → Type 0
FromOn x y = (y ≡ x) ⊎ (is_sooner x y ≡ true)

one_way : (x y : ActiveTimer) → is_sooner x y ≡ true → is_sooner y x ≡ false
one_way x y h = grind (arith, h)

both_same : (b : Bool) (x y : ActiveTimer) → y ≡ x → cond b y x ≡ x
both_same true x y e = e
both_same false x y e = refl

-- x stays the first
stays : (x y : ActiveTimer) → FromOn x y → cond (is_sooner y x) y x ≡ x
stays x y (inl e) = both_same (is_sooner y x) x y e
stays x y (inr h) = rw (one_way x y h)

-- x becomes the first
reached : (x y : ActiveTimer) → FromOn x y → cond (is_sooner x y) x y ≡ x
reached x y (inl e) = by (is_sooner x y)
  where
    by : (b : Bool) → cond b x y ≡ x
    by true = refl
    by false = e
reached x y (inr h) = rw h

first_stays : (x : ActiveTimer) (ts : List ActiveTimer) → AllByRecursion (FromOn x) ts → first_from x ts ≡ x
first_stays x [] each = refl
first_stays x (t ∷ ts) each = ap (λ y. first_from y ts) (stays x t each.0) ∙ first_stays x ts each.1

either : (P : ActiveTimer → Type 0) (b : Bool) (x y : ActiveTimer) → P x → P y → P (cond b x y)
either P true x y p q = p
either P false x y p q = q

first_reached : (x y : ActiveTimer) (ts : List ActiveTimer) → FromOn x y → AllByRecursion (FromOn x) ts → Member x ts → first_from y ts ≡ x
first_reached x y [] from each member = absurd member
first_reached x y (t ∷ ts) from each (inl e) =
    ap (λ z. first_from (cond (is_sooner z y) z y) ts) e ∙ ap (λ z. first_from z ts) (reached x y from) ∙ first_stays x ts each.1
first_reached x y (t ∷ ts) from each (inr member) =
    first_reached x (cond (is_sooner t y) t y) ts (either (FromOn x) (is_sooner t y) t y each.0 from) each.1 member

first_is : (x : ActiveTimer) (ts : List ActiveTimer) → AllByRecursion (FromOn x) ts → Member x ts → first_of ts ≡ Some x
first_is x [] each member = absurd member
first_is x (t ∷ ts) each (inl e) = ap (λ y. Some (first_from y ts)) e ∙ ap Some (first_stays x ts each.1)
first_is x (t ∷ ts) each (inr member) = ap Some (first_reached x t ts each.0 each.1 member)

-- ---- in the order of start

-- the first of the timers in the order of start
pub first_in_order : (last : ℕ) (x : ActiveTimer) (rest : List ActiveTimer) → 0 < x.start → x.start ≤ last → AllByRecursion (FromOn x) (x ∷ rest)
    → first_of (in_order (λ t. t.start) last (x ∷ rest)) ≡ Some x
first_in_order last x rest above le each =
    let itself = eq-eqb x.start x.start refl in
    let found : numbered_as (λ (t : ActiveTimer). t.start) x.start (x ∷ rest) ≡ Some x = rw itself in
    let member = member_in_order (λ (t : ActiveTimer). t.start) x last (x ∷ rest) found above le in
    first_is x (in_order (λ t. t.start) last (x ∷ rest)) (each_in_order (λ (t : ActiveTimer). t.start) (FromOn x) last (x ∷ rest) each) member

-- there is none among no timers
pub none_in_order : (last : ℕ) → in_order (λ (t : ActiveTimer). t.start) last [] ≡ []
none_in_order zero = refl
none_in_order (suc last) = rw (none_in_order last)
