-- The places that have reported: each once, and fewer than there are elements while one has not reported.
use Rattle.std.proofs.Common.{◌≡◌, ℕ, ◌<◌, ◌≤◌, arith, List, [], ◌∷◌, length, Bool, true, false, not, ◌&&◌, ◌||◌, refl, ap, sym, ◌∙◌, inl, inr, nat_eq}
use Rattle.std.specs.Prelude.{nat_lt, ◌==◌}
use Rattle.std.specs.List.{IsDistinct, AllByRecursion, list_any}
use Rattle.std.proofs.lemmas.Bool.{lt-ltb, ltb-true}
use Rattle.std.proofs.lemmas.Bool.Decides.{eqb_tells}
use Rattle.std.proofs.lemmas.Map.Keys.{IsDistinct-cons}
use Rattle.std.proofs.lemmas.Map.Steps.{length-le_from_distinct_below}
use Rattle.page_parts.specs.Words.{and_last, has_number}
use Rattle.promise_combine.specs.Reports.{are_places}

-- ---- Truth values

pub both : (a b : Bool) → (a && b) ≡ true → (a ≡ true) × (b ≡ true)
both true b h = (refl, h)
both false b h = cc

pub neither : (a b : Bool) → (a || b) ≡ false → (a ≡ false) × (b ≡ false)
neither true b h = cc
neither false b h = (refl, h)

both_true : (a b : Bool) → a ≡ true → b ≡ true → (a && b) ≡ true
both_true a b h k = ap (λ x. x && b) h ∙ k

not_true : (a : Bool) → a ≡ false → not a ≡ true
not_true a h = ap not h

not_false : (a : Bool) → not a ≡ true → a ≡ false
not_false true h = cc
not_false false h = refl

pub eqb_flips : (a b : ℕ) → (a == b) ≡ false → (b == a) ≡ false
eqb_flips a b h =
    elim (eqb_tells b a) [
      | inl e ↦ let same : (a == b) ≡ true = ap (λ i. a == i) e.1 ∙ own a in cc
      | inr e ↦ e.0
    ]
  where
    own : (n : ℕ) → (n == n) ≡ true
    own n = elim (eqb_tells n n) [ inl e ↦ e.0 | inr e ↦ absurd (e.1 refl) ]

-- ---- One more place

pub has_number-last : (ks : List ℕ) (p k : ℕ) → has_number (and_last ks p) k ≡ false → (has_number ks k ≡ false) × ((p == k) ≡ false)
has_number-last [] p k h = (refl, (neither (p == k) false h).0)
has_number-last (m ∷ ks) p k h =
    let split = neither (m == k) (has_number (and_last ks p) k) h in
    let rest = has_number-last ks p k split.1 in
    (ap (λ b. b || has_number ks k) split.0 ∙ rest.0, rest.1)

pub has_number-not_last : (ks : List ℕ) (p k : ℕ) → has_number ks k ≡ false → (p == k) ≡ false → has_number (and_last ks p) k ≡ false
has_number-not_last [] p k h g = ap (λ b. b || false) g
has_number-not_last (m ∷ ks) p k h g =
    let split = neither (m == k) (has_number ks k) h in
    ap (λ b. b || has_number (and_last ks p) k) split.0 ∙ has_number-not_last ks p k split.1 g

pub are_places-last : (n : ℕ) (ks : List ℕ) (p : ℕ) → are_places n ks ≡ true → has_number ks p ≡ false → p < n → are_places n (and_last ks p) ≡ true
are_places-last n [] p placed fresh within = both_true (nat_lt p n) true (lt-ltb p n within) refl
are_places-last n (k ∷ ks) p placed fresh within =
    let head = both (nat_lt k n) (not (has_number ks k) && are_places n ks) placed in
    let tail = both (not (has_number ks k)) (are_places n ks) head.1 in
    let split = neither (k == p) (has_number ks p) fresh in
    both_true (nat_lt k n) (not (has_number (and_last ks p) k) && are_places n (and_last ks p)) head.0
    (both_true (not (has_number (and_last ks p) k)) (are_places n (and_last ks p))
    (not_true (has_number (and_last ks p) k) (has_number-not_last ks p k (not_false (has_number ks k) tail.0) (eqb_flips k p split.0)))
    (are_places-last n ks p tail.1 split.1 within))

-- ---- How many there are

all_other : (ks : List ℕ) (p : ℕ) → has_number ks p ≡ false → AllByRecursion (λ y. nat_eq p y ≡ false) ks
all_other [] p h = tt
all_other (k ∷ ks) p h =
    let split = neither (k == p) (has_number ks p) h in
    (eqb_flips k p split.0, all_other ks p split.1)

distinct : (n : ℕ) (ks : List ℕ) → are_places n ks ≡ true → IsDistinct nat_eq ks
unfolding IsDistinct
distinct n [] placed = tt
distinct n (k ∷ ks) placed =
    let head = both (nat_lt k n) (not (has_number ks k) && are_places n ks) placed in
    let tail = both (not (has_number ks k)) (are_places n ks) head.1 in
    (all_other ks k (not_false (has_number ks k) tail.0), distinct n ks tail.1)

below : (n : ℕ) (ks : List ℕ) → are_places n ks ≡ true → (q : ℕ) → list_any (nat_eq q) ks ≡ true → q < n
below n [] placed q there = cc
below n (k ∷ ks) placed q there =
    let head = both (nat_lt k n) (not (has_number ks k) && are_places n ks) placed in
    let tail = both (not (has_number ks k)) (are_places n ks) head.1 in
    elim (eqb_tells q k) [
      | inl e ↦ let within : k < n = ltb-true k n head.0 in omega (arith, within, e.1)
      | inr e ↦ below n ks tail.1 q (sym (ap (λ b. b || list_any (nat_eq q) ks) e.0) ∙ there)
    ]

-- while an element has not reported, fewer have than there are
pub one_left : (n : ℕ) (ks : List ℕ) (p : ℕ) → are_places n ks ≡ true → has_number ks p ≡ false → p < n → length ks < n
one_left n ks p placed fresh within =
    let most : length (p ∷ ks) ≤ n = length-le_from_distinct_below (p ∷ ks) n (IsDistinct-cons nat_eq p ks (all_other ks p fresh) (distinct n ks placed)) all_below in
    omega (arith, most)
  where
    all_below : (q : ℕ) → list_any (nat_eq q) (p ∷ ks) ≡ true → q < n
    all_below q there =
        elim (eqb_tells q p) [
          | inl e ↦ omega (arith, within, e.1)
          | inr e ↦ below n ks placed q (sym (ap (λ b. b || list_any (nat_eq q) ks) e.0) ∙ there)
        ]
