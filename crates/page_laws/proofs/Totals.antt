-- Sums over lists: what is taken out of a list is less in its sum.
use Rattle.std.proofs.Common.{◌≡◌, ℕ, zero, suc, ◌≤◌, ◌<◌, ◌+◌, Bool, true, false, List, [], ◌∷◌, ◌++◌, Option, Some, refl, sym, subst, ap, cond, length, arith, map, unwrap_or, slice_get}
use Rattle.std.specs.Prelude.{find, slice_set}
use Rattle.page_parts.specs.Words.{numbered, with_numbered, and_last, without}

-- one where the test holds
abbrev pub one_if : Bool → ℕ
one_if true = 1
one_if false = 0

-- the sum of what each item counts for
abbrev pub total : {X : Type 0} → (X → ℕ) → List X → ℕ
total w [] = 0
total w (x ∷ xs) = w x + total w xs

pub total-append : {X : Type 0} (w : X → ℕ) (xs ys : List X) → total w (xs ++ ys) ≡ total w xs + total w ys
total-append w [] ys = omega arith
total-append w (x ∷ xs) ys = let e = total-append w xs ys in omega (arith, e)

pub total-last : {X : Type 0} (w : X → ℕ) (xs : List X) (x : X) → total w (and_last xs x) ≡ total w xs + w x
total-last w xs x = let e = total-append w xs (x ∷ []) in omega (arith, e)

pub total-map : {X Y : Type 0} (w : Y → ℕ) (v : X → ℕ) (f : X → Y) (xs : List X) → ((x : X) → w (f x) ≡ v x) → total w (map f xs) ≡ total v xs
total-map w v f [] h = refl
total-map w v f (x ∷ xs) h = let e = total-map w v f xs h in let e1 = h x in omega (arith, e, e1)

pub total-without : {X : Type 0} (w : X → ℕ) (gone : X → Bool) (xs : List X) → total w (without gone xs) ≤ total w xs
total-without w gone [] = omega arith
total-without {X = X} w gone (x ∷ xs) = by_test (gone x) (total-without w gone xs)
  where
    by_test : (b : Bool) → total w (without gone xs) ≤ total w xs → total w (cond b (without gone xs) (x ∷ without gone xs)) ≤ w x + total w xs
    by_test true le = omega (arith, le)
    by_test false le = omega (arith, le)

-- without those, the sum is less by what x counts for
abbrev pub IsLess : {X : Type 0} → (X → ℕ) → (X → Bool) → List X → X → Type 0
IsLess w gone xs x = total w (without gone xs) + w x ≤ total w xs

pub less-first : {X : Type 0} (w : X → ℕ) (gone : X → Bool) (x : X) (xs : List X) → gone x ≡ true → IsLess w gone (x ∷ xs) x
less-first {X = X} w gone x xs h = by_test (gone x) h (total-without w gone xs)
  where
    by_test : (b : Bool) → b ≡ true → total w (without gone xs) ≤ total w xs → total w (cond b (without gone xs) (x ∷ without gone xs)) + w x ≤ w x + total w xs
    by_test true h le = omega (arith, le)
    by_test false h le = Prim.cc

pub less-more : {X : Type 0} (w : X → ℕ) (gone : X → Bool) (y x : X) (xs : List X) → IsLess w gone xs x → IsLess w gone (y ∷ xs) x
less-more {X = X} w gone y x xs le = by_test (gone y)
  where
    by_test : (b : Bool) → total w (cond b (without gone xs) (y ∷ without gone xs)) + w x ≤ w y + total w xs
    by_test true = omega (arith, le)
    by_test false = omega (arith, le)

-- one more behind the first
pub less-second : {X : Type 0} (w : X → ℕ) (gone : X → Bool) (y z x : X) (xs : List X) → IsLess w gone (y ∷ xs) x → IsLess w gone (y ∷ z ∷ xs) x
less-second {X = X} w gone y z x xs le = by_tests (gone y) (gone z) le
  where
    by_tests : (b c : Bool) → total w (cond b (without gone xs) (y ∷ without gone xs)) + w x ≤ w y + total w xs
        → total w (cond b (cond c (without gone xs) (z ∷ without gone xs)) (y ∷ cond c (without gone xs) (z ∷ without gone xs))) + w x ≤ w y + (w z + total w xs)
    by_tests true true le = omega (arith, le)
    by_tests true false le = omega (arith, le)
    by_tests false true le = omega (arith, le)
    by_tests false false le = omega (arith, le)

pub less-within : {X : Type 0} (w : X → ℕ) (gone : X → Bool) (before : List X) (x : X) (after : List X) → gone x ≡ true → IsLess w gone (before ++ x ∷ after) x
less-within w gone [] x after h = less-first w gone x after h
less-within w gone (y ∷ before) x after h = less-more w gone y x (before ++ x ∷ after) (less-within w gone before x after h)

unsome : {X : Type 0} (x y : X) → Some x ≡ Some y → x ≡ y
unsome {X = X} x y e = ap {A = Option X} {B = X} (λ o. unwrap_or o x) e

pub less-found : {X : Type 0} (w : X → ℕ) (test gone : X → Bool) (xs : List X) (x : X) → find test xs ≡ Some x → gone x ≡ true → IsLess w gone xs x
less-found w test gone [] x e h = Prim.cc
less-found {X = X} w test gone (y ∷ xs) x e h = by_test (test y) e (less-found w test gone xs x)
  where
    by_test : (b : Bool) → cond b (Some y) (find test xs) ≡ Some x → (find test xs ≡ Some x → gone x ≡ true → IsLess w gone xs x) → IsLess w gone (y ∷ xs) x
    by_test true e rest = subst (λ (z : X). IsLess w gone (z ∷ xs) x) (sym (unsome y x e)) (less-first w gone x xs h)
    by_test false e rest = less-more w gone y x xs (rest e h)

-- what is put in place of an item counts for it
pub total-set : {X : Type 0} (w : X → ℕ) (xs : List X) (i : ℕ) (y d : X) → i < length xs → total w (slice_set xs i y) + w (unwrap_or (slice_get xs i) d) ≡ total w xs + w y
total-set w [] i y d le = absurd (omega (arith, le))
total-set w (x ∷ xs) zero y d le = omega arith
total-set w (x ∷ xs) (suc i) y d le = let e = total-set w xs i y d (omega (arith, le)) in omega (arith, e)

-- the same of an item by its number
pub total-put : {X : Type 0} (w : X → ℕ) (xs : List X) (n : ℕ) (y d : X) → 1 ≤ n → n ≤ length xs → total w (with_numbered xs n y) + w (numbered xs n d) ≡ total w xs + w y
total-put w xs zero y d one le = absurd (omega (arith, one))
total-put w xs (suc n) y d one le = total-set w xs n y d (omega (arith, le))

pub without-append : {X : Type 0} (gone : X → Bool) (xs ys : List X) → without gone (xs ++ ys) ≡ without gone xs ++ without gone ys
without-append gone [] ys = refl
without-append {X = X} gone (x ∷ xs) ys = by_test (gone x) (without-append gone xs ys)
  where
    by_test : (b : Bool) → without gone (xs ++ ys) ≡ without gone xs ++ without gone ys → cond b (without gone (xs ++ ys)) (x ∷ without gone (xs ++ ys)) ≡ cond b (without gone xs) (x ∷ without gone xs) ++ without gone ys
    by_test true e = e
    by_test false e = ap (x ∷◌) e
