-- What is found in lists from which something was taken, or which have one item more.
use Rattle.std.proofs.Common.{◌≡◌, ℕ, ◌≤◌, Bool, true, false, List, [], ◌∷◌, ◌||◌, Option, Some, refl, ap, ◌∙◌, cond, arith, unwrap_or, sym}
use Rattle.std.proofs.lemmas.Bool.{eqb-true}
use Rattle.std.specs.Prelude.{find, ◌==◌}
use Rattle.page_parts.specs.Words.{and_last, without, is_there}
use Rattle.page_parts.specs.Listeners.{Listener, Target, add, off, is_listening}
use Rattle.page_laws.proofs.Totals.{one_if, total, less-found}

pub false_true : false ≡ true → ⊥
false_true e = Prim.cc

pub true_false : true ≡ false → ⊥
true_false e = Prim.cc

-- without those that pass a test, none is left
pub none-left : {X : Type 0} (test : X → Bool) (xs : List X) → total (λ x. one_if (test x)) (without test xs) ≤ 0
none-left test [] = omega arith
none-left {X = X} test (x ∷ xs) = by_test (test x) refl (none-left test xs)
  where
    by_test : (b : Bool) → test x ≡ b → total (λ y. one_if (test y)) (without test xs) ≤ 0 → total (λ y. one_if (test y)) (cond b (without test xs) (x ∷ without test xs)) ≤ 0
    by_test true q le = le
    by_test false q le = let z : one_if (test x) ≡ 0 = ap one_if q in omega (arith, le, z)

-- what was found counts
pub found-counts : {X : Type 0} (w : X → ℕ) (test : X → Bool) (xs : List X) (x : X) → find test xs ≡ Some x → w x ≤ total w xs
found-counts w test xs x e = let a = less-found w test (λ y. true) xs x e refl in omega (arith, a)

-- and passes the test
pub found-passes : {X : Type 0} (test : X → Bool) (xs : List X) (x : X) → find test xs ≡ Some x → test x ≡ true
found-passes test [] x e = Prim.cc
found-passes {X = X} test (y ∷ xs) x e = by_test (test y) refl e (found-passes test xs x)
  where
    by_test : (b : Bool) → test y ≡ b → cond b (Some y) (find test xs) ≡ Some x → (find test xs ≡ Some x → test x ≡ true) → test x ≡ true
    by_test true q e rest = ap {A = X} {B = Bool} test (sym (ap {A = Option X} {B = X} (λ o. unwrap_or o x) e)) ∙ q
    by_test false q e rest = rest e

-- what is not there is not there in less
pub not-without : {X : Type 0} (test gone : X → Bool) (xs : List X) → is_there (find test xs) ≡ false → is_there (find test (without gone xs)) ≡ false
not-without test gone [] h = refl
not-without {X = X} test gone (x ∷ xs) h = by_tests (test x) (gone x) refl h (not-without test gone xs)
  where
    by_tests : (b c : Bool) → test x ≡ b → is_there (cond b (Some x) (find test xs)) ≡ false → (is_there (find test xs) ≡ false → is_there (find test (without gone xs)) ≡ false) → is_there (find test (cond c (without gone xs) (x ∷ without gone xs))) ≡ false
    by_tests true c q h rest = absurd (true_false h)
    by_tests false true q h rest = rest h
    by_tests false false q h rest = ap {A = Bool} {B = Bool} (λ b. is_there (cond b (Some x) (find test (without gone xs)))) q ∙ rest h

-- nor where those that pass are taken out
pub not-left : {X : Type 0} (test : X → Bool) (xs : List X) → is_there (find test (without test xs)) ≡ false
not-left test [] = refl
not-left {X = X} test (x ∷ xs) = by_test (test x) refl (not-left test xs)
  where
    by_test : (b : Bool) → test x ≡ b → is_there (find test (without test xs)) ≡ false → is_there (find test (cond b (without test xs) (x ∷ without test xs))) ≡ false
    by_test true q rest = rest
    by_test false q rest = ap {A = Bool} {B = Bool} (λ b. is_there (cond b (Some x) (find test (without test xs)))) q ∙ rest

-- nor where one comes that does not pass
pub not-last : {X : Type 0} (test : X → Bool) (xs : List X) (x : X) → test x ≡ false → is_there (find test xs) ≡ false → is_there (find test (and_last xs x)) ≡ false
not-last {X = X} test [] x q h = ap {A = Bool} {B = Bool} (λ b. is_there (cond b (Some x) (find test []))) q
not-last {X = X} test (y ∷ xs) x q h = by_test (test y) h (not-last test xs x q)
  where
    by_test : (b : Bool) → is_there (cond b (Some y) (find test xs)) ≡ false → (is_there (find test xs) ≡ false → is_there (find test (and_last xs x)) ≡ false) → is_there (cond b (Some y) (find test (and_last xs x))) ≡ false
    by_test true h rest = h
    by_test false h rest = rest h

-- ---- numbers

pub same_number : (n r : ℕ) → (n ≡ r → ⊥) → (n == r) ≡ false
same_number n r h = by_test (n == r) refl
  where
    by_test : (b : Bool) → (n == r) ≡ b → (n == r) ≡ false
    by_test true q = absurd (h (eqb-true n r q))
    by_test false q = q

-- ---- listeners

pub off-none : (r : ℕ) (ls : List Listener) → is_listening r (off r ls) ≡ false
off-none r [] = refl
off-none r (l ∷ ls) = by_test (l.registration == r) refl (off-none r ls)
  where
    by_test : (b : Bool) → (l.registration == r) ≡ b → is_listening r (off r ls) ≡ false → is_listening r (cond b (off r ls) (l ∷ off r ls)) ≡ false
    by_test true q rest = rest
    by_test false q rest = ap {A = Bool} {B = Bool} (λ b. b || is_listening r (off r ls)) q ∙ rest

pub off-keeps : (q r : ℕ) (ls : List Listener) → is_listening q ls ≡ false → is_listening q (off r ls) ≡ false
off-keeps q r [] h = refl
off-keeps q r (l ∷ ls) h = by_tests (l.registration == q) (l.registration == r) refl h (off-keeps q r ls)
  where
    by_tests : (b c : Bool) → (l.registration == q) ≡ b → b || is_listening q ls ≡ false → (is_listening q ls ≡ false → is_listening q (off r ls) ≡ false) → is_listening q (cond c (off r ls) (l ∷ off r ls)) ≡ false
    by_tests true c k h rest = absurd (true_false h)
    by_tests false true k h rest = rest h
    by_tests false false k h rest = ap {A = Bool} {B = Bool} (λ b. b || is_listening q (off r ls)) k ∙ rest h

pub add-keeps : (q r : ℕ) (target : Target) (name : List ℕ) (ls : List Listener) → (r ≡ q → ⊥) → is_listening q ls ≡ false → is_listening q (add target name r ls) ≡ false
add-keeps q r target name [] n h = ap {A = Bool} {B = Bool} (λ b. b || false) (same_number r q n)
add-keeps q r target name (l ∷ ls) n h = by_test (l.registration == q) h (add-keeps q r target name ls n)
  where
    by_test : (b : Bool) → b || is_listening q ls ≡ false → (is_listening q ls ≡ false → is_listening q (add target name r ls) ≡ false) → b || is_listening q (add target name r ls) ≡ false
    by_test true h rest = h
    by_test false h rest = rest h
