-- The decimal of a number.
use Rattle.std.proofs.Common.{◌≡◌, ℕ, zero, suc, ◌+◌, ◌*◌, ◌^◌, ◌/◌, ◌%◌, ◌<◌, ◌≤◌, List, [], ◌∷◌, ◌++◌, sym, ap, ◌∙◌, refl, arith, true, false, nat_lt, append_assoc, add-one}
use Rattle.std.proofs.lemmas.Bool.Decides.{nat_tests}
use Rattle.std.proofs.Math.Nat.{pow-succ'}
use Rattle.page_parts.specs.Words.{digits}

pub digits-small : (most n : ℕ) → n < 10 → digits most n ≡ (48 + n) ∷ []
digits-small zero n h = refl
digits-small (suc most) n h = let small : nat_lt n 10 ≡ true = grind (arith, nat_tests) in rw small refl

tenth : (n p q : ℕ) → q ≡ 10 * p → n < q → n / 10 < p
tenth n p q e h = omega arith

power : (most : ℕ) → 10 ^ (suc most + 1) ≡ 10 * 10 ^ (most + 1)
power most = ap (λ k. 10 ^ k) (add-one (suc most)) ∙ pow-succ' 10 (suc most) ∙ ap (λ k. 10 * 10 ^ k) (sym (add-one most))

-- the digits before the last one, and the last one
pub digits-more : (most n : ℕ) (old middle : List ℕ) → 10 ≤ n → n < 10 ^ (most + 1) → ((m : ℕ) → n / 10 < 10 ^ (m + 1) → middle ≡ old ++ digits m (n / 10)) → middle ++ (48 + n % 10) ∷ [] ≡ old ++ digits most n
digits-more zero n old middle h lt e = absurd (omega arith)
digits-more (suc most) n old middle h lt e =
    let large : nat_lt n 10 ≡ false = grind (arith, nat_tests) in
    rw large (ap (λ bs. bs ++ (48 + n % 10) ∷ []) (e most (tenth n (10 ^ (most + 1)) (10 ^ (suc most + 1)) (power most) lt)) ∙ append_assoc old (digits most (n / 10)) ((48 + n % 10) ∷ []))

-- a number of two digits at least: the digits before the last one, and the last one
pub digits-split : (most n : ℕ) → 10 ≤ n → n < 10 ^ (most + 1) → (fewer : ℕ) × (n / 10 < 10 ^ (fewer + 1)) × (digits most n ≡ digits fewer (n / 10) ++ (48 + n % 10) ∷ [])
digits-split zero n h lt = absurd (omega arith)
digits-split (suc most) n h lt =
    let large : nat_lt n 10 ≡ false = grind (arith, nat_tests) in
    (most, tenth n (10 ^ (most + 1)) (10 ^ (suc most + 1)) (power most) lt, rw large refl)
