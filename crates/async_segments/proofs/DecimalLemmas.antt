-- The decimal of a number: its digits, the number that they spell, and how many they are.
use Rattle.std.proofs.Common.{◌≡◌, ℕ, zero, suc, ◌+◌, ◌-◌, ◌*◌, ◌^◌, ◌/◌, ◌%◌, ◌<◌, ◌≤◌, List, [], ◌∷◌, ◌++◌, length, Bool, true, false, refl, sym, ap, ◌∙◌, arith, nat_lt, ltb-true, length-append, add-one}
use Rattle.std.specs.Char.{is_ascii_digit}
use Rattle.std.proofs.lemmas.Bool.Decides.{nat_tests}
use Rattle.std.proofs.Math.Nat.{pow-succ'}
use Rattle.page_parts.specs.Words.{digits, digit_or_more, decimal_of}
use Rattle.page_parts.proofs.Decimals.{below-own_power}
use Rattle.lang_tokens.specs.Meaning.{AllBytes, decimal_after}

digit_is : (d : ℕ) → d < 10 → is_ascii_digit (48 + d) ≡ true
digit_is d h = grind (arith, nat_tests)

all_digits-append : (a b : List ℕ) → AllBytes is_ascii_digit a → AllBytes is_ascii_digit b → AllBytes is_ascii_digit (a ++ b)
all_digits-append [] b p q = q
all_digits-append (x ∷ a) b p q = (p.0, all_digits-append a b p.1 q)

decimal_after-append : (v d : ℕ) (ds : List ℕ) → decimal_after v (ds ++ d ∷ []) ≡ decimal_after v ds * 10 + (d - 48)
decimal_after-append v d [] = refl
decimal_after-append v d (b ∷ bs) = decimal_after-append (v * 10 + (b - 48)) d bs

-- these digits spell the number
pub record Spells (n : ℕ) (ds : List ℕ) : Type 0 where
  pub some : 0 < length ds
  pub digits : AllBytes is_ascii_digit ds
  pub value : decimal_after 0 ds ≡ n

one_digit : (n : ℕ) → n < 10 → Spells n ((48 + n) ∷ [])
one_digit n h = record { some = omega arith; digits = (digit_is n h, tt); value = omega arith }

more_digits : (n : ℕ) (ds : List ℕ) → Spells (n / 10) ds → Spells n (ds ++ (48 + n % 10) ∷ [])
more_digits n ds s = record {
  some = omega (arith, length-append ds ((48 + n % 10) ∷ []));
  digits = all_digits-append ds ((48 + n % 10) ∷ []) s.digits (digit_is (n % 10) (omega arith), tt);
  value = let last = decimal_after-append 0 (48 + n % 10) ds in let front = s.value in omega arith;
}

tenth : (n p q : ℕ) → q ≡ 10 * p → n < q → n / 10 < p
tenth n p q e h = omega arith

power : (most : ℕ) → 10 ^ (suc most + 1) ≡ 10 * 10 ^ (most + 1)
power most = ap (λ k. 10 ^ k) (add-one (suc most)) ∙ pow-succ' 10 (suc most) ∙ ap (λ k. 10 * 10 ^ k) (sym (add-one most))

by_size : (most n : ℕ) (small : Bool) → nat_lt n 10 ≡ small → Spells (n / 10) (digits most (n / 10)) → Spells n (digit_or_more small (digits most) n)
by_size most n true e s = one_digit n (ltb-true n 10 e)
by_size most n false e s = more_digits n (digits most (n / 10)) s

spells : (most n : ℕ) → n < 10 ^ (most + 1) → Spells n (digits most n)
spells zero n h = one_digit n h
spells (suc most) n h = by_size most n (nat_lt n 10) refl (spells most (n / 10) (tenth n (10 ^ (most + 1)) (10 ^ (suc most + 1)) (power most) h))

-- the decimal spells its number
pub decimal_spells : (n : ℕ) → Spells n (decimal_of n)
decimal_spells n = spells n n (below-own_power n)

-- ---- how many digits

few_by : (most j n : ℕ) (small : Bool) → length (digits most (n / 10)) ≤ j → length (digit_or_more small (digits most) n) ≤ suc j
few_by most j n true h = omega arith
few_by most j n false h = omega (arith, length-append (digits most (n / 10)) ((48 + n % 10) ∷ []))

one_by : (most n : ℕ) (small : Bool) → nat_lt n 10 ≡ small → n < 10 → length (digit_or_more small (digits most) n) ≤ 1
one_by most n true e h = omega arith
one_by most n false e h = absurd (grind (arith, nat_tests))

few : (most j n : ℕ) → n < 10 ^ (j + 1) → length (digits most n) ≤ suc j
few zero j n h = omega arith
few (suc most) zero n h = one_by most n (nat_lt n 10) refl h
few (suc most) (suc j) n h = few_by most (suc j) n (nat_lt n 10) (few most j (n / 10) (tenth n (10 ^ (j + 1)) (10 ^ (suc j + 1)) (power j) h))

pub decimal_short : (n : ℕ) → n < 10000 → length (decimal_of n) ≤ 4
decimal_short n h = few n 3 n h
