-- The canonical decimal is the one that the library writes.
use Rattle.std.proofs.Common.{◌≡◌, ℕ, zero, suc, ◌+◌, ◌^◌, ◌/◌, ◌%◌, ◌<◌, ◌≤◌, false, [], ◌∷◌, ◌++◌, refl, arith, nat_lt}
use Rattle.std.specs.Fmt.{decimal}
use Rattle.std.proofs.lemmas.Bool.Decides.{nat_tests}
use Rattle.std.proofs.lemmas.Fmt.{AppendsLastDigit, decimal_from_appends, length-decimal-le}
use Rattle.page_parts.specs.Words.{digits, decimal_of}
use Rattle.page_parts.proofs.Decimals.{below-power}
use Rattle.page_values.proofs.Digits.{digits-small}

last_digit : (most n : ℕ) → 10 ≤ n → digits (suc most) n ≡ digits most (n / 10) ++ (48 + n % 10) ∷ []
last_digit most n h = let large : nat_lt n 10 ≡ false = grind (arith, nat_tests) in rw large refl

appends : AppendsLastDigit digits
appends = record { one = λ most n h. digits-small (suc most) n h; more = last_digit }

pub decimal_is : (n : ℕ) → n < 2 ^ 64 → decimal_of n ≡ decimal n
decimal_is zero h = decimal_from_appends digits appends 1 0 h (length-decimal-le 1 0 (omega arith) (omega arith) h)
decimal_is (suc n) h = decimal_from_appends digits appends (suc n) (suc n) h (length-decimal-le (suc n) (suc n) (omega arith) (below-power (suc n)) h)
