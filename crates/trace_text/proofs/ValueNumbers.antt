-- Numbers at the front of some bytes.
use Rattle.std.proofs.Common.{◌≡◌, ℕ, zero, suc, ◌+◌, ◌^◌, ◌/◌, ◌%◌, ◌<◌, ◌≤◌, Bool, true, false, cond, List, [], ◌∷◌, ◌++◌, length, get_or, drop, Option, Some, None, refl, sym, ap, ◌∙◌, subst, arith}
use Rattle.std.specs.Prelude.{◌&&◌, ◌||◌, IsTrue, ◌==◌, nat_le, nat_lt, codes, pos, negsuc, FitsSigned, ℤ}
use Rattle.std.specs.Fmt.{decimal}
use Rattle.std.specs.Int.{w64}
use Rattle.std.specs.List.{list_all, prefix_len}
use Rattle.std.proofs.lemmas.Bool.{false≢true}
use Rattle.std.proofs.lemmas.Bool.Decides.{nat_tests}
use Rattle.std.proofs.lemmas.Fmt.{decimal-digits_value, decimal_nonempty, digits_decimal}
use Rattle.std.proofs.lemmas.List.{take-append-drop}
use Rattle.std.proofs.lemmas.List.Folds.{length-prefix_len}
use Rattle.std.proofs.lemmas.List.Sums.{take_while-cons}
use Rattle.page_parts.specs.Words.{decimal_of, int_decimal}
use Rattle.page_base.specs.Decimals.{is_digit, digits_of, after_digits, number_of, number_at, is_canonical}
use Rattle.page_base.proofs.Numbers.{list_all-take_while, list_all_first}
use Rattle.page_base.proofs.Printed.{numerals, after_digits-append, number_at-decimal}
use Rattle.page_values.proofs.OneDecimal.{decimal_is}
use Rattle.page_base.specs.Fields.{◌>>=◌, read_or, behind}
use Rattle.trace_text.specs.ValueEnds.{after_number, after_negative, after_int, begins_number, may_follow}
use Rattle.trace_text.proofs.Cutting.{behind_whole}

-- ---- what is spelled is read

no_digit : (b : ℕ) → IsTrue (b == 44 || (b == 93 || b == 41)) → is_digit b ≡ false
no_digit b h = grind (arith, nat_tests)

no_digits : (rest : List ℕ) → IsTrue (may_follow rest) → digits_of rest ≡ []
no_digits [] h = refl
no_digits (b ∷ rest) h = rw (take_while-cons, no_digit b h) refl

-- the number is read where no digit follows, and what follows is left
pub number_in_front : (most n : ℕ) (rest : List ℕ) → n < 2 ^ 64 → n ≤ most → digits_of rest ≡ [] → number_at most (decimal_of n ++ rest) ≡ Some n
number_in_front most n rest h small none = subst (λ ds. number_at most (ds ++ rest) ≡ Some n) (sym (decimal_is n h)) (number_at-decimal most n rest h small none)

pub left_in_front : (n : ℕ) (rest : List ℕ) → n < 2 ^ 64 → digits_of rest ≡ [] → after_digits (decimal_of n ++ rest) ≡ rest
left_in_front n rest h none =
    subst (λ ds. after_digits (ds ++ rest) ≡ rest) (sym (decimal_is n h)) (after_digits-append (decimal n) rest (digits_decimal numerals n h) none)

number_at_front : (most n : ℕ) (rest : List ℕ) → n < 2 ^ 64 → n ≤ most → IsTrue (may_follow rest) → number_at most (decimal_of n ++ rest) ≡ Some n
number_at_front most n rest h small follows = number_in_front most n rest h small (no_digits rest follows)

after_front : (n : ℕ) (rest : List ℕ) → n < 2 ^ 64 → IsTrue (may_follow rest) → after_digits (decimal_of n ++ rest) ≡ rest
after_front n rest h follows = left_in_front n rest h (no_digits rest follows)

pub number_read : (most n : ℕ) (rest : List ℕ) → n < 2 ^ 64 → n ≤ most → IsTrue (may_follow rest) → after_number most (decimal_of n ++ rest) ≡ Some rest
unfolding after_number
number_read most n rest h small follows =
    ap (λ o. o >>= λ k. Some (after_digits (decimal_of n ++ rest))) (number_at_front most n rest h small follows) ∙ ap Some (after_front n rest h follows)

negative_read : (n : ℕ) (rest : List ℕ) → suc n < 2 ^ 64 → suc n ≤ 9223372036854775808 → IsTrue (may_follow rest) → after_negative (decimal_of (suc n) ++ rest) ≡ Some rest
unfolding after_negative
negative_read n rest h small follows =
    let after : List ℕ = after_digits (decimal_of (suc n) ++ rest) in
    let some : (suc n == 0) ≡ false = grind (arith, nat_tests) in
    ap (λ o. o >>= λ k. cond (k == 0) None (Some after)) (number_at_front 9223372036854775808 (suc n) rest h small follows)
    ∙ ap (λ b. cond b None (Some after)) some ∙ ap Some (after_front (suc n) rest h follows)

-- a decimal begins with a digit
pub record FirstDigit (ds : List ℕ) : Type 0 where
  pub digit : ℕ
  pub more : List ℕ
  pub whole : ds ≡ digit ∷ more
  pub low : 48 ≤ digit
  pub high : digit ≤ 57

first_of_digits : (ds : List ℕ) → list_all is_digit ds ≡ true → 0 < length ds → FirstDigit ds
first_of_digits [] all some = absurd (omega arith)
first_of_digits (d ∷ ds) all some =
    let first : is_digit d ≡ true = list_all_first is_digit d ds all in
    record { digit = d; more = ds; whole = refl; low = grind (arith, nat_tests); high = grind (arith, nat_tests) }

pub decimal_first : (n : ℕ) → n < 2 ^ 64 → FirstDigit (decimal_of n)
decimal_first n h = subst FirstDigit (sym (decimal_is n h)) (first_of_digits (decimal n) (digits_decimal numerals n h) (decimal_nonempty n h))

-- ---- what is read is spelled

pub record NumberAt (most : ℕ) (bytes rest : List ℕ) : Type 0 where
  pub number : ℕ
  pub small : number ≤ most
  pub whole : bytes ≡ decimal_of number ++ rest

canonical_some : (ds : List ℕ) → is_canonical ds ≡ true → 0 < length ds
canonical_some [] h = absurd (false≢true h)
canonical_some (d ∷ ds) h = omega arith

canonical_zero : (ds : List ℕ) → is_canonical ds ≡ true → get_or ds 0 0 ≡ 48 → length ds ≡ 1
canonical_zero [] h zero_first = absurd (false≢true h)
canonical_zero (d ∷ []) h zero_first = refl
canonical_zero (d ∷ e ∷ ds) h zero_first = let same : d ≡ 48 = zero_first in absurd (grind (arith, nat_tests))

decimal_back : (ds : List ℕ) → list_all is_digit ds ≡ true → is_canonical ds ≡ true → number_of ds < 2 ^ 64 → decimal_of (number_of ds) ≡ ds
decimal_back ds all canonical h = decimal_is (number_of ds) h ∙ decimal-digits_value numerals ds all (canonical_some ds canonical) (canonical_zero ds canonical) h

digits_then : (bytes : List ℕ) → digits_of bytes ++ after_digits bytes ≡ bytes
digits_then bytes =
    ap (λ k. digits_of bytes ++ drop k bytes) (length-prefix_len is_digit bytes) ∙ take-append-drop (prefix_len is_digit bytes) bytes

by_test : (most n : ℕ) (bytes : List ℕ) (canonical small : Bool) → most < 2 ^ 64 → is_canonical (digits_of bytes) ≡ canonical → nat_le (number_of (digits_of bytes)) most ≡ small
    → cond (canonical && small) (Some (number_of (digits_of bytes))) None ≡ Some n → (n ≤ most) × (bytes ≡ decimal_of n ++ after_digits bytes)
by_test most n bytes true true limit e f is =
    let same : number_of (digits_of bytes) ≡ n = cc in
    let low : number_of (digits_of bytes) ≤ most = grind (arith, nat_tests) in
    let back : decimal_of (number_of (digits_of bytes)) ≡ digits_of bytes = decimal_back (digits_of bytes) (list_all-take_while is_digit bytes) e (omega arith) in
    (omega arith, sym (ap (λ k. decimal_of k ++ after_digits bytes) (sym same) ∙ ap (λ ds. ds ++ after_digits bytes) back ∙ digits_then bytes))
by_test most n bytes true false limit e f is = absurd cc
by_test most n bytes false small limit e f is = absurd cc

pub number_at_is : (most n : ℕ) (bytes : List ℕ) → most < 2 ^ 64 → number_at most bytes ≡ Some n → (n ≤ most) × (bytes ≡ decimal_of n ++ after_digits bytes)
number_at_is most n bytes limit is = by_test most n bytes (is_canonical (digits_of bytes)) (nat_le (number_of (digits_of bytes)) most) limit refl refl is

number_by : (most : ℕ) (bytes rest : List ℕ) (o : Option ℕ) → most < 2 ^ 64 → number_at most bytes ≡ o → (o >>= λ n. Some (after_digits bytes)) ≡ Some rest → NumberAt most bytes rest
number_by most bytes rest None limit e is = absurd cc
number_by most bytes rest (Some n) limit e is =
    let at = number_at_is most n bytes limit e in
    let same : after_digits bytes ≡ rest = cc in
    record { number = n; small = at.0; whole = at.1 ∙ ap (λ r. decimal_of n ++ r) same }

pub number_found : (most : ℕ) (bytes rest : List ℕ) → most < 2 ^ 64 → after_number most bytes ≡ Some rest → NumberAt most bytes rest
unfolding after_number
number_found most bytes rest limit is = number_by most bytes rest (number_at most bytes) limit refl is

-- ---- integers

pub record IntAt (bytes rest : List ℕ) : Type 0 where
  pub number : ℤ
  pub fits : FitsSigned w64 number
  pub whole : bytes ≡ int_decimal number ++ rest

negative_of : (n : ℕ) (bytes rest : List ℕ) (b : Bool) → n ≤ 9223372036854775808 → (n == 0) ≡ b → bytes ≡ 45 ∷ decimal_of n ++ after_digits rest → {after : List ℕ} → cond b None (Some (after_digits rest)) ≡ Some after → IntAt bytes after
negative_of n bytes rest true small e whole is = absurd cc
negative_of zero bytes rest false small e whole is = absurd (grind (arith, nat_tests))
negative_of (suc n) bytes rest false small e whole {after} is =
    let same : after_digits rest ≡ after = cc in
    record { number = negsuc n; fits = omega arith; whole = whole ∙ ap (λ r. 45 ∷ decimal_of (suc n) ++ r) same }

negative_by : (bytes digits after : List ℕ) (o : Option ℕ) → bytes ≡ 45 ∷ digits → number_at 9223372036854775808 digits ≡ o → (o >>= λ n. cond (n == 0) None (Some (after_digits digits))) ≡ Some after → IntAt bytes after
negative_by bytes digits after None sign e is = absurd cc
negative_by bytes digits after (Some n) sign e is =
    let at = number_at_is 9223372036854775808 n digits (omega arith) e in
    negative_of n bytes digits (n == 0) at.0 refl (sign ∙ ap (λ ds. 45 ∷ ds) at.1) is

negative_found : (bytes digits after : List ℕ) → bytes ≡ 45 ∷ digits → after_negative digits ≡ Some after → IntAt bytes after
unfolding after_negative
negative_found bytes digits after sign is = negative_by bytes digits after (number_at 9223372036854775808 digits) sign refl is

int_by : (bytes rest : List ℕ) (o : Option (List ℕ)) → behind (codes "-") bytes ≡ o → read_or o after_negative (after_number 9223372036854775807 bytes) ≡ Some rest → IntAt bytes rest
int_by bytes rest None e is =
    let at = number_found 9223372036854775807 bytes rest (omega arith) is in
    let small = at.small in
    record { number = pos at.number; fits = omega arith; whole = at.whole }
int_by bytes rest (Some digits) e is = negative_found bytes digits rest (behind_whole (codes "-") bytes digits e) is

pub int_found : (bytes rest : List ℕ) → after_int bytes ≡ Some rest → IntAt bytes rest
unfolding after_int
int_found bytes rest is = int_by bytes rest (behind (codes "-") bytes) refl is

no_sign : (d : ℕ) (ds : List ℕ) → 48 ≤ d → behind (codes "-") (d ∷ ds) ≡ None
unfolding behind
no_sign d ds low = let other : (d == 45) ≡ false = grind (arith, nat_tests) in rw other refl

no_sign_at : (ds rest : List ℕ) → FirstDigit ds → behind (codes "-") (ds ++ rest) ≡ None
no_sign_at ds rest first = subst (λ xs. behind (codes "-") (xs ++ rest) ≡ None) (sym first.whole) (no_sign first.digit (first.more ++ rest) first.low)

sign_read : (digits : List ℕ) → behind (codes "-") (45 ∷ digits) ≡ Some digits
unfolding behind
sign_read digits = refl

pub int_read : (z : ℤ) (rest : List ℕ) → FitsSigned w64 z → IsTrue (may_follow rest) → after_int (int_decimal z ++ rest) ≡ Some rest
unfolding after_int
int_read (pos n) rest fits follows =
    let below : n ≤ 9223372036854775807 = omega (arith, fits) in
    ap (λ o. read_or o after_negative (after_number 9223372036854775807 (decimal_of n ++ rest))) (no_sign_at (decimal_of n) rest (decimal_first n (omega arith)))
    ∙ number_read 9223372036854775807 n rest (omega arith) below follows
int_read (negsuc n) rest fits follows =
    let below : suc n ≤ 9223372036854775808 = omega (arith, fits) in
    ap (λ o. read_or o after_negative (after_number 9223372036854775807 (45 ∷ decimal_of (suc n) ++ rest))) (sign_read (decimal_of (suc n) ++ rest))
    ∙ negative_read n rest (omega arith) below follows

digit_begins : (d : ℕ) (ds : List ℕ) → 48 ≤ d → d ≤ 57 → begins_number (d ∷ ds) ≡ true
digit_begins d ds low high = grind (arith, nat_tests)

pub int_begins : (z : ℤ) (rest : List ℕ) → FitsSigned w64 z → begins_number (int_decimal z ++ rest) ≡ true
int_begins (pos n) rest fits =
    let first = decimal_first n (omega (arith, fits)) in
    subst (λ xs. begins_number (xs ++ rest) ≡ true) (sym first.whole) (digit_begins first.digit (first.more ++ rest) first.low first.high)
int_begins (negsuc n) rest fits = refl
