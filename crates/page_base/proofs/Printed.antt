-- A number that `{}` wrote is read back.
use Rattle.std.proofs.Common.{◌≡◌, ℕ, zero, suc, ◌^◌, ◌<◌, ◌≤◌, true, List, [], ◌∷◌, ◌++◌, length, get_or, Some, refl, arith}
use Rattle.std.specs.Fmt.{decimal}
use Rattle.std.specs.List.{list_all}
use Rattle.std.proofs.Math.Seq.{drop-append_seam}
use Rattle.std.proofs.lemmas.Bool.{le-leb}
use Rattle.std.proofs.lemmas.Bool.Decides.{nat_tests}
use Rattle.std.proofs.lemmas.Fmt.{decimal_digit, decimal_nonempty, digits_decimal, digits_value-decimal, first_decimal}
use Rattle.std.proofs.lemmas.List.Sums.{take_while-cons}
use Rattle.std.proofs.lemmas.Str.Parse.{IsDigitsTest, IsNumeralModel, WeighsDigits, numerals_by_weight}
use Rattle.page_base.proofs.Numbers.{list_all_first, list_all_behind}
use Rattle.page_base.specs.Decimals.{is_digit, digits_of, after_digits, number_of, number_at, is_canonical}

tells_digits : IsDigitsTest (λ ds. list_all is_digit ds ≡ true)
tells_digits = record {
  empty = refl;
  parts = λ c cs e. grind (arith, nat_tests);
  more = λ c cs k e. grind (arith, nat_tests);
}

weighs_digits : WeighsDigits number_of
weighs_digits = record { empty = refl; more = λ c cs k. refl }

-- std's lemmas on printed numbers hold of these words
pub numerals : IsNumeralModel (λ ds. list_all is_digit ds ≡ true) number_of
numerals = numerals_by_weight (λ ds. list_all is_digit ds ≡ true) tells_digits number_of weighs_digits

digits_of_step : (d : ℕ) (ds : List ℕ) → is_digit d ≡ true → digits_of (d ∷ ds) ≡ d ∷ digits_of ds
digits_of_step d ds h = rw (take_while-cons, h) refl

-- the digits of a run of digits, and of what does not go on with one
pub digits_of-append : (ds rest : List ℕ) → list_all is_digit ds ≡ true → digits_of rest ≡ [] → digits_of (ds ++ rest) ≡ ds
digits_of-append [] rest all ends = ends
digits_of-append (d ∷ ds) rest all ends =
    let first = list_all_first is_digit d ds all in
    let more = digits_of-append ds rest (list_all_behind is_digit d ds all) ends in
    rw (digits_of_step d (ds ++ rest) first, more) refl

pub after_digits-append : (ds rest : List ℕ) → list_all is_digit ds ≡ true → digits_of rest ≡ [] → after_digits (ds ++ rest) ≡ rest
after_digits-append ds rest all ends = rw (digits_of-append ds rest all ends) (drop-append_seam ds rest)

canonical_by_first : (ds : List ℕ) → 0 < length ds → (get_or ds 0 0 ≡ 48 → length ds ≡ 1) → is_canonical ds ≡ true
canonical_by_first [] some lone = absurd (omega arith)
canonical_by_first (d ∷ []) some lone = refl
canonical_by_first (d ∷ e ∷ ds) some lone = grind (arith, nat_tests, lone)

lone_zero : (n : ℕ) → n < 2 ^ 64 → get_or (decimal n) 0 0 ≡ 48 → length (decimal n) ≡ 1
lone_zero zero fits h = rw (decimal_digit 0 (omega arith)) refl
lone_zero (suc n) fits h = let first = first_decimal (suc n) (omega arith) fits in absurd (omega arith)

is_canonical-decimal : (n : ℕ) → n < 2 ^ 64 → is_canonical (decimal n) ≡ true
is_canonical-decimal n fits = canonical_by_first (decimal n) (decimal_nonempty n fits) (lone_zero n fits)

-- a printed number is read back, where no digit follows
pub number_at-decimal : (most n : ℕ) (rest : List ℕ) → n < 2 ^ 64 → n ≤ most → digits_of rest ≡ [] → number_at most (decimal n ++ rest) ≡ Some n
number_at-decimal most n rest fits small ends =
    let run : digits_of (decimal n ++ rest) ≡ decimal n = digits_of-append (decimal n) rest (digits_decimal numerals n fits) ends in
    let value : number_of (decimal n) ≡ n = digits_value-decimal numerals n fits in
    rw (run, is_canonical-decimal n fits, value, le-leb n most small) refl
