-- Canonical decimals, read and written.
use Rattle.std.proofs.Common.{◌≡◌, ℕ, zero, suc, ◌+◌, ◌/◌, ◌%◌, ◌^◌, ◌<◌, ◌≤◌, Bool, true, false, cond, not, ◌&&◌, List, [], ◌∷◌, ◌++◌, length, drop, get_or, Some, None, refl, ap, sym, subst, ◌∙◌, arith, eqb, nat_le, nat_lt, append-nil}
use Rattle.std.specs.Prelude.{FitsSigned, ℤ, pos, negsuc, codes}
use Rattle.std.specs.Int.{w64}
use Rattle.std.specs.Fmt.{decimal}
use Rattle.std.specs.List.{list_all}
use Rattle.std.specs.Option.{option_map}
use Rattle.std.proofs.lemmas.Bool.{eq-eqb}
use Rattle.std.proofs.lemmas.Bool.Decides.{nat_tests}
use Rattle.std.proofs.lemmas.Fmt.{digits_decimal, decimal-digits_value}
use Rattle.std.proofs.lemmas.List.Sums.{take_while-cons}
use Rattle.page_base.proofs.Numbers.{list_all-take_while, list_all_first, list_all_behind}
use Rattle.page_base.proofs.Printed.{numerals, number_at-decimal, after_digits-append}
use Rattle.page_base.specs.Decimals.{is_digit, digits_of, after_digits, number_of, number_at, is_canonical}
use Rattle.page_parts.specs.Words.{decimal_of, int_decimal, is_empty}
use Rattle.page_base.specs.Fields.{◌>>=◌, where_true, behind}
use Rattle.trace_text.specs.LineReading.{number_in, count_at, int_at, negative}
use Rattle.trace_text.specs.Trace.{IsCount}
use Rattle.page_values.proofs.OneDecimal.{decimal_is}
use Rattle.trace_text.proofs.Cutting.{lacks, some_then, map_then, or_then}

all_digits : (n : ℕ) → IsCount n → list_all is_digit (decimal_of n) ≡ true
all_digits n h = ap (list_all is_digit) (decimal_is n h) ∙ digits_decimal numerals n h

-- ---- what is no digit

no_digit : (byte b : ℕ) → byte < 48 → is_digit b ≡ true → not (eqb b byte) ≡ true
no_digit byte b small is = grind (arith, nat_tests)

joined : (a b : Bool) → a ≡ true → b ≡ true → (a && b) ≡ true
joined a b h k = rw (h, k) refl

pub lacks-digits : (byte : ℕ) → byte < 48 → (ds : List ℕ) → list_all is_digit ds ≡ true → lacks byte ds ≡ true
lacks-digits byte small [] all = refl
lacks-digits byte small (d ∷ ds) all =
    joined (not (eqb d byte)) (lacks byte ds) (no_digit byte d small (list_all_first is_digit d ds all)) (lacks-digits byte small ds (list_all_behind is_digit d ds all))

pub lacks-decimal : (byte n : ℕ) → byte < 48 → IsCount n → lacks byte (decimal_of n) ≡ true
lacks-decimal byte n small h = lacks-digits byte small (decimal_of n) (all_digits n h)

-- ---- numbers that are read

run_step : (b : ℕ) (bs : List ℕ) (t : Bool) → is_digit b ≡ t → (is_empty (after_digits bs) ≡ true → bs ≡ digits_of bs)
    → is_empty (drop (length (cond t (b ∷ digits_of bs) [])) (b ∷ bs)) ≡ true → b ∷ bs ≡ cond t (b ∷ digits_of bs) []
run_step b bs true is more none = ap (λ xs. b ∷ xs) (more none)
run_step b bs false is more none = cc

run_is : (bytes : List ℕ) → is_empty (after_digits bytes) ≡ true → bytes ≡ digits_of bytes
run_is [] none = refl
run_is (b ∷ bs) none =
    let cons = take_while-cons is_digit b bs in
    run_step b bs (is_digit b) refl (run_is bs) (sym (ap (λ ds. is_empty (drop (length ds) (b ∷ bs))) cons) ∙ none) ∙ sym cons

some_digit : (ds : List ℕ) → is_canonical ds ≡ true → 0 < length ds
some_digit [] h = absurd cc
some_digit (d ∷ ds) h = omega arith

lone_zero : (ds : List ℕ) → is_canonical ds ≡ true → get_or ds 0 0 ≡ 48 → length ds ≡ 1
lone_zero [] h z = absurd cc
lone_zero (d ∷ []) h z = refl
lone_zero (d ∷ e ∷ ds) h z = let same : eqb d 48 ≡ true = eq-eqb d 48 z in grind (arith, nat_tests)

canonical_is : (ds : List ℕ) → list_all is_digit ds ≡ true → is_canonical ds ≡ true → IsCount (number_of ds) → ds ≡ decimal_of (number_of ds)
canonical_is ds all one h = sym (decimal_is (number_of ds) h ∙ decimal-digits_value numerals ds all (some_digit ds one) (lone_zero ds one) h)

read_by : (most n : ℕ) (bytes : List ℕ) (one small none : Bool) → is_canonical (digits_of bytes) ≡ one → nat_le (number_of (digits_of bytes)) most ≡ small → is_empty (after_digits bytes) ≡ none
    → (cond (one && small) (Some (number_of (digits_of bytes))) None >>= λ n. where_true none n) ≡ Some n → most < 2 ^ 64 → (n ≤ most) × (bytes ≡ decimal_of n)
read_by most n bytes true true true one small none is limit =
    let e : number_of (digits_of bytes) ≡ n = cc in
    let le : number_of (digits_of bytes) ≤ most = grind (arith, nat_tests) in (
      subst (λ n. n ≤ most) e le,
      run_is bytes none ∙ canonical_is (digits_of bytes) (list_all-take_while is_digit bytes) one (omega (arith, le, limit)) ∙ ap decimal_of e,
    )
read_by most n bytes true true false one small none is limit = absurd cc
read_by most n bytes true false empty one small none is limit = absurd cc
read_by most n bytes false below empty one small none is limit = absurd cc

pub number_sound : (most n : ℕ) (bytes : List ℕ) → number_in most bytes ≡ Some n → most < 2 ^ 64 → (n ≤ most) × (bytes ≡ decimal_of n)
unfolding number_in
number_sound most n bytes is limit = read_by most n bytes (is_canonical (digits_of bytes)) (nat_le (number_of (digits_of bytes)) most) (is_empty (after_digits bytes)) refl refl refl is limit

number_reads : (most n : ℕ) (bytes : List ℕ) → bytes ≡ decimal n → n ≤ most → IsCount n → number_in most bytes ≡ Some n
unfolding number_in
number_reads most n bytes is le h =
    let whole : bytes ≡ decimal n ++ [] = is ∙ sym (append-nil (decimal n)) in
    let value : number_at most bytes ≡ Some n = ap (number_at most) whole ∙ number_at-decimal most n [] h le refl in
    let none : is_empty (after_digits bytes) ≡ true = ap (λ bs. is_empty (after_digits bs)) whole ∙ ap is_empty (after_digits-append (decimal n) [] (digits_decimal numerals n h) refl) in
    rw (value, none) refl

pub number_complete : (most n : ℕ) → n ≤ most → IsCount n → number_in most (decimal_of n) ≡ Some n
number_complete most n le h = number_reads most n (decimal_of n) (decimal_is n h) le h

pub count_sound : (n : ℕ) (bytes : List ℕ) → count_at bytes ≡ Some n → IsCount n × (bytes ≡ decimal_of n)
unfolding count_at
count_sound n bytes is = let read = number_sound 18446744073709551615 n bytes is (omega arith) in (omega (arith, read.0), read.1)

pub count_complete : (n : ℕ) → IsCount n → count_at (decimal_of n) ≡ Some n
unfolding count_at
count_complete n h = number_complete 18446744073709551615 n (omega (arith, h)) h

-- ---- integers

abbrev Integer : ℤ → List ℕ → Type 0
Integer z bytes = FitsSigned w64 z × (bytes ≡ int_decimal z)

below : (z : ℤ) (n : ℕ) → negative n ≡ Some z → n ≤ 9223372036854775808 → (rest : List ℕ) → rest ≡ decimal_of n → Integer z (codes "-" ++ rest)
below z zero is le rest text = absurd cc
below z (suc n) is le rest text =
    let e : negsuc n ≡ z = cc in
    subst (λ z. Integer z (codes "-" ++ rest)) e (omega (arith, le), ap (λ xs. 45 ∷ xs) text)

pub int_sound : (z : ℤ) (bytes : List ℕ) → int_at bytes ≡ Some z → Integer z bytes
unfolding int_at
int_sound z bytes is =
    or_then (Integer z) (codes "-") bytes (λ digits. number_in 9223372036854775808 digits >>= negative) (option_map pos (number_in 9223372036854775807 bytes)) z is
    (λ rest e.
    some_then (Integer z (codes "-" ++ rest)) (number_in 9223372036854775808 rest) negative z e
    (λ n o e. let read = number_sound 9223372036854775808 n rest o (omega arith) in below z n e read.0 rest read.1))
    (λ e.
    map_then (Integer z bytes) (number_in 9223372036854775807 bytes) pos z e
    (λ n o e. let read = number_sound 9223372036854775807 n bytes o (omega arith) in subst (λ z. Integer z bytes) e (omega (arith, read.0), read.1)))

no_sign : (bytes : List ℕ) → lacks 45 bytes ≡ true → behind (codes "-") bytes ≡ None
unfolding behind
no_sign [] free = refl
no_sign (b ∷ bytes) free = let other : eqb b 45 ≡ false = grind (arith, nat_tests) in rw other refl

plain_reads : (n : ℕ) (bytes : List ℕ) → lacks 45 bytes ≡ true → number_in 9223372036854775807 bytes ≡ Some n → int_at bytes ≡ Some (pos n)
unfolding int_at
plain_reads n bytes free is = rw (no_sign bytes free, is) refl

below_reads : (n : ℕ) (bytes : List ℕ) → number_in 9223372036854775808 bytes ≡ Some (suc n) → int_at (45 ∷ bytes) ≡ Some (negsuc n)
unfolding int_at behind
below_reads n bytes is = rw is refl

pub int_complete : (z : ℤ) → FitsSigned w64 z → int_at (int_decimal z) ≡ Some z
int_complete (pos n) h = plain_reads n (decimal_of n) (lacks-decimal 45 n (omega arith) (omega (arith, h))) (number_complete 9223372036854775807 n (omega (arith, h)) (omega (arith, h)))
int_complete (negsuc n) h = below_reads n (decimal_of (suc n)) (number_complete 9223372036854775808 (suc n) (omega (arith, h)) (omega (arith, h)))

pub lacks-int : (byte : ℕ) (z : ℤ) → byte < 45 → FitsSigned w64 z → lacks byte (int_decimal z) ≡ true
lacks-int byte (pos n) small h = lacks-decimal byte n (omega (arith, small)) (omega (arith, h))
lacks-int byte (negsuc n) small h = joined (not (eqb 45 byte)) (lacks byte (decimal_of (suc n))) (grind (arith, nat_tests)) (lacks-decimal byte (suc n) (omega (arith, small)) (omega (arith, h)))
