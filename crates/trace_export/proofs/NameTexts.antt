-- The name of a call is a text.
use Rattle.std.proofs.Common.{◌≡◌, ℕ, zero, suc, ◌+◌, ◌*◌, ◌^◌, ◌/◌, ◌%◌, ◌<◌, Bool, true, false, [], ◌∷◌, Option, Some, None, refl, sym, ap, ◌∙◌, arith, nat_lt, add-one}
use Rattle.std.specs.Prelude.{IsTrue, ◌==◌, codes, if◌then◌else◌}
use Rattle.std.proofs.Math.Nat.{pow-succ'}
use Rattle.std.proofs.lemmas.Bool.Decides.{nat_tests}
use Rattle.page_types.specs.declared.RegKind.{RegKind}
use Rattle.page_types.specs.declared.RegKind.TheVariants.{Timeout, Interval, Frame, Idle, Post, Yield, Host, Listener, Then, Micro, Signal}
use Rattle.page_parts.specs.Words.{digits, digit_or_more, decimal_of}
use Rattle.page_parts.specs.TraceText.{kind_text}
use Rattle.page_parts.proofs.Decimals.{below-own_power}
use Rattle.page_values.specs.Texts.{is_text}
use Rattle.page_values.proofs.Texts.{is_text-append}
use Rattle.trace_export.specs.Calls.{word_of, call_word_of, name_of}

digit_text : (n : ℕ) → n < 10 → IsTrue (is_text ((48 + n) ∷ []))
digit_text n h = grind (arith, nat_tests)

fewer : (most n : ℕ) → n < 10 ^ (suc most + 1) → n / 10 < 10 ^ (most + 1)
fewer most n h =
    let e : 10 ^ (suc most + 1) ≡ 10 * 10 ^ (most + 1) = ap (λ k. 10 ^ k) (add-one (suc most)) ∙ pow-succ' 10 (suc most) ∙ ap (λ k. 10 * 10 ^ k) (sym (add-one most)) in
    omega (arith, e)

digits_by : (small : Bool) (most n : ℕ) → nat_lt n 10 ≡ small → (n / 10 < 10 ^ (most + 1) → IsTrue (is_text (digits most (n / 10)))) → n < 10 ^ (suc most + 1)
    → IsTrue (is_text (digit_or_more small (digits most) n))
digits_by true most n is before h = digit_text n (grind (arith, nat_tests))
digits_by false most n is before h = is_text-append (digits most (n / 10)) ((48 + n % 10) ∷ []) (before (fewer most n h)) (digit_text (n % 10) (omega arith))

digits_text : (most n : ℕ) → n < 10 ^ (most + 1) → IsTrue (is_text (digits most n))
digits_text zero n h = digit_text n (omega arith)
digits_text (suc most) n h = digits_by (nat_lt n 10) most n refl (digits_text most (n / 10)) h

pub decimal_text : (n : ℕ) → IsTrue (is_text (decimal_of n))
decimal_text n = digits_text n n (below-own_power n)

kind_word_text : (kind : RegKind) → IsTrue (is_text (kind_text kind))
kind_word_text Timeout = refl
kind_word_text Interval = refl
kind_word_text Frame = refl
kind_word_text Idle = refl
kind_word_text Post = refl
kind_word_text Yield = refl
kind_word_text Host = refl
kind_word_text Listener = refl
kind_word_text Then = refl
kind_word_text Micro = refl
kind_word_text Signal = refl

word_text : (kind : Option RegKind) → IsTrue (is_text (word_of kind))
word_text None = refl
word_text (Some kind) = kind_word_text kind

call_word_by : (script : Bool) (kind : Option RegKind) → IsTrue (is_text (if script then codes "script" else word_of kind))
call_word_by true kind = refl
call_word_by false kind = word_text kind

pub name_text : (registration : ℕ) (kind : Option RegKind) → IsTrue (is_text (name_of registration kind))
name_text registration kind =
    is_text-append (call_word_of registration kind) (32 ∷ decimal_of registration) (call_word_by (registration == 1) kind) (decimal_text registration)
