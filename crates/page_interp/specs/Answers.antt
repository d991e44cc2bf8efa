-- What the operators answer.
use Rattle.std.specs.Prelude.{◌≡◌, ◌++◌, ℕ, List, if◌then◌else◌, ℤ, ◌+ℤ◌, ◌-ℤ◌, ◌*ℤ◌, int_div, int_rem, Option, Some, None, Result, Ok, ⊤}
use Rattle.page_types.specs.Values as Model
use Rattle.page_types.specs.Values.{TextValue}
use Rattle.page_types.specs.declared.FaultName.TheVariants.{TypeError, RangeError}
use Rattle.page_parts.specs.Kinds.{text_in}
use Rattle.page_values.specs.declared.Value.{Value}
use Rattle.page_values.specs.declared.ValueFault.{ValueFault}
use Rattle.page_values.specs.Made.{IsMade}
use Rattle.page_types.specs.declared.SumSign.{SumSign}
use Rattle.page_types.specs.declared.SumSign.TheVariants.{Plus, Minus}
use Rattle.page_types.specs.declared.ProductSign.{ProductSign}
use Rattle.page_types.specs.declared.ProductSign.TheVariants.{Times, Divide, Remainder}
use Rattle.lang_meaning.specs.Evaluation.{Answer, fits, divides, need, both_ints, int_answer, limited_value}
use Rattle.page_interp.specs.declared.exit.Exit.{Exit}
use Rattle.page_interp.specs.Runs.{Left, ends, refused, no_memory, answer_left, exit_left}

-- this is left with the answer, or for want of memory
abbrev pub Answers : {S : Type 0} → Left S → Answer → Type 0
Answers {S} (ends e) r = ◌≡◌ {A = Left S} (ends e) (answer_left r)
Answers (refused stop) r = ⊥
Answers no_memory r = ⊤

abbrev pub int_sum : SumSign → (x y : ℤ) → ℤ
int_sum Plus x y = x +ℤ y
int_sum Minus x y = x -ℤ y

-- a product, a quotient or a remainder, where it is an integer of 64 bits
abbrev pub int_product : ProductSign → (x y : ℤ) → Option ℤ
int_product Times x y = if fits (x *ℤ y) then Some (x *ℤ y) else None
int_product Divide x y = if divides x y then Some (int_div x y) else None
int_product Remainder x y = if divides x y then Some (int_rem x y) else None

-- a value that was made is left, or RangeError where it is too heavy
abbrev pub MadeGives : {S : Type 0} → Result Value ValueFault → Left S → Type 0
MadeGives made l =
    (wanted : Option Model.Value) → IsMade made wanted → Answers l (need wanted RangeError Ok)

-- both values are integers, and these are they
abbrev pub AreInts : (a b : Model.Value) → ℤ × ℤ → Type 0
AreInts a b p = (next : ℤ → ℤ → Answer) → both_ints a b next ≡ next p.0 p.1

-- one of the values is no integer, and this is how that is left
abbrev pub AreNoInts : {S : Type 0} → (a b : Model.Value) → Exit S → Type 0
AreNoInts a b x = (next : ℤ → ℤ → Answer) → Answers (exit_left x) (both_ints a b next)

-- a text and another value in a row
abbrev pub text_answer : List ℕ → Model.Value → Answer
text_answer a b = need (text_in b) TypeError (λ bs. limited_value (TextValue (a ++ bs)))

-- the sum or the difference of two integers
abbrev pub int_sum_answer : SumSign → (a b : Model.Value) → Answer
int_sum_answer sign a b = both_ints a b (λ x y. int_answer (int_sum sign x y))
