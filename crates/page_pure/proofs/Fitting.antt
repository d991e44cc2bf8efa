-- A list with one more item: what it weighs, how deep it nests, and when it is within the limits.
use Rattle.std.proofs.Common.{◌≡◌, ◌+◌, ◌≤◌, max, Bool, true, false, Some, None, refl, arith, nat_le, if◌then◌else◌}
use Rattle.std.specs.Prelude.{◌&&◌, Ok}
use Rattle.std.proofs.lemmas.Bool.Decides.{nat_tests}
use Rattle.page_types.specs.declared.FaultName.TheVariants.{RangeError}
use Rattle.page_types.specs.Values.{Value, ListValue, Values, no_values, with_value, items_of, values_of}
use Rattle.page_parts.specs.Words.{and_last}
use Rattle.page_parts.specs.Kinds.{weight, all_weights, nesting, greatest_nesting}
use Rattle.lang_meaning.specs.Evaluation.{need}
use Rattle.lang_meaning.specs.PureOperations.{push_answer}
use Rattle.page_pure.specs.ValueAnswers.{IsValue}

weight-last : (vs : Values) (v : Value) → all_weights (values_of (and_last (items_of vs) v)) ≡ all_weights vs + weight v
weight-last no_values v = omega arith
weight-last (with_value w vs) v = omega (arith, weight-last vs v)

nesting-last : (vs : Values) (v : Value) → greatest_nesting (values_of (and_last (items_of vs) v)) ≡ max (greatest_nesting vs) (nesting v)
nesting-last no_values v = omega arith
nesting-last (with_value w vs) v = omega (arith, nesting-last vs v)

-- a value that is wanted only where both tests hold
both-hold : (a b : Bool) (v : Value) → IsValue (need (if a && b then Some v else None) RangeError Ok) → (a ≡ true) × (b ≡ true)
both-hold true true v h = (refl, refl)
both-hold true false v h = absurd (cc)
both-hold false b v h = absurd (cc)

pub push-fits : (l : Value) (vs : Values) (v : Value) → l ≡ ListValue vs → weight l + weight v ≤ 65536 → max (nesting l) (1 + nesting v) ≤ 64 → IsValue (push_answer l v)
push-fits (ListValue vs) _ v e light flat =
    let more : Value = ListValue (values_of (and_last (items_of vs) v)) in
    let is_light : nat_le (weight more) 65536 ≡ true = grind (arith, nat_tests, weight-last vs v) in
    let is_flat : nat_le (nesting more) 64 ≡ true = grind (arith, nat_tests, nesting-last vs v) in
    (more, rw (is_light, is_flat) refl)
push-fits l vs v e light flat = absurd (cc)

pub push-light : (l v : Value) → IsValue (push_answer l v) → weight l + weight v ≤ 65536
push-light (ListValue vs) v h =
    let more : Value = ListValue (values_of (and_last (items_of vs) v)) in
    let is_light = (both-hold (nat_le (weight more) 65536) (nat_le (nesting more) 64) more h).0 in
    grind (arith, nat_tests, weight-last vs v, is_light)
push-light l v h = absurd (cc)

pub push-flat : (l v : Value) → IsValue (push_answer l v) → max (nesting l) (1 + nesting v) ≤ 64
push-flat (ListValue vs) v h =
    let more : Value = ListValue (values_of (and_last (items_of vs) v)) in
    let is_flat = (both-hold (nat_le (weight more) 65536) (nat_le (nesting more) 64) more h).1 in
    grind (arith, nat_tests, nesting-last vs v, is_flat)
push-flat l v h = absurd (cc)
