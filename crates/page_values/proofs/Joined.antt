-- Values in a row, their weight, their nesting, and whether they are plain.
use Rattle.std.proofs.Common.{◌≡◌, ℕ, ◌+◌, ◌<◌, ◌≤◌, max, Bool, List, [], ◌∷◌, ◌++◌, ap, ◌∙◌, refl, sym, subst, arith, true, false, inl, inr, Some, None, nat_le}
use Rattle.std.specs.Prelude.{◌&&◌, ◌⊎◌}
use Rattle.std.proofs.lemmas.Bool.Decides.{nat_tests}
use Rattle.page_types.specs.Values.{Values, no_values, with_value, items_of, values_of, ListValue, FunValue}
use Rattle.page_parts.specs.Kinds.{weight, all_weights, nesting, greatest_nesting, within_limits}
use Rattle.page_values.specs.Limits.{AreLight}
use Rattle.page_values.specs.Measured.{AreMeasured, IsJoined}
use Rattle.page_values.specs.Plain.{is_plain, are_plain}
use Rattle.page_values.specs.Seen.{seen, seen_all}
use Rattle.page_values.specs.declared.Value.{Value}
use Rattle.page_values.specs.declared.weighing.Measure.{Measure}

values_of-items_of : (vs : Values) → values_of (items_of vs) ≡ vs
values_of-items_of no_values = refl
values_of-items_of (with_value v vs) = ap (with_value v) (values_of-items_of vs)

pub seen_all-append : (xs ys : List Value) → values_of (items_of (seen_all xs) ++ items_of (seen_all ys)) ≡ seen_all (xs ++ ys)
seen_all-append [] ys = values_of-items_of (seen_all ys)
seen_all-append (x ∷ xs) ys = ap (with_value (seen x)) (seen_all-append xs ys)

all_weights-append : (xs ys : List Value) → all_weights (seen_all (xs ++ ys)) ≡ all_weights (seen_all xs) + all_weights (seen_all ys)
all_weights-append [] ys = omega arith
all_weights-append (x ∷ xs) ys = omega (arith, all_weights-append xs ys)

greatest_nesting-append : (xs ys : List Value) → greatest_nesting (seen_all (xs ++ ys)) ≡ max (greatest_nesting (seen_all xs)) (greatest_nesting (seen_all ys))
greatest_nesting-append [] ys = omega arith
greatest_nesting-append (x ∷ xs) ys = omega (arith, greatest_nesting-append xs ys)

and-assoc : (a b c : Bool) → (a && (b && c)) ≡ ((a && b) && c)
and-assoc true b c = refl
and-assoc false b c = refl

are_plain-append : (xs ys : List Value) → are_plain (seen_all (xs ++ ys)) ≡ (are_plain (seen_all xs) && are_plain (seen_all ys))
are_plain-append [] ys = refl
are_plain-append (x ∷ xs) ys = ap (λ b. is_plain (seen x) && b) (are_plain-append xs ys) ∙ and-assoc (is_plain (seen x)) (are_plain (seen_all xs)) (are_plain (seen_all ys))

-- items in a row are measured by what is kept of the first and of the others
measured-append : (xs ys : List Value) (weight nesting : ℕ) (plain : Bool) (old new : Measure)
    → AreMeasured (seen_all xs) old
    → weight ≡ all_weights (seen_all ys) → nesting ≡ greatest_nesting (seen_all ys) → plain ≡ are_plain (seen_all ys)
    → IsJoined old weight nesting plain new → AreMeasured (seen_all (xs ++ ys)) new
measured-append xs ys weight nesting plain old new m w n p j =
    let heavy = all_weights-append xs ys in
    let deep = greatest_nesting-append xs ys in
    record {
      light = (omega (arith, heavy, m.weight, j.fits), omega (arith, deep, m.light, j.flat));
      weight = omega (arith, heavy, m.weight, j.weight_is);
      nesting = omega (arith, deep, m.nesting, j.nesting_is);
      plain = j.plain_is ∙ rw (m.plain, p, are_plain-append xs ys) refl;
    }

and-true : (a : Bool) → a ≡ (a && true)
and-true true = refl
and-true false = refl

pub measured-push : (vs : Values) (xs : List Value) (x : Value) (old new : Measure) → AreMeasured vs old → seen_all xs ≡ vs
    → IsJoined old (weight (seen x)) (nesting (seen x)) (is_plain (seen x)) new → AreMeasured (seen_all (xs ++ x ∷ [])) new
measured-push vs xs x old new m e j =
    measured-append xs (x ∷ []) (weight (seen x)) (nesting (seen x)) (is_plain (seen x)) old new
    (subst (λ ws. AreMeasured ws old) (sym e) m) (omega arith) (omega arith) (and-true (is_plain (seen x))) j

pub measured-joined : (vs ws : Values) (xs ys : List Value) (old more new : Measure)
    → AreMeasured vs old → AreMeasured ws more → seen_all xs ≡ vs → seen_all ys ≡ ws
    → IsJoined old more.weight more.nesting more.plain new → AreMeasured (seen_all (xs ++ ys)) new
measured-joined vs ws xs ys old more new m n e f j =
    let others : AreMeasured (seen_all ys) more = subst (λ us. AreMeasured us more) (sym f) n in
    measured-append xs ys more.weight more.nesting more.plain old new (subst (λ us. AreMeasured us old) (sym e) m) others.weight others.nesting others.plain j

and-false : (a : Bool) → (a && false) ≡ false
and-false true = refl
and-false false = refl

all_weights-joined : (vs ws : Values) → all_weights (values_of (items_of vs ++ items_of ws)) ≡ all_weights vs + all_weights ws
all_weights-joined no_values ws = ap all_weights (values_of-items_of ws) ∙ omega arith
all_weights-joined (with_value v vs) ws = omega (arith, all_weights-joined vs ws)

greatest_nesting-joined : (vs ws : Values) → greatest_nesting ws ≤ greatest_nesting (values_of (items_of vs ++ items_of ws))
greatest_nesting-joined no_values ws = omega (arith, ap greatest_nesting (values_of-items_of ws))
greatest_nesting-joined (with_value v vs) ws = omega (arith, greatest_nesting-joined vs ws)

-- with one more item, and with more bound arguments: where what is kept of them says that they are too many
pub pushed-heavy : (vs : Values) (x : Value) (m : Measure) → AreMeasured vs m → (65535 < m.weight + weight (seen x)) ⊎ (63 < nesting (seen x))
    → within_limits (ListValue (values_of (items_of vs ++ seen x ∷ []))) ≡ None
pushed-heavy vs x m p (inl h) =
    let more : Values = with_value (seen x) no_values in
    let heavy : nat_le (1 + all_weights (values_of (items_of vs ++ seen x ∷ []))) 65536 ≡ false = grind (arith, nat_tests, all_weights-joined vs more, p.weight) in
    rw heavy refl
pushed-heavy vs x m p (inr h) =
    let more : Values = with_value (seen x) no_values in
    let deep : nat_le (1 + greatest_nesting (values_of (items_of vs ++ seen x ∷ []))) 64 ≡ false = grind (arith, nat_tests, greatest_nesting-joined vs more) in
    rw (deep, and-false) refl

pub bound-heavy : (f : ℕ) (vs ws : Values) (m n : Measure) → AreMeasured vs m → AreMeasured ws n → (65535 < m.weight + n.weight) ⊎ (63 < n.nesting)
    → within_limits (FunValue f (values_of (items_of vs ++ items_of ws))) ≡ None
bound-heavy f vs ws m n p q (inl h) =
    let heavy : nat_le (1 + all_weights (values_of (items_of vs ++ items_of ws))) 65536 ≡ false = grind (arith, nat_tests, all_weights-joined vs ws, p.weight, q.weight) in
    rw heavy refl
bound-heavy f vs ws m n p q (inr h) = absurd (omega (arith, h, q.nesting, q.light))

pub list-light : (vs : Values) → AreLight vs → within_limits (ListValue vs) ≡ Some (ListValue vs)
list-light vs p =
    let light : nat_le (1 + all_weights vs) 65536 ≡ true = grind (arith, nat_tests) in
    let flat : nat_le (1 + greatest_nesting vs) 64 ≡ true = grind (arith, nat_tests) in
    rw (light, flat) refl

pub bound-light : (f : ℕ) (vs : Values) → AreLight vs → within_limits (FunValue f vs) ≡ Some (FunValue f vs)
bound-light f vs p =
    let light : nat_le (1 + all_weights vs) 65536 ≡ true = grind (arith, nat_tests) in
    let flat : nat_le (1 + greatest_nesting vs) 64 ≡ true = grind (arith, nat_tests) in
    rw (light, flat) refl
