-- Lists that are too heavy, or nest too deep.
use Rattle.std.proofs.Common.{◌≡◌, ℕ, ◌+◌, ◌<◌, ◌≤◌, arith, List, [], ◌∷◌, ◌++◌, Bool, true, false, cond, ◌&&◌, refl, ap, sym, ◌∙◌, inl, inr, ◌⊎◌, subst}
use Rattle.std.specs.Prelude.{Option, Some, None, nat_le, Result, Ok, Err, IsErrAnd}
use Rattle.std.proofs.lemmas.Bool.{leb-false, lt-leb}
use Rattle.page_types.specs.Values.{Value, ListValue, values_of}
use Rattle.page_values.specs.declared.Value as Made
use Rattle.page_values.specs.declared.faults.ValueFault.{ValueFault}
use Rattle.page_values.specs.declared.faults.ValueFault.TheVariants.{Is, OutOfMemory}
use Rattle.page_values.specs.Made.{IsMade}
use Rattle.promise_combine.specs.Answers.{IsItem, IsRefusal}
use Rattle.page_parts.specs.Kinds.{weight, all_weights, nesting, greatest_nesting, within_limits}

all_weights-append : (xs ys : List Value) → all_weights (values_of (xs ++ ys)) ≡ all_weights (values_of xs) + all_weights (values_of ys)
all_weights-append [] ys = omega arith
all_weights-append (x ∷ xs) ys = omega (arith, all_weights-append xs ys)

pub all_weights-last : (xs : List Value) (v : Value) → all_weights (values_of (xs ++ v ∷ [])) ≡ all_weights (values_of xs) + weight v
all_weights-last xs v = omega (arith, all_weights-append xs (v ∷ []))

nesting-part : (xs ys : List Value) (v : Value) → nesting v ≤ greatest_nesting (values_of (xs ++ v ∷ ys))
nesting-part [] ys v = omega arith
nesting-part (x ∷ xs) ys v = omega (arith, nesting-part xs ys v)

heavy : (v : Value) → 65536 < weight v → within_limits v ≡ None
heavy v h =
    ap (λ b. cond (b && nat_le (nesting v) 64) (Some v) None) (lt-leb (weight v) 65536 h)

deep : (v : Value) → 64 < nesting v → within_limits v ≡ None
deep v h =
    ap (λ b. cond (nat_le (weight v) 65536 && b) (Some v) None) (lt-leb (nesting v) 64 h) ∙ none (nat_le (weight v) 65536)
  where
    none : (b : Bool) → cond (b && false) (Some v) None ≡ None
    none true = refl
    none false = refl

-- with this item the list is too heavy already
pub heavy-front : (xs ys : List Value) (v : Value) → 65535 < all_weights (values_of xs) + weight v → within_limits (ListValue (values_of (xs ++ v ∷ ys))) ≡ None
heavy-front xs ys v h = heavy (ListValue (values_of (xs ++ v ∷ ys))) (omega (arith, h, all_weights-append xs (v ∷ ys)))

refused : (v : Value) → within_limits v ≡ None → (65536 < weight v) ⊎ (64 < nesting v)
refused v h = by_tests (nat_le (weight v) 65536) (nat_le (nesting v) 64) refl refl h
  where
    by_tests : (a b : Bool) → nat_le (weight v) 65536 ≡ a → nat_le (nesting v) 64 ≡ b → cond (a && b) (Some v) None ≡ None → (65536 < weight v) ⊎ (64 < nesting v)
    by_tests true true p q none = cc
    by_tests true false p q none = inr (leb-false (nesting v) 64 q)
    by_tests false b p q none = inl (leb-false (weight v) 65536 p)

-- an item that is refused itself is refused in any list
pub heavy-part : (xs ys : List Value) (v : Value) → within_limits v ≡ None → within_limits (ListValue (values_of (xs ++ v ∷ ys))) ≡ None
heavy-part xs ys v h =
    elim (refused v h) [
      | inl w ↦ heavy-front xs ys v (omega (arith, w))
      | inr n ↦ deep (ListValue (values_of (xs ++ v ∷ ys))) (omega (arith, n, nesting-part xs ys v))
    ]

-- the refusal of an item is that of the list
pub refused_list : (made : Result Made.Value ValueFault) (fault : ValueFault) (room : ℕ) (item : Value) (wanted : Option Value) → IsErrAnd made (λ e. e ≡ fault) → IsRefusal {T = Unit {0}} (Err fault) room item
    → ((within_limits item ≡ None) ⊎ (room < weight item) → wanted ≡ None) → IsMade made wanted
refused_list (Ok v) fault room item wanted e h k = absurd e
refused_list (Err (Is told)) fault room item wanted e h k = let P : ValueFault → Type 0 = λ f. IsRefusal {T = Unit {0}} (Err f) room item in k (subst P (sym e) h)
refused_list (Err OutOfMemory) fault room item wanted e h k = tt

-- an item that cannot be made is refused in any room
pub refused_item : {T : Type 0} (made : Result T ValueFault) (fault : ValueFault) (room : ℕ) (item : Value) → IsErrAnd made (λ e. e ≡ fault) → IsItem (Err fault) item → IsRefusal made room item
refused_item (Ok x) fault room item e h = absurd e
refused_item (Err (Is told)) fault room item e h = let P : ValueFault → Type 0 = λ f. IsItem (Err f) item in inl (subst P (sym e) h)
refused_item (Err OutOfMemory) fault room item e h = tt
