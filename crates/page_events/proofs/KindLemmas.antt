-- Targets and names as the index compares them.
use Rattle.std.proofs.Common.{◌≡◌, ℕ, Bool, true, false, ◌&&◌, List, [], ◌∷◌, Option, None, Some, eqb, refl, sym, ap, ◌∙◌, arith}
use Rattle.std.proofs.lemmas.Bool.{eqb-true}
use Rattle.std.proofs.lemmas.Bool.Decides.{nat_tests}
use Rattle.std.proofs.lemmas.Map.Text.{is_eq-slice_cmp}
use Rattle.std.specs.BTreeMap.{is_at}
use Rattle.std.specs.Cmp.Lexicographic.{slice_cmp}
use Rattle.std.specs.Option.{option_cmp}
use Rattle.std.specs.Ordering.{is_eq, nat_cmp, ordering_then}
use Rattle.std.specs.Str.{bytes_eq}
use Rattle.std.specs.declared.cmp.Ordering.{Ordering}
use Rattle.std.specs.declared.cmp.Ordering.TheVariants.{Less, Equal, Greater}
use Rattle.page_parts.specs.Words.{same_bytes}
use Rattle.page_parts.specs.Listeners.{same_target}
use Rattle.page_events.specs.declared.listener.Kind.{Kind}
use Rattle.page_events.specs.Indexed.{kind_cmp}
use Rattle.page_events.specs.Seen.{target_at}

-- the order of numbers finds equal ones
pub number_same : (a b : ℕ) → is_eq (nat_cmp a b) ≡ eqb a b
number_same a b = grind (arith, nat_tests)

both : (a b : Ordering) → is_eq (ordering_then a b) ≡ (is_eq a && is_eq b)
both Less b = refl
both Equal b = refl
both Greater b = refl

bytes_same : (xs ys : List ℕ) → bytes_eq xs ys ≡ same_bytes xs ys
bytes_same [] [] = refl
bytes_same [] (y ∷ ys) = refl
bytes_same (x ∷ xs) [] = refl
bytes_same (x ∷ xs) (y ∷ ys) = ap (λ b. eqb x y && b) (bytes_same xs ys)

signal_same : (a b : Option ℕ) → is_eq (option_cmp nat_cmp a b) ≡ same_target (target_at a) (target_at b)
signal_same None None = refl
signal_same None (Some b) = refl
signal_same (Some a) None = refl
signal_same (Some a) (Some b) = number_same a b

-- what the index compares is the target and the name
pub kind_same : (a b : Option ℕ) (xs ys : List ℕ)
    → is_eq (ordering_then (option_cmp nat_cmp a b) (slice_cmp nat_cmp xs ys)) ≡ (same_target (target_at a) (target_at b) && same_bytes xs ys)
kind_same a b xs ys =
    both (option_cmp nat_cmp a b) (slice_cmp nat_cmp xs ys)
    ∙ ap (λ x. x && is_eq (slice_cmp nat_cmp xs ys)) (signal_same a b)
    ∙ ap (λ y. same_target (target_at a) (target_at b) && y) (is_eq-slice_cmp xs ys ∙ bytes_same xs ys)

first_true : (x y : Bool) → (x && y) ≡ true → x ≡ true
first_true true y h = refl
first_true false y h = h

second_true : (x y : Bool) → (x && y) ≡ true → y ≡ true
second_true true y h = h
second_true false y h = cc

same_signal : (a b : Option ℕ) → same_target (target_at a) (target_at b) ≡ true → a ≡ b
same_signal None None h = refl
same_signal None (Some b) h = cc
same_signal (Some a) None h = cc
same_signal (Some a) (Some b) h = ap (λ n. Some n) (eqb-true a b h)

same_name : (xs ys : List ℕ) → same_bytes xs ys ≡ true → xs ≡ ys
same_name [] [] h = refl
same_name [] (y ∷ ys) h = cc
same_name (x ∷ xs) [] h = cc
same_name (x ∷ xs) (y ∷ ys) h =
    let head : x ≡ y = eqb-true x y (first_true (eqb x y) (same_bytes xs ys) h) in
    let tail : xs ≡ ys = same_name xs ys (second_true (eqb x y) (same_bytes xs ys) h) in
    ap (λ z. z ∷ xs) head ∙ ap (λ zs. y ∷ zs) tail

module _ (a b : Option ℕ) (xs ys : List ℕ) (same : is_eq (ordering_then (option_cmp nat_cmp a b) (slice_cmp nat_cmp xs ys)) ≡ true) where
  tested : (same_target (target_at a) (target_at b) && same_bytes xs ys) ≡ true
  tested = sym (kind_same a b xs ys) ∙ same

  -- equal kinds have one signal and one name
  pub signal_is : a ≡ b
  signal_is = same_signal a b (first_true _ _ tested)

  pub name_is : xs ≡ ys
  name_is = same_name xs ys (second_true _ _ tested)

-- equal kinds compare alike
pub alike : (x y z : Kind) → is_at (kind_cmp x) y ≡ true → is_at (kind_cmp x) z ≡ is_at (kind_cmp y) z
alike x y z h =
    ap (λ s. is_eq (ordering_then (option_cmp nat_cmp s z.signal) (slice_cmp nat_cmp x.name.items z.name.items))) (signal_is x.signal y.signal x.name.items y.name.items h)
    ∙ ap (λ n. is_eq (ordering_then (option_cmp nat_cmp y.signal z.signal) (slice_cmp nat_cmp n z.name.items))) (name_is x.signal y.signal x.name.items y.name.items h)
