-- Distinct names, one name after the other.
use Rattle.std.proofs.Common.{◌≡◌, ℕ, ◌+◌, List, [], ◌∷◌, ◌++◌, length, Vec, Global, refl, sym, ap, ◌∙◌, subst, arith}
use Rattle.std.specs.Prelude.{Bool, true, false, cond, not, ◌&&◌, ◌||◌, ◌==◌, nat_eq, if◌then◌else◌}
use Rattle.std.specs.List.{list_any}
use Rattle.std.specs.Cmp.Lexicographic.{pointwise}
use Rattle.std.proofs.lemmas.Bool.Decides.{nat_tests}
use Rattle.page_parts.specs.Words.{same_bytes}
use Rattle.page_values.proofs.Lists.{same_bytes-pointwise}
use Rattle.lang_place.specs.NameSets.{has_name, distinct, HoldsNames}

and_left : (a b : Bool) → (a && b) ≡ true → a ≡ true
and_left true b e = refl
and_left false b e = e

and_right : (a b : Bool) → (a && b) ≡ true → b ≡ true
and_right true b e = e
and_right false b e = absurd (clash e)
  where
    clash : false ≡ true → ⊥
    clash f = let P : Bool → Type 0 = λ b. elim b [ true ↦ ⊥ | false ↦ Unit {0} ] in subst P f tt

num_same : (a b : ℕ) → (a == b) ≡ true → a ≡ b
num_same a b e = grind (arith, nat_tests)

bytes_same : (xs ys : List ℕ) → same_bytes xs ys ≡ true → xs ≡ ys
bytes_same [] [] e = refl
bytes_same [] (y ∷ ys) e = absurd (no_way e)
  where
    no_way : false ≡ true → ⊥
    no_way f = let P : Bool → Type 0 = λ b. elim b [ true ↦ ⊥ | false ↦ Unit {0} ] in subst P f tt
bytes_same (x ∷ xs) [] e = absurd (no_way e)
  where
    no_way : false ≡ true → ⊥
    no_way f = let P : Bool → Type 0 = λ b. elim b [ true ↦ ⊥ | false ↦ Unit {0} ] in subst P f tt
bytes_same (x ∷ xs) (y ∷ ys) e =
    ap (λ z. z ∷ xs) (num_same x y (and_left (x == y) (same_bytes xs ys) e)) ∙ ap (λ zs. y ∷ zs) (bytes_same xs ys (and_right (x == y) (same_bytes xs ys) e))

num_flip : (a b : ℕ) → (a == b) ≡ (b == a)
num_flip a b = grind (arith, nat_tests)

bytes_flip : (xs ys : List ℕ) → same_bytes xs ys ≡ same_bytes ys xs
bytes_flip [] [] = refl
bytes_flip [] (y ∷ ys) = refl
bytes_flip (x ∷ xs) [] = refl
bytes_flip (x ∷ xs) (y ∷ ys) = ap (λ b. b && same_bytes xs ys) (num_flip x y) ∙ ap (λ b. (y == x) && b) (bytes_flip xs ys)

or_false : (a : Bool) → (a || false) ≡ a
or_false true = refl
or_false false = refl

or_assoc : (a b c : Bool) → (a || (b || c)) ≡ ((a || b) || c)
or_assoc true b c = refl
or_assoc false b c = refl

has_push : (xs : List (List ℕ)) (x q : List ℕ) → has_name (xs ++ x ∷ []) q ≡ (has_name xs q || same_bytes x q)
has_push [] x q = or_false (same_bytes x q)
has_push (y ∷ ys) x q = ap (λ b. same_bytes y q || b) (has_push ys x q) ∙ or_assoc (same_bytes y q) (has_name ys q) (same_bytes x q)

abbrev one_if : Bool → ℕ
one_if b = if b then 1 else 0

-- whether a name is new, in numbers: a, y is there; b, y is x; c, x is there
counted : (a b c : Bool) (d e : ℕ) (ys zs : List (List ℕ)) (y : List ℕ) → length ys ≡ d → length zs ≡ d + one_if (not c) → (b ≡ true → a ≡ c) →
    length (cond (a || b) zs (y ∷ zs)) ≡ length (cond a ys (y ∷ ys)) + one_if (not (b || c))
counted true true true d e ys zs y p q same = omega (arith, p, q)
counted true true false d e ys zs y p q same = absurd (let h = same refl in tf h)
  where
    tf : true ≡ false → ⊥
    tf f = let P : Bool → Type 0 = λ b. elim b [ true ↦ Unit {0} | false ↦ ⊥ ] in subst P f tt
counted true false true d e ys zs y p q same = omega (arith, p, q)
counted true false false d e ys zs y p q same = omega (arith, p, q)
counted false true true d e ys zs y p q same = absurd (let h = same refl in ft h)
  where
    ft : false ≡ true → ⊥
    ft f = let P : Bool → Type 0 = λ b. elim b [ true ↦ ⊥ | false ↦ Unit {0} ] in subst P f tt
counted false true false d e ys zs y p q same = omega (arith, p, q)
counted false false true d e ys zs y p q same = omega (arith, p, q)
counted false false false d e ys zs y p q same = omega (arith, p, q)

distinct_push : (xs : List (List ℕ)) (x : List ℕ) → length (distinct (xs ++ x ∷ [])) ≡ length (distinct xs) + one_if (not (has_name xs x))
distinct_push [] x = refl
distinct_push (y ∷ ys) x =
    ap (λ t. length (cond t (distinct (ys ++ x ∷ [])) (y ∷ distinct (ys ++ x ∷ [])))) (has_push ys x y)
    ∙ counted (has_name ys y) (same_bytes x y) (has_name ys x) (length (distinct ys)) 0 (distinct ys) (distinct (ys ++ x ∷ [])) y refl (distinct_push ys x) (λ h. ap (has_name ys) (sym (bytes_same x y h)))
    ∙ ap (λ t. length (cond (has_name ys y) (distinct ys) (y ∷ distinct ys)) + one_if (not (t || has_name ys x))) (bytes_flip x y)

cond_or : (a b : Bool) → cond a true b ≡ (b || a)
cond_or true true = refl
cond_or true false = refl
cond_or false true = refl
cond_or false false = refl

-- one name more in the set
pub holds_more : (keys new : List (Vec ℕ Global)) (key : Vec ℕ Global) (xs : List (List ℕ)) (added : Bool) → HoldsNames keys xs →
    added ≡ not (list_any (λ k. pointwise nat_eq key.items k.items) keys) →
    ((q : Vec ℕ Global) → list_any (λ k. pointwise nat_eq q.items k.items) new ≡ cond (pointwise nat_eq key.items q.items) true (list_any (λ k. pointwise nat_eq q.items k.items) keys)) →
    length new ≡ length keys + one_if added → HoldsNames new (xs ++ key.items ∷ [])
holds_more keys new key xs added h is has len = record {
  members = λ q. has q ∙ ap (λ t. cond (pointwise nat_eq key.items q.items) true t) (h.members q) ∙ ap (λ t. cond t true (has_name xs q.items)) (same_bytes-pointwise key.items q.items)
      ∙ cond_or (same_bytes key.items q.items) (has_name xs q.items) ∙ sym (has_push xs key.items q.items);
  count = len ∙ ap (λ n. n + one_if added) h.count ∙ ap (λ t. length (distinct xs) + one_if t) (is ∙ ap not (h.members key)) ∙ sym (distinct_push xs key.items);
}
