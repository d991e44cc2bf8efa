-- Algorithms as the keys of their items.
use Rattle.std.proofs.Common.{◌≡◌, ℕ, ◌≤◌, Bool, true, false, cond, List, [], ◌∷◌, map, length, suc, eqb, refl, ap, arith}
use Rattle.std.specs.Map.{values_of}
use Rattle.page_parts.specs.Words.{without}
use Rattle.keyed_list.specs.declared.keyed.Keyed.{Keyed}
use Rattle.keyed_list.specs.Listed.{keys_in, others}

module _ {T : Type 0} where
  pub keys_values : (es : List (ℕ × Keyed T)) → map (λ (l : Keyed T). l.key) (values_of es) ≡ keys_in es
  keys_values [] = refl
  keys_values (e ∷ es) = ap (λ rest. e.1.key ∷ rest) (keys_values es)

  pub as_many : (es : List (ℕ × Keyed T)) → length (values_of es) ≡ length es
  as_many [] = refl
  as_many (e ∷ es) = ap (λ n. suc n) (as_many es)

  pub keys_others : (a : ℕ) (es : List (ℕ × Keyed T)) → keys_in (others a es) ≡ without (λ b. eqb b a) (keys_in es)
  keys_others a [] = refl
  keys_others a (e ∷ es) = by (eqb e.1.key a) (keys_others a es)
    where
      by : (b : Bool) → keys_in (others a es) ≡ without (λ b. eqb b a) (keys_in es)
          → keys_in (cond b (others a es) (e ∷ others a es)) ≡ cond b (without (λ b. eqb b a) (keys_in es)) (e.1.key ∷ without (λ b. eqb b a) (keys_in es))
      by true h = h
      by false h = ap (λ rest. e.1.key ∷ rest) h

  -- no more than all
  pub fewer_others : (a : ℕ) (es : List (ℕ × Keyed T)) → length (others a es) ≤ length es
  fewer_others a [] = omega arith
  fewer_others a (e ∷ es) = by (eqb e.1.key a) (fewer_others a es)
    where
      by : (b : Bool) → length (others a es) ≤ length es → length (cond b (others a es) (e ∷ others a es)) ≤ length (e ∷ es)
      by true h = omega (arith, h)
      by false h = omega (arith, h)
