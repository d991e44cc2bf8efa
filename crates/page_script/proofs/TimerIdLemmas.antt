-- The first registration with each timer id, with one more registration.
use Rattle.std.proofs.Common.{◌≡◌, ℕ, zero, suc, ◌+◌, ◌<◌, ◌≤◌, arith, List, [], ◌∷◌, length, Bool, true, false, cond, Option, Some, None, nat_eq, refl, ap, sym, ◌∙◌, inl, inr}
use Rattle.std.specs.Prelude.{◌==◌, is_some, IfSome}
use Rattle.std.specs.List.{IsDistinct}
use Rattle.std.specs.List.Sorted.{IsPermutation}
use Rattle.std.specs.Map.{lookup, remove_entry, keys_of}
use Rattle.std.proofs.lemmas.Bool.{eqb-true}
use Rattle.std.proofs.lemmas.Bool.Decides.{eqb_tells}
use Rattle.std.proofs.lemmas.Cmp.{nat_eq_equiv}
use Rattle.std.proofs.lemmas.List.Sorted.{IsPermutation-sym, IsPermutation-map, Contains-permutation}
use Rattle.std.proofs.lemmas.Map.{lookup-remove_entry}
use Rattle.std.proofs.lemmas.Map.Keys.{IsDistinct-IsPermutation}
use Rattle.std.proofs.lemmas.Map.Views.{Contains-from_lookup, lookup-from_Contains}
use Rattle.timer_map.specs.Counted.{entries_of}
use Rattle.timer_map.proofs.CountedLemmas.{entries_distinct}
use Rattle.timer_map.proofs.OrderLemmas.{eqb_flip}
use Rattle.page_parts.specs.Words.{and_last}
use Rattle.page_model.specs.State.{Registration}
use Rattle.page_model.specs.PageTime.{registration_with_id}
use Rattle.page_script.specs.TimerIds.{number_if_any, first_with_id, AreFirst}

-- where there is one before, it stays the first
stays : (id r n : ℕ) (xs : List Registration) (x : Registration) → registration_with_id id (suc r) xs ≡ suc n → registration_with_id id (suc r) (and_last xs x) ≡ suc n
stays id r n [] x h = cc
stays id r n (y ∷ ys) x h = by_test (y.timer_id == id) (stays id (suc r) n ys x) h
  where
    by_test : (b : Bool) → (registration_with_id id (suc (suc r)) ys ≡ suc n → registration_with_id id (suc (suc r)) (and_last ys x) ≡ suc n) → cond b (suc r) (registration_with_id id (suc (suc r)) ys) ≡ suc n → cond b (suc r) (registration_with_id id (suc (suc r)) (and_last ys x)) ≡ suc n
    by_test true more e = e
    by_test false more e = more e

-- where there is none before, the new one is the first, if it has the id
comes : (id r : ℕ) (xs : List Registration) (x : Registration) → registration_with_id id (suc r) xs ≡ 0
    → registration_with_id id (suc r) (and_last xs x) ≡ cond (x.timer_id == id) (suc (length xs + r)) 0
comes id r [] x h = ap (λ n. cond (x.timer_id == id) (suc n) 0) (let e : r ≡ 0 + r = omega arith in e)
comes id r (y ∷ ys) x h = by_test (y.timer_id == id) (comes id (suc r) ys x) h
  where
    next : length ys + suc r ≡ suc (length ys) + r
    next = omega arith

    by_test : (b : Bool)
        → (registration_with_id id (suc (suc r)) ys ≡ 0 → registration_with_id id (suc (suc r)) (and_last ys x) ≡ cond (x.timer_id == id) (suc (length ys + suc r)) 0)
        → cond b (suc r) (registration_with_id id (suc (suc r)) ys) ≡ 0
        → cond b (suc r) (registration_with_id id (suc (suc r)) (and_last ys x)) ≡ cond (x.timer_id == id) (suc (suc (length ys) + r)) 0
    by_test true more e = cc
    by_test false more e = more e ∙ ap (λ n. cond (x.timer_id == id) (suc n) 0) next

none_before : (n : ℕ) → is_some (number_if_any n) ≡ false → n ≡ 0
none_before zero h = refl
none_before (suc n) h = cc

some_before : (n : ℕ) → is_some (number_if_any n) ≡ true → number_if_any n ≡ Some n
some_before zero h = cc
some_before (suc n) h = refl

-- one with an id that was there
first-stays : (id : ℕ) (xs : List Registration) (x : Registration) → is_some (first_with_id id xs) ≡ true → first_with_id id (and_last xs x) ≡ first_with_id id xs
first-stays id xs x h = by_number (registration_with_id id 1 xs) refl h
  where
    by_number : (n : ℕ) → registration_with_id id 1 xs ≡ n → is_some (number_if_any n) ≡ true → first_with_id id (and_last xs x) ≡ first_with_id id xs
    by_number zero e k = cc
    by_number (suc n) e k = ap number_if_any (stays id 0 n xs x e ∙ sym e)

first-comes : (id : ℕ) (xs : List Registration) (x : Registration) → is_some (first_with_id id xs) ≡ false
    → first_with_id id (and_last xs x) ≡ cond (x.timer_id == id) (Some (length xs + 1)) None
first-comes id xs x h =
    ap number_if_any (comes id 0 xs x (none_before (registration_with_id id 1 xs) h)) ∙ by_test (x.timer_id == id)
  where
    next : suc (length xs + 0) ≡ length xs + 1
    next = omega arith

    by_test : (b : Bool) → number_if_any (cond b (suc (length xs + 0)) 0) ≡ cond b (Some (length xs + 1)) None
    by_test true = ap Some next
    by_test false = refl

absent : {X : Type 0} (o : Option X) → is_some o ≡ false → o ≡ None
absent None h = refl
absent (Some x) h = cc

-- what is kept stays, where the id of the new one was there
pub kept-stays : (kept : ℕ → Option ℕ) (xs : List Registration) (x : Registration) → AreFirst kept xs → is_some (kept x.timer_id) ≡ true → AreFirst kept (and_last xs x)
kept-stays kept xs x first there = record { told = told }
  where
    told : (id : ℕ) → kept id ≡ first_with_id id (and_last xs x)
    told id = by_any (is_some (first_with_id id xs)) refl
      where
        by_any : (b : Bool) → is_some (first_with_id id xs) ≡ b → kept id ≡ first_with_id id (and_last xs x)
        by_any true e = first.told id ∙ sym (first-stays id xs x e)
        by_any false e =
            elim (eqb_tells x.timer_id id) [
              | inl same ↦ let clash : true ≡ false = sym there ∙ ap (λ i. is_some (kept i)) same.1 ∙ ap is_some (first.told id) ∙ e in cc
              | inr other ↦ first.told id ∙ absent (first_with_id id xs) e
                  ∙ sym (first-comes id xs x e ∙ ap (λ b. cond b (Some (length xs + 1)) None) other.0)
            ]

-- and where it was not, the new one is the first
pub kept-comes : (kept next : ℕ → Option ℕ) (xs : List Registration) (x : Registration) → AreFirst kept xs → is_some (kept x.timer_id) ≡ false
    → ((id : ℕ) → next id ≡ cond (x.timer_id == id) (Some (length xs + 1)) (kept id)) → AreFirst next (and_last xs x)
kept-comes kept next xs x first there puts = record { told = told }
  where
    told : (id : ℕ) → next id ≡ first_with_id id (and_last xs x)
    told id = by_any (is_some (first_with_id id xs)) refl
      where
        by_any : (b : Bool) → is_some (first_with_id id xs) ≡ b → next id ≡ first_with_id id (and_last xs x)
        by_any true e =
            elim (eqb_tells x.timer_id id) [
              | inl same ↦ let clash : false ≡ true = sym there ∙ ap (λ i. is_some (kept i)) same.1 ∙ ap is_some (first.told id) ∙ e in cc
              | inr other ↦ puts id ∙ ap (λ b. cond b (Some (length xs + 1)) (kept id)) other.0 ∙ first.told id ∙ sym (first-stays id xs x e)
            ]
        by_any false e = puts id ∙ ap (cond (x.timer_id == id) (Some (length xs + 1))) (first.told id ∙ absent (first_with_id id xs) e) ∙ sym (first-comes id xs x e)

-- ---- What is kept stands at places

-- one id has a number now, and each other what it had
module _ (k r : ℕ) (old new : List (Option ℕ)) (set : IsPermutation ((k, r) ∷ remove_entry (nat_eq k) (entries_of old)) (entries_of new)) (id : ℕ) where
  abbrev with_it : List (ℕ × ℕ)
  with_it = (k, r) ∷ remove_entry (nat_eq k) (entries_of old)

  back : IsPermutation (entries_of new) with_it
  back = IsPermutation-sym with_it (entries_of new) set

  with_it_distinct : IsDistinct nat_eq (keys_of with_it)
  with_it_distinct = IsDistinct-IsPermutation nat_eq eqb_flip (keys_of (entries_of new)) (keys_of with_it) (IsPermutation-map (λ (e : ℕ × ℕ). e.0) (entries_of new) with_it back) (entries_distinct new)

  found : (o : Option ℕ) → lookup (nat_eq id) (entries_of new) ≡ o → (p : Option ℕ) → lookup (nat_eq id) with_it ≡ p → o ≡ p
  found (Some n) e p f =
      sym (lookup-from_Contains nat_eq_equiv id n with_it with_it_distinct (Contains-permutation (entries_of new) with_it (id, n) back (Contains-from_lookup eqb-true id n (entries_of new) e))) ∙ f
  found None e (Some n) f =
      sym e ∙ lookup-from_Contains nat_eq_equiv id n (entries_of new) (entries_distinct new) (Contains-permutation with_it (entries_of new) (id, n) set (Contains-from_lookup eqb-true id n with_it f))
  found None e None f = refl

  at_once : (b : Bool) → cond b (Some r) (cond b None (lookup (nat_eq id) (entries_of old))) ≡ cond b (Some r) (lookup (nat_eq id) (entries_of old))
  at_once true = refl
  at_once false = refl

  pub place_put : lookup (nat_eq id) (entries_of new) ≡ cond (nat_eq k id) (Some r) (lookup (nat_eq id) (entries_of old))
  place_put =
      found (lookup (nat_eq id) (entries_of new)) refl (lookup (nat_eq id) with_it) refl
      ∙ ap (λ b. cond b (Some r) (lookup (nat_eq id) (remove_entry (nat_eq k) (entries_of old)))) (eqb_flip id k)
      ∙ ap (cond (nat_eq k id) (Some r)) (lookup-remove_entry nat_eq_equiv (nat_eq k) (nat_eq_equiv.congr k) id (entries_of old) (entries_distinct old))
      ∙ at_once (nat_eq k id)

-- ---- The first one was made

within : (id r : ℕ) (xs : List Registration) → registration_with_id id (suc r) xs ≤ length xs + r
within id r [] = omega arith
within id r (y ∷ ys) = by_test (y.timer_id == id) (within id (suc r) ys)
  where
    by_test : (b : Bool) → registration_with_id id (suc (suc r)) ys ≤ length ys + suc r → cond b (suc r) (registration_with_id id (suc (suc r)) ys) ≤ suc (length ys) + r
    by_test true more = omega arith
    by_test false more = omega (arith, more)

pub first_made : (id : ℕ) (xs : List Registration) → IfSome (first_with_id id xs) (λ r. (0 < r) × (r ≤ length xs))
first_made id xs = by_number (registration_with_id id 1 xs) (within id 0 xs)
  where
    by_number : (n : ℕ) → n ≤ length xs + 0 → IfSome (number_if_any n) (λ r. (0 < r) × (r ≤ length xs))
    by_number zero h = tt
    by_number (suc n) h = (omega arith, omega (arith, h))
