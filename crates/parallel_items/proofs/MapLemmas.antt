-- Maps whose keys are numbers that were given in turn, seen in the order of the numbers.
use Rattle.std.proofs.Common.{◌≡◌, ℕ, ◌+◌, Bool, true, false, cond, List, [], ◌∷◌, ◌++◌, map, find, Some, nat_eq, eqb, refl, sym, subst, ◌∙◌, ap, arith}
use Rattle.std.proofs.lemmas.List.Elements.{recursion_from_All}
use Rattle.std.proofs.lemmas.Map.Keys.{IsDistinct-head, IsDistinct-tail}
use Rattle.std.specs.List.{AllByRecursion, IsDistinct}
use Rattle.std.specs.List.Sorted.{IsPermutation}
use Rattle.std.specs.Map.{lookup, remove_entry}
use Rattle.std.specs.Option.{option_map}
use Rattle.page_parts.specs.Words.{without}
use Rattle.timer_map.specs.InOrder.{in_order}
use Rattle.timer_map.specs.Kept.{Given, AreNumbered}
use Rattle.timer_map.proofs.OrderLemmas.{eqb_flip, without_none, only_one, find_in_order, order_permuted, order_pushed, order_without, distinct_pushed, numbered_permuted, numbered_pushed, numbered_without}
use Rattle.parallel_items.proofs.IdleLemmas.{none_beyond}

module _ {V : Type 0} where
  abbrev pub key : ℕ × V → ℕ
  key entry = entry.0

  differ : (k m : ℕ) → m ≡ k → (es : List (ℕ × V)) → AllByRecursion (λ y. nat_eq m y ≡ false) (map key es) → AllByRecursion (λ (e : ℕ × V). eqb e.0 k ≡ false) es
  differ k m same [] each = tt
  differ k m same (e ∷ es) each = (let here = each.0 in grind (arith, here, same), differ k m same es each.1)

  removed_is_without : (k : ℕ) (es : List (ℕ × V)) → IsDistinct nat_eq (map key es) → remove_entry (nat_eq k) es ≡ without (λ e. eqb e.0 k) es
  removed_is_without k [] distinct = refl
  removed_is_without k (e ∷ es) distinct =
      by (nat_eq k e.0) refl (eqb e.0 k) refl (removed_is_without k es (IsDistinct-tail nat_eq e.0 (map key es) distinct))
    where
      by : (b : Bool) → nat_eq k e.0 ≡ b → (c : Bool) → eqb e.0 k ≡ c → remove_entry (nat_eq k) es ≡ without (λ e. eqb e.0 k) es
          → cond b es (e ∷ remove_entry (nat_eq k) es) ≡ cond c (without (λ e. eqb e.0 k) es) (e ∷ without (λ e. eqb e.0 k) es)
      by true t true f rest =
          let same : e.0 ≡ k = grind (arith, f) in
          sym (without_none (λ (e : ℕ × V). eqb e.0 k) es (differ k e.0 same es (IsDistinct-head nat_eq e.0 (map key es) distinct)))
      by true t false f rest = let never : ⊥ = grind (arith, t, f) in absurd never
      by false t true f rest = let never : ⊥ = grind (arith, t, f) in absurd never
      by false t false f rest = ap (λ us. e ∷ us) rest

  -- ---- an entry with the next number is put

  -- none has that number
  pub none_there : (last next : ℕ) (old : List (ℕ × V)) → next ≡ last + 1 → AreNumbered key last old → remove_entry (nat_eq next) old ≡ old
  none_there last next old is kept =
      let given = recursion_from_All (λ (e : ℕ × V). Given last e.0) old kept.given in
      removed_is_without next old kept.distinct
      ∙ without_none (λ (e : ℕ × V). eqb e.0 next) old (none_beyond key last next (omega (arith, is)) old given)

  module _ (last next : ℕ) (v : V) (old new : List (ℕ × V)) (is : next ≡ last + 1) (kept : AreNumbered key last old)
      (p : IsPermutation ((next, v) ∷ remove_entry (nat_eq next) old) new) where
    permuted : IsPermutation ((next, v) ∷ old) new
    permuted = subst (λ es. IsPermutation ((next, v) ∷ es) new) (none_there last next old is kept) p

    pub put_numbered : AreNumbered key next new
    put_numbered = subst (λ n. AreNumbered key n new) (sym is) (numbered_pushed key last (next, v) old new is permuted kept)

    pub put_order : in_order key next new ≡ in_order key last old ++ (next, v) ∷ []
    put_order = ap (λ n. in_order key n new) is ∙ order_pushed key last (next, v) old new is permuted (distinct_pushed key last (next, v) old is kept)

  -- ---- an entry leaves

  module _ (k last : ℕ) (old new : List (ℕ × V)) (kept : AreNumbered key last old) (p : IsPermutation (remove_entry (nat_eq k) old) new) where
    rest_numbered : AreNumbered key last (remove_entry (nat_eq k) old)
    rest_numbered = subst (AreNumbered key last) (sym (removed_is_without k old kept.distinct)) (numbered_without key (λ (e : ℕ × V). eqb e.0 k) last old kept)

    pub removed_numbered : AreNumbered key last new
    removed_numbered = numbered_permuted key last (remove_entry (nat_eq k) old) new p rest_numbered

    pub removed_order : in_order key last new ≡ without (λ (e : ℕ × V). eqb e.0 k) (in_order key last old)
    removed_order =
        order_permuted key last (remove_entry (nat_eq k) old) new p rest_numbered.distinct
        ∙ ap (in_order key last) (removed_is_without k old kept.distinct)
        ∙ order_without key (λ (e : ℕ × V). eqb e.0 k) last old kept.distinct

  -- ---- a look-up

  found_key : (k : ℕ) (es : List (ℕ × V)) → lookup (nat_eq k) es ≡ option_map (λ (e : ℕ × V). e.1) (find (λ (e : ℕ × V). eqb e.0 k) es)
  found_key k [] = refl
  found_key k (e ∷ es) = ap (λ b. cond b (Some e.1) (lookup (nat_eq k) es)) (eqb_flip k e.0) ∙ by (eqb e.0 k) (found_key k es)
    where
      by : (b : Bool) → lookup (nat_eq k) es ≡ option_map (λ (e : ℕ × V). e.1) (find (λ (e : ℕ × V). eqb e.0 k) es)
          → cond b (Some e.1) (lookup (nat_eq k) es) ≡ option_map (λ (e : ℕ × V). e.1) (cond b (Some e) (find (λ (e : ℕ × V). eqb e.0 k) es))
      by true rest = refl
      by false rest = rest

  pub found_in_order : (k last : ℕ) (es : List (ℕ × V)) → AreNumbered key last es
      → lookup (nat_eq k) es ≡ option_map (λ (e : ℕ × V). e.1) (find (λ (e : ℕ × V). eqb e.0 k) (in_order key last es))
  found_in_order k last es kept =
      found_key k es
      ∙ sym (ap (option_map (λ (e : ℕ × V). e.1)) (find_in_order key (λ (e : ℕ × V). eqb e.0 k) last es kept (λ a found. only_one key k es a kept.distinct found)))
