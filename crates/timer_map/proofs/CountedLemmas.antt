-- Rows of places as entries.
use Rattle.std.proofs.Common.{◌≡◌, ℕ, zero, suc, ◌+◌, ◌<◌, ◌≤◌, true, false, cond, List, [], ◌∷◌, ◌++◌, length, slice_set, slice_index_or, Option, Some, None, nat_eq, refl, sym, subst, ◌∙◌, ap, arith}
use Rattle.std.proofs.lemmas.List.Sorted.{IsPermutation-refl, IsPermutation-cons, IsPermutation-trans, IsPermutation-swap}
use Rattle.std.proofs.lemmas.Map.Keys.{IsDistinct-cons}
use Rattle.std.specs.List.{AllByRecursion, IsDistinct}
use Rattle.std.specs.List.Sorted.{IsPermutation}
use Rattle.std.specs.Map.{lookup, remove_entry, keys_of}
use Rattle.std.proofs.lemmas.List.Elements.{All-from_recursion}
use Rattle.timer_map.specs.Counted.{entries_from, entries_of}
use Rattle.timer_map.specs.Kept.{Given, AreNumbered}

module _ {V : Type 0} where
  -- a number below the first place's is not there
  below : (k n : ℕ) → k < n → (ps : List (Option V)) → AllByRecursion (λ y. nat_eq k y ≡ false) (keys_of (entries_from n ps))
  below k n lt [] = tt
  below k n lt (None ∷ ps) = below k (suc n) (omega (arith, lt)) ps
  below k n lt (Some v ∷ ps) = (grind (arith, lt), below k (suc n) (omega (arith, lt)) ps)

  not_there : (k : ℕ) (es : List (ℕ × V)) → AllByRecursion (λ y. nat_eq k y ≡ false) (keys_of es) → lookup (nat_eq k) es ≡ None
  not_there k [] each = refl
  not_there k (e ∷ es) each = ap (λ b. cond b (Some e.1) (lookup (nat_eq k) es)) each.0 ∙ not_there k es each.1

  stays : (k : ℕ) (es : List (ℕ × V)) → AllByRecursion (λ y. nat_eq k y ≡ false) (keys_of es) → remove_entry (nat_eq k) es ≡ es
  stays k [] each = refl
  stays k (e ∷ es) each = ap (λ b. cond b es (e ∷ remove_entry (nat_eq k) es)) each.0 ∙ ap (λ r. e ∷ r) (stays k es each.1)

  -- no number is there twice
  distinct_from : (n : ℕ) (ps : List (Option V)) → IsDistinct nat_eq (keys_of (entries_from n ps))
  unfolding IsDistinct
  distinct_from n [] = tt
  distinct_from n (None ∷ ps) = distinct_from (suc n) ps
  distinct_from n (Some v ∷ ps) = IsDistinct-cons nat_eq n (keys_of (entries_from (suc n) ps)) (below n (suc n) (omega arith) ps) (distinct_from (suc n) ps)

  pub entries_distinct : (ps : List (Option V)) → IsDistinct nat_eq (keys_of (entries_of ps))
  entries_distinct ps = distinct_from 0 ps

  -- a place that nothing stands at, behind the others
  none_from : (n : ℕ) (ps : List (Option V)) → entries_from n (ps ++ None ∷ []) ≡ entries_from n ps
  none_from n [] = refl
  none_from n (None ∷ ps) = none_from (suc n) ps
  none_from n (Some v ∷ ps) = ap (λ es. (n, v) ∷ es) (none_from (suc n) ps)

  pub none_pushed : (ps : List (Option V)) → entries_of (ps ++ None ∷ []) ≡ entries_of ps
  none_pushed ps = none_from 0 ps

  -- ---- what a number has

  looked_up : (k n i : ℕ) (d : Option V) (ps : List (Option V)) → k ≡ n + i → i < length ps → lookup (nat_eq k) (entries_from n ps) ≡ slice_index_or ps i d
  looked_up k n i d [] is lt = absurd (omega (arith, lt))
  looked_up k n zero d (None ∷ ps) is lt = not_there k (entries_from (suc n) ps) (below k (suc n) (omega (arith, is)) ps)
  looked_up k n zero d (Some v ∷ ps) is lt =
      let hit : nat_eq k n ≡ true = grind (arith, is) in
      ap (λ b. cond b (Some v) (lookup (nat_eq k) (entries_from (suc n) ps))) hit
  looked_up k n (suc i) d (None ∷ ps) is lt = looked_up k (suc n) i d ps (omega (arith, is)) (omega (arith, lt))
  looked_up k n (suc i) d (Some v ∷ ps) is lt =
      let miss : nat_eq k n ≡ false = grind (arith, is) in
      ap (λ b. cond b (Some v) (lookup (nat_eq k) (entries_from (suc n) ps))) miss
      ∙ looked_up k (suc n) i d ps (omega (arith, is)) (omega (arith, lt))

  pub had : (k : ℕ) (d : Option V) (ps : List (Option V)) → k < length ps → slice_index_or ps k d ≡ lookup (nat_eq k) (entries_of ps)
  had k d ps lt = sym (looked_up k 0 k d ps (omega arith) lt)

  -- ---- one behind all places

  beyond : (k n : ℕ) (ps : List (Option V)) → n + length ps ≤ k → AllByRecursion (λ y. nat_eq k y ≡ false) (keys_of (entries_from n ps))
  beyond k n [] le = tt
  beyond k n (None ∷ ps) le = beyond k (suc n) ps (omega (arith, le))
  beyond k n (Some v ∷ ps) le = (grind (arith, le), beyond k (suc n) ps (omega (arith, le)))

  pub has_none : (k : ℕ) (ps : List (Option V)) → length ps ≤ k → lookup (nat_eq k) (entries_of ps) ≡ None
  has_none k ps le = not_there k (entries_of ps) (beyond k 0 ps (omega (arith, le)))

  pub all_stay : (k : ℕ) (ps : List (Option V)) → length ps ≤ k → remove_entry (nat_eq k) (entries_of ps) ≡ entries_of ps
  all_stay k ps le = stays k (entries_of ps) (beyond k 0 ps (omega (arith, le)))

  -- ---- a number has nothing any more

  emptied : (k n i : ℕ) (ps : List (Option V)) → k ≡ n + i → entries_from n (slice_set ps i None) ≡ remove_entry (nat_eq k) (entries_from n ps)
  emptied k n i [] is = refl
  emptied k n zero (None ∷ ps) is = sym (stays k (entries_from (suc n) ps) (below k (suc n) (omega (arith, is)) ps))
  emptied k n zero (Some v ∷ ps) is =
      let hit : nat_eq k n ≡ true = grind (arith, is) in
      let es = entries_from (suc n) ps in
      sym (ap (λ b. cond b es ((n, v) ∷ remove_entry (nat_eq k) es)) hit)
  emptied k n (suc i) (None ∷ ps) is = emptied k (suc n) i ps (omega (arith, is))
  emptied k n (suc i) (Some v ∷ ps) is =
      let miss : nat_eq k n ≡ false = grind (arith, is) in
      let es = entries_from (suc n) ps in
      ap (λ r. (n, v) ∷ r) (emptied k (suc n) i ps (omega (arith, is)))
      ∙ sym (ap (λ b. cond b es ((n, v) ∷ remove_entry (nat_eq k) es)) miss)

  pub taken : (k : ℕ) (ps : List (Option V)) → entries_of (slice_set ps k None) ≡ remove_entry (nat_eq k) (entries_of ps)
  taken k ps = emptied k 0 k ps (omega arith)

  -- ---- a number has a value

  turned : (a b : ℕ × V) (es : List (ℕ × V)) → IsPermutation (a ∷ b ∷ es) (b ∷ a ∷ es)
  turned a b es = IsPermutation-swap (a ∷ b ∷ es) (b ∷ a ∷ es) 0 1 (omega arith) (omega arith) refl

  filled : (k n i : ℕ) (v : V) (ps : List (Option V)) → k ≡ n + i → i < length ps
      → IsPermutation ((k, v) ∷ remove_entry (nat_eq k) (entries_from n ps)) (entries_from n (slice_set ps i (Some v)))
  filled k n i v [] is lt = absurd (omega (arith, lt))
  filled k n zero v (None ∷ ps) is lt =
      let es = entries_from (suc n) ps in
      let same : k ≡ n = omega (arith, is) in
      let eq = ap (λ r. (k, v) ∷ r) (stays k es (below k (suc n) (omega (arith, is)) ps)) ∙ ap (λ m. (m, v) ∷ es) same in
      subst (λ r. IsPermutation r ((n, v) ∷ es)) (sym eq) (IsPermutation-refl ((n, v) ∷ es))
  filled k n zero v (Some w ∷ ps) is lt =
      let es = entries_from (suc n) ps in
      let same : k ≡ n = omega (arith, is) in
      let hit : nat_eq k n ≡ true = grind (arith, is) in
      let eq = ap (λ b. (k, v) ∷ cond b es ((n, w) ∷ remove_entry (nat_eq k) es)) hit ∙ ap (λ m. (m, v) ∷ es) same in
      subst (λ r. IsPermutation r ((n, v) ∷ es)) (sym eq) (IsPermutation-refl ((n, v) ∷ es))
  filled k n (suc i) v (None ∷ ps) is lt = filled k (suc n) i v ps (omega (arith, is)) (omega (arith, lt))
  filled k n (suc i) v (Some w ∷ ps) is lt =
      let es = entries_from (suc n) ps in
      let rest = remove_entry (nat_eq k) es in
      let new = entries_from (suc n) (slice_set ps i (Some v)) in
      let miss : nat_eq k n ≡ false = grind (arith, is) in
      let eq = ap (λ b. (k, v) ∷ cond b es ((n, w) ∷ rest)) miss in
      let further = filled k (suc n) i v ps (omega (arith, is)) (omega (arith, lt)) in
      subst (λ r. IsPermutation r ((n, w) ∷ new)) (sym eq)
      (IsPermutation-trans ((k, v) ∷ (n, w) ∷ rest) ((n, w) ∷ (k, v) ∷ rest) ((n, w) ∷ new) (turned (k, v) (n, w) rest)
      (IsPermutation-cons (n, w) ((k, v) ∷ rest) new further))

  pub set : (k : ℕ) (v : V) (ps : List (Option V)) → k < length ps
      → IsPermutation ((k, v) ∷ remove_entry (nat_eq k) (entries_of ps)) (entries_of (slice_set ps k (Some v)))
  set k v ps lt = filled k 0 k v ps (omega arith) lt

-- no item has no numbers
pub nothing_numbered : {X : Type 0} (number : X → ℕ) → AreNumbered number 0 []
nothing_numbered number =
    let none : List (Option ℕ) = [] in
    record { distinct = entries_distinct none; given = All-from_recursion (λ item. Given 0 (number item)) [] tt }
