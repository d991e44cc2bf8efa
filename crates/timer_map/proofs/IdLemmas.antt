-- The map of ids as the entries of the code's map.
use Rattle.std.proofs.Common.{◌≡◌, ℕ, suc, ◌+◌, ◌<◌, ◌≤◌, ◌^◌, All, unwrap_or, add-one, Bool, true, false, cond, map, List, [], ◌∷◌, ◌++◌, Option, Some, None, is_some, find, nat_eq, eqb, refl, sym, subst, ◌∙◌, ap, arith}
use Rattle.std.proofs.lemmas.Bool.{eqb-true}
use Rattle.std.proofs.lemmas.List.Elements.{All-cons, All-from_recursion, recursion_from_All}
use Rattle.std.proofs.lemmas.List.Sorted.{IsPermutation-map, All-permutation}
use Rattle.std.proofs.lemmas.Map.Keys.{IsDistinct-head, IsDistinct-tail}
use Rattle.std.specs.List.{AllByRecursion, IsDistinct}
use Rattle.std.specs.List.Sorted.{IsPermutation}
use Rattle.std.specs.Map.{lookup, remove_entry, keys_of}
use Rattle.std.specs.Option.{option_eq, option_map_or}
use Rattle.page_parts.specs.Timers.{TimerId, with_id}
use Rattle.page_parts.specs.Words.{is_there, without}
use Rattle.timer_map.specs.InOrder.{in_order}
use Rattle.timer_map.specs.Kept.{AreNumbered, AreIdsKept}
use Rattle.timer_map.specs.Seen.{ids_of, ids_in_order}
use Rattle.timer_map.proofs.OrderLemmas.{eqb_flip, each_without, find_none, without_none, only_one, find_in_order, order_pushed, order_without, distinct_pushed, distinct_without, numbered_pushed, numbered_without}

abbrev id_of : TimerId → ℕ
id_of entry = entry.id

abbrev handle_of : TimerId → ℕ
handle_of entry = entry.handle

-- an id below 2 ^ 32
abbrev pub IsSmall : TimerId → Type 0
IsSmall entry = entry.id < 2 ^ 32

-- ---- an id in the map

has_found : (id : ℕ) (es : List (ℕ × ℕ)) → is_some (lookup (nat_eq id) es) ≡ is_there (find (λ (e : TimerId). eqb e.id id) (ids_of es))
has_found id [] = refl
has_found id (e ∷ es) = grind (arith, has_found id es, eqb_flip id e.0)

live_found : (id handle : ℕ) (es : List (ℕ × ℕ))
    → option_eq nat_eq (lookup (nat_eq id) es) (Some handle) ≡ elim (find (λ (e : TimerId). eqb e.id id) (ids_of es)) [ None ↦ false | Some e ↦ eqb e.handle handle ]
live_found id handle [] = refl
live_found id handle (e ∷ es) = grind (arith, live_found id handle es, eqb_flip id e.0)

-- the ids as numbers of the entries
ids_distinct : (es : List (ℕ × ℕ)) → keys_of es ≡ map id_of (ids_of es)
ids_distinct [] = refl
ids_distinct (e ∷ es) = ap (λ ids. e.0 ∷ ids) (ids_distinct es)

found_in_order : (id last : ℕ) (es : List (ℕ × ℕ)) → AreIdsKept last es
    → find (λ (e : TimerId). eqb e.id id) (ids_in_order last es) ≡ find (λ (e : TimerId). eqb e.id id) (ids_of es)
found_in_order id last es kept =
    let distinct = subst (IsDistinct nat_eq) (ids_distinct es) kept.distinct in
    find_in_order handle_of (λ e. eqb e.id id) last (ids_of es) kept.numbered (λ a found. only_one id_of id (ids_of es) a distinct found)

-- whether an id is there
pub has_in_order : (id last : ℕ) (es : List (ℕ × ℕ)) → AreIdsKept last es
    → is_some (lookup (nat_eq id) es) ≡ is_there (find (λ (e : TimerId). eqb e.id id) (ids_in_order last es))
has_in_order id last es kept = has_found id es ∙ ap is_there (sym (found_in_order id last es kept))

-- one of 2 ^ 32 or more is not there
large_differs : (id : ℕ) (ids : List TimerId) → 2 ^ 32 ≤ id → AllByRecursion IsSmall ids → AllByRecursion (λ (e : TimerId). eqb e.id id ≡ false) ids
large_differs id [] large small = tt
large_differs id (e ∷ ids) large small = (grind (arith, large, small.0), large_differs id ids large small.1)

pub large_in_order : (id last : ℕ) (es : List (ℕ × ℕ)) → 2 ^ 32 ≤ id → AreIdsKept last es
    → is_there (find (λ (e : TimerId). eqb e.id id) (ids_in_order last es)) ≡ false
large_in_order id last es large kept =
    let differs = large_differs id (ids_of es) large (recursion_from_All IsSmall (ids_of es) kept.small) in
    ap is_there (found_in_order id last es kept ∙ find_none (λ (e : TimerId). eqb e.id id) (ids_of es) differs)

-- whether it is there with a handle
pub live_in_order : (id handle last : ℕ) (es : List (ℕ × ℕ)) → AreIdsKept last es
    → option_eq nat_eq (lookup (nat_eq id) es) (Some handle)
    ≡ elim (find (λ (e : TimerId). eqb e.id id) (ids_in_order last es)) [ None ↦ false | Some e ↦ eqb e.handle handle ]
live_in_order id handle last es kept =
    live_found id handle es
    ∙ ap (λ (r : Option TimerId). elim r [ None ↦ false | Some e ↦ eqb e.handle handle ]) (sym (found_in_order id last es kept))

-- ---- an id leaves

each_differs : (id : ℕ) (es : List (ℕ × ℕ)) → AllByRecursion (λ y. nat_eq id y ≡ false) (keys_of es) → AllByRecursion (λ (e : TimerId). eqb e.id id ≡ false) (ids_of es)
each_differs id [] each = tt
each_differs id (e ∷ es) each = (eqb_flip e.0 id ∙ each.0, each_differs id es each.1)

without_removed : (id : ℕ) (es : List (ℕ × ℕ)) → IsDistinct nat_eq (keys_of es) → ids_of (remove_entry (nat_eq id) es) ≡ without (λ e. eqb e.id id) (ids_of es)
without_removed id [] distinct = refl
without_removed id (e ∷ es) distinct = by (nat_eq id e.0) refl (eqb e.0 id) refl (without_removed id es (IsDistinct-tail nat_eq e.0 (keys_of es) distinct))
  where
    by : (b : Bool) → nat_eq id e.0 ≡ b → (c : Bool) → eqb e.0 id ≡ c
        → ids_of (remove_entry (nat_eq id) es) ≡ without (λ e. eqb e.id id) (ids_of es)
        → ids_of (cond b es (e ∷ remove_entry (nat_eq id) es))
        ≡ cond c (without (λ e. eqb e.id id) (ids_of es)) (record { id = e.0; handle = e.1 } ∷ without (λ e. eqb e.id id) (ids_of es))
    by true t true f rest =
        let apart = subst (λ n. AllByRecursion (λ y. nat_eq n y ≡ false) (keys_of es)) (eqb-true e.0 id f) (IsDistinct-head nat_eq e.0 (keys_of es) distinct) in
        sym (without_none (λ e. eqb e.id id) (ids_of es) (each_differs id es apart))
    by true t false f rest = let never : ⊥ = grind (arith, t, f) in absurd never
    by false t true f rest = let never : ⊥ = grind (arith, t, f) in absurd never
    by false t false f rest = ap (λ ids. record { id = e.0; handle = e.1 } ∷ ids) rest

module _ (id last : ℕ) (es : List (ℕ × ℕ)) (kept : AreIdsKept last es) where
  pub kept_rest : AreIdsKept last (remove_entry (nat_eq id) es)
  kept_rest =
      let is = without_removed id es kept.distinct in
      let distinct = distinct_without id_of (λ e. eqb e.id id) (ids_of es) (subst (IsDistinct nat_eq) (ids_distinct es) kept.distinct) in
      let small = recursion_from_All IsSmall (ids_of es) kept.small in
      record {
        distinct = subst (IsDistinct nat_eq) (ap (map id_of) (sym is) ∙ sym (ids_distinct (remove_entry (nat_eq id) es))) distinct;
        small = subst (All IsSmall) (sym is) (All-from_recursion IsSmall (without (λ e. eqb e.id id) (ids_of es)) (each_without IsSmall (λ e. eqb e.id id) (ids_of es) small));
        numbered = subst (AreNumbered handle_of last) (sym is) (numbered_without handle_of (λ e. eqb e.id id) last (ids_of es) kept.numbered);
      }

  pub ids_rest : ids_in_order last (remove_entry (nat_eq id) es) ≡ without (λ e. eqb e.id id) (ids_in_order last es)
  ids_rest = ap (in_order handle_of last) (without_removed id es kept.distinct) ∙ order_without handle_of (λ e. eqb e.id id) last (ids_of es) kept.numbered.distinct

abbrev entry_of : ℕ × ℕ → TimerId
entry_of entry = record { id = entry.0; handle = entry.1 }

-- ---- an id is set, with the next handle

module _ (id last : ℕ) (old new : List (ℕ × ℕ)) (kept : AreIdsKept last old) (p : IsPermutation ((id, last + 1) ∷ remove_entry (nat_eq id) old) new) where
  pub kept_put : IsDistinct nat_eq (keys_of new) → id < 2 ^ 32 → AreIdsKept (last + 1) new
  kept_put distinct small =
      let entry : TimerId = record { id = id; handle = last + 1 } in
      let rest = remove_entry (nat_eq id) old in
      record {
        distinct = distinct;
        small = All-permutation IsSmall (entry ∷ ids_of rest) (ids_of new) (IsPermutation-map entry_of _ new p) (All-cons IsSmall entry (ids_of rest) small (kept_rest id last old kept).small);
        numbered = numbered_pushed handle_of last entry (ids_of rest) (ids_of new) refl (IsPermutation-map entry_of _ new p) (kept_rest id last old kept).numbered;
      }

  pub ids_put : ids_in_order (last + 1) new ≡ with_id id (last + 1) (ids_in_order last old)
  ids_put =
      let entry : TimerId = record { id = id; handle = last + 1 } in
      let rest = remove_entry (nat_eq id) old in
      order_pushed handle_of last entry (ids_of rest) (ids_of new) refl (IsPermutation-map entry_of _ new p)
      (distinct_pushed handle_of last entry (ids_of rest) refl (kept_rest id last old kept).numbered)
      ∙ ap (λ ids. ids ++ entry ∷ []) (ids_rest id last old kept)

-- the last id that was given
pub last_given : (again : Option ℕ) (last id : ℕ) → id ≡ unwrap_or again (suc last) → option_map_or (λ _. last) again (last + 1) ≡ elim again [ None ↦ id | Some other ↦ last ]
last_given None last id e = add-one last ∙ sym e
last_given (Some other) last id e = refl
