-- How the items of a list are found. Ours: each has a place, and places rise as items are added.
use Rattle.std.specs.Prelude.{◌≡◌, ℕ, ◌<◌, if◌then◌else◌, List, [], ◌∷◌, filter, map, None, Some, ◌==◌}
use Rattle.std.specs.BTreeMap.{BTreeMap, get, is_at}
use Rattle.std.specs.List.{AllByRecursion}
use Rattle.std.specs.List.Sorted.{IsStrictlySortedBy}
use Rattle.std.specs.Map.{keys_of, lookup, remove_entry}
use Rattle.std.specs.Ordering.{nat_cmp}
use Rattle.std.specs.declared.alloc.Global.{Global}
use Rattle.std.specs.declared.vec.Vec.{Vec}
use Rattle.page_parts.specs.Words.{and_last, without}
use Rattle.keyed_list.specs.declared.keyed.Keyed.{Keyed}

module _ {T : Type 0} where
  -- the keys of the items
  abbrev pub keys_in : List (ℕ × Keyed T) → List ℕ
  keys_in es = map (λ (e : ℕ × Keyed T). e.1.key) es

  -- the places of the items with a key
  abbrev pub places_in : List (ℕ × Keyed T) → ℕ → List ℕ
  places_in es key = keys_of (filter (λ (e : ℕ × Keyed T). e.1.key == key) es)

  -- this item is there, with its key, at a place
  abbrev pub HasItem : List (ℕ × Keyed T) → (place : ℕ) → Keyed T → Type 0
  HasItem es place keyed = lookup (is_at (nat_cmp place)) es ≡ Some keyed

  -- the items with other keys
  abbrev pub others : ℕ → List (ℕ × Keyed T) → List (ℕ × Keyed T)
  others key es = without (λ (e : ℕ × Keyed T). e.1.key == key) es

  -- places rise
  abbrev pub AreOrdered : List (ℕ × Keyed T) → Type 0
  AreOrdered es = IsStrictlySortedBy nat_cmp (keys_of es)

  -- each place is below n
  abbrev pub AreBelow : ℕ → List (ℕ × Keyed T) → Type 0
  AreBelow n es = AllByRecursion (λ (e : ℕ × Keyed T). e.0 < n) es

-- what an index by keys has
abbrev pub places_of : BTreeMap ℕ (Vec ℕ Global) → ℕ → List ℕ
places_of m key = elim (get nat_cmp m key) [ None ↦ [] | Some v ↦ v.items ]

-- the index is that of these items
abbrev pub ArePlaces : {T : Type 0} → List (ℕ × Keyed T) → BTreeMap ℕ (Vec ℕ Global) → Type 0
ArePlaces es m = (key : ℕ) → places_of m key ≡ places_in es key

-- items in the order of their places, all below the next one, and their index
pub record IsListed {T : Type 0} (es : List (ℕ × Keyed T)) (places : BTreeMap ℕ (Vec ℕ Global)) (next : ℕ) : Type 0 where
  pub ordered : AreOrdered es
  pub below : AreBelow next es
  pub by_key : ArePlaces es places

-- a key has one more place
abbrev pub AddsPlace : (key place : ℕ) (old new : BTreeMap ℕ (Vec ℕ Global)) → Type 0
AddsPlace key place old new =
    (k : ℕ) → places_of new k ≡ (if key == k then and_last (places_of old k) place else places_of old k)

-- a key loses its last place, and the others stay
abbrev pub DropsPlace : (key place : ℕ) (old new : BTreeMap ℕ (Vec ℕ Global)) → Type 0
DropsPlace key place old new =
    (k : ℕ) → places_of old k ≡ (if key == k then and_last (places_of new k) place else places_of new k)

-- nothing changes
abbrev pub SamePlaces : (old new : BTreeMap ℕ (Vec ℕ Global)) → Type 0
SamePlaces old new = (k : ℕ) → places_of new k ≡ places_of old k

-- entries are removed one after another
abbrev pub remove_each : {X : Type 0} → List ℕ → List (ℕ × X) → List (ℕ × X)
remove_each [] es = es
remove_each (k ∷ ks) es = remove_each ks (remove_entry (is_at (nat_cmp k)) es)
