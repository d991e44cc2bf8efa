-- Where the record of a signal is.
use Rattle.std.specs.Prelude.{◌≡◌, ℕ, suc, if◌then◌else◌, List, [], ◌∷◌, map, Option, Some, None, ◌==◌, nat_eq}
use Rattle.std.specs.BTreeMap.{BTreeMap, get}
use Rattle.std.specs.List.{IsDistinct}
use Rattle.std.specs.Option.{option_map}
use Rattle.std.specs.Ordering.{nat_cmp}
use Rattle.page_parts.specs.TaskSignals.{PrioRecord, Prios}

-- the first place of a number in a list, counted from 0
abbrev pub place_in : List ℕ → ℕ → Option ℕ
place_in [] n = None
place_in (m ∷ ms) n = if m == n then Some 0 else option_map suc (place_in ms n)

-- the signals of the records
abbrev pub signals : Prios → List ℕ
signals ps = map (λ (r : PrioRecord). r.signal) ps

-- each signal has one record, and the map has its place
pub record IsPlaced (ps : Prios) (places : BTreeMap ℕ ℕ) : Type 0 where
  pub distinct : IsDistinct nat_eq (signals ps)
  pub placed : (s : ℕ) → get nat_cmp places s ≡ place_in (signals ps) s
