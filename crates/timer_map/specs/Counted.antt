-- What stands for numbers that are counted up, each at its place in a row. Ours
use Rattle.std.specs.Prelude.{ℕ, suc, nat_eq, List, [], ◌∷◌, Option, Some, None}
use Rattle.std.specs.Map.{remove_entry}

-- the numbers from the first place's on that have something, with what they have
abbrev pub entries_from : {V : Type 0} → (first : ℕ) → List (Option V) → List (ℕ × V)
entries_from first [] = []
entries_from first (None ∷ places) = entries_from (suc first) places
entries_from first (Some v ∷ places) = (first, v) ∷ entries_from (suc first) places

-- those that are counted from 0
abbrev pub entries_of : {V : Type 0} → List (Option V) → List (ℕ × V)
entries_of places = entries_from 0 places

-- a number has this value, and the others have what they had
abbrev pub with_value : {V : Type 0} → (number : ℕ) → V → List (ℕ × V) → List (ℕ × V)
with_value number value entries = (number, value) ∷ remove_entry (nat_eq number) entries
