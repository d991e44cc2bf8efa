-- What comes due, in rows of one moment each. Ours
use Rattle.std.specs.Prelude.{◌≡◌, ℕ, ◌<◌, List, [], ◌∷◌, ◌++◌, map, length, Option, Some, None, nat_lt, if◌then◌else◌}
use Rattle.std.specs.List.{AllByRecursion}
use Rattle.std.specs.declared.collections.VecDeque.{VecDeque}
use Rattle.std.specs.declared.alloc.Global.{Global}
use Rattle.page_base.specs.declared.moment.Micros.{Micros}

-- a row under its moment
abbrev pub Row : (V : Type 0) → Type 0
Row V = Micros × VecDeque V Global

-- the values of a row, each with its moment
abbrev pub values_of_row : {V : Type 0} → Row V → List (ℕ × V)
values_of_row row = map (λ v. (row.0.0, v)) row.1.items

-- the values of all rows
abbrev pub values_of_rows : {V : Type 0} → List (Row V) → List (ℕ × V)
values_of_rows [] = []
values_of_rows (row ∷ rows) = values_of_row row ++ values_of_rows rows

-- no row is empty
abbrev pub AreFilled : {V : Type 0} → List (Row V) → Type 0
AreFilled rows = AllByRecursion (λ row. 0 < length row.1.items) rows

-- one more value, behind all those that are due no later
abbrev pub with_due : {V : Type 0} → (due : ℕ) → V → List (ℕ × V) → List (ℕ × V)
with_due due v [] = (due, v) ∷ []
with_due due v (e ∷ es) = if nat_lt due e.0 then (due, v) ∷ e ∷ es else e ∷ with_due due v es

-- the rows have this value too
abbrev pub AddsDue : {V : Type 0} → (due : ℕ) → V → (old new : List (Row V)) → Type 0
AddsDue due v old new = values_of_rows new ≡ with_due due v (values_of_rows old)

-- the first of them, and the others
abbrev pub first_due : {V : Type 0} → List (ℕ × V) → Option (ℕ × V)
first_due [] = None
first_due (e ∷ es) = Some e

abbrev pub after_first : {V : Type 0} → List (ℕ × V) → List (ℕ × V)
after_first [] = []
after_first (e ∷ es) = es

-- the value that was added last, at this moment, is taken back: all is as it was before
abbrev pub TakesBack : {V : Type 0} → (due : ℕ) → (old new : List (ℕ × V)) → Type 0
TakesBack {V = V} due old new = (v : V) (before : List (ℕ × V)) → old ≡ with_due due v before → new ≡ before
