-- Items in the order of numbers that they have.
use Rattle.std.specs.Prelude.{ℕ, zero, suc, List, [], ◌++◌, ◌==◌, find, Option}
use Rattle.std.specs.Option.{option_to_list}

-- the item with a number
abbrev pub numbered_as : {X : Type 0} → (X → ℕ) → ℕ → List X → Option X
numbered_as number n items = find (λ item. number item == n) items

-- the items with the numbers from 1 to the last one, in this order
abbrev pub in_order : {X : Type 0} → (X → ℕ) → ℕ → List X → List X
in_order number zero items = []
in_order number (suc last) items = in_order number last items ++ option_to_list (numbered_as number (suc last) items)
