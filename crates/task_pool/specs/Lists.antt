-- Lists of numbered items that stand in cells. Ours: the standards do not say how queues are stored.
use Rattle.std.specs.Prelude.{◌≡◌, ℕ, ◌==◌, Bool, ◌&&◌, not, List, [], ◌∷◌, ◌++◌, length, Option, Some, None, slice_index_or, slice_set}
use Rattle.std.specs.List.{find, filter, flat_map}
use Rattle.cell_room.specs.declared.room.Cell.{Cell}

-- an item in a list: its cell, its number and the item
pub record Entry (T : Type 0) : Type 0 where
  pub cell : Cell
  pub number : ℕ
  pub item : T

-- the lists from number 0 on; how many items more are sure to find memory; how many items were put in before
pub record Lists (T : Type 0) : Type 0 where
  pub lists : List (List (Entry T))
  pub spare : ℕ
  pub inserts : ℕ

-- whether two cells are the same
abbrev pub same_cell : (a b : Cell) → Bool
same_cell a b = (a.key == b.key) && (a.generation == b.generation)

module _ {T : Type 0} where
  -- the list with this number
  abbrev pub list_of : Lists T → ℕ → List (Entry T)
  list_of pool l = slice_index_or pool.lists l []

  -- an item with a number, in this cell
  abbrev pub entry_at : Cell → (number : ℕ) → T → Entry T
  entry_at cell number item = record { cell = cell; number = number; item = item }

  -- the lists, with one more entry at the end of list l
  abbrev pub with_last : Lists T → (l : ℕ) → Entry T → List (List (Entry T))
  with_last pool l entry = slice_set pool.lists l (list_of pool l ++ entry ∷ [])

  -- what is handed out of an entry
  abbrev pub numbered : Entry T → ℕ × T
  numbered entry = (entry.number, entry.item)

  -- the first entry of a list
  abbrev pub first_entry : List (Entry T) → Option (Entry T)
  first_entry [] = None
  first_entry (entry ∷ rest) = Some entry

  -- the entries of all lists, list by list
  abbrev pub all_of : List (List (Entry T)) → List (Entry T)
  all_of lists = flat_map (λ (entries : List (Entry T)). entries) lists

  -- whether an entry stands in this cell
  abbrev pub in_cell : Cell → Entry T → Bool
  in_cell cell entry = same_cell entry.cell cell

  -- this is the entry of list l in a cell
  abbrev pub StandsIn : Lists T → (l : ℕ) → Cell → Entry T → Type 0
  StandsIn pool l cell entry = find (in_cell cell) (list_of pool l) ≡ Some entry

  -- the entry in this cell, in whatever list
  abbrev pub entry_of : Lists T → Cell → Option (Entry T)
  entry_of pool cell = find (in_cell cell) (all_of pool.lists)

  -- a list without the entry in this cell
  abbrev pub without : Cell → List (Entry T) → List (Entry T)
  without cell entries = filter (λ entry. not (in_cell cell entry)) entries

  -- how many entries stand in the lists
  abbrev pub count : List (List (Entry T)) → ℕ
  count lists = length (all_of lists)
