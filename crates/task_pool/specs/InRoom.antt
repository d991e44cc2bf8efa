-- Lists in a room: the links are those of the lists, and each live cell stands in exactly one list, once. Ours.
use Rattle.std.specs.Prelude.{◌≡◌, ◌≢◌, ◌⊎◌, ℕ, ◌≤◌, List, [], ◌∷◌, length, map, Option, Some, None, slice_index_or}
use Rattle.cell_room.specs.Cells.{Cells, item_at}
use Rattle.cell_room.specs.declared.room.Cell.{Cell}
use Rattle.task_pool.specs.Lists.{Entry}
use Rattle.task_pool.specs.Links.{reading}
use Rattle.task_pool.specs.declared.links.Node.{Node}
use Rattle.task_pool.specs.declared.links.First.{First}
use Rattle.task_pool.specs.declared.links.Ends.{Ends}

module _ {T : Type 0} where
  -- the first cell of these entries; where there are none, what comes after them
  abbrev pub first_cell : List (Entry T) → Option Cell → Option Cell
  first_cell [] after = after
  first_cell (entry ∷ rest) after = Some entry.cell

  -- the last cell of these entries; where there are none, what comes before them
  abbrev pub last_cell : Option Cell → List (Entry T) → Option Cell
  last_cell before [] = before
  last_cell before (entry ∷ rest) = last_cell (Some entry.cell) rest

  -- the first cell of a list and its number
  abbrev pub first_of : List (Entry T) → Option First
  first_of [] = None
  first_of (entry ∷ rest) = Some (record { cell = entry.cell; number = entry.number })

  -- where a list begins and ends
  abbrev pub ends_of : List (Entry T) → Ends
  ends_of entries = record { first = first_of entries; last = last_cell None entries }

  -- these entries stand in list l one after another, behind one cell and in front of another
  abbrev pub IsLinked : (Cell → Option (Node T)) → ℕ → (before : Option Cell) → List (Entry T) → (after : Option Cell)
      → Type 0
  IsLinked look l before [] after = Unit {0}
  IsLinked look l before (entry ∷ rest) after =
      (look entry.cell ≡ Some (record {
        list = l;
        number = entry.number;
        item = entry.item;
        before = before;
        after = first_cell rest after;
      }))
      × IsLinked look l (Some entry.cell) rest after

  -- none of these entries stands in the cell
  abbrev pub Apart : Cell → List (Entry T) → Type 0
  Apart cell [] = Unit {0}
  Apart cell (entry ∷ rest) = (entry.cell ≢ cell) × Apart cell rest

  -- no two entries stand in one cell
  abbrev pub Once : List (Entry T) → Type 0
  Once [] = Unit {0}
  Once (entry ∷ rest) = Apart entry.cell rest × Once rest

  -- one of these entries stands in the cell
  abbrev pub IsIn : Cell → List (Entry T) → Type 0
  IsIn cell [] = ⊥
  IsIn cell (entry ∷ rest) = (entry.cell ≡ cell) ⊎ IsIn cell rest

  -- the lists stand in the room: each is linked from its first cell to its last one, and each live cell stands in the list that its node
  -- names, once
  pub record IsPoolOf (look : Cell → Option (Node T)) (ends : List Ends) (lists : List (List (Entry T))) (inserts : ℕ) : Type 0 where
    pub begun : ends ≡ map ends_of lists
    pub linked : (l : ℕ) → IsLinked look l None (slice_index_or lists l []) None
    pub once : (l : ℕ) → Once (slice_index_or lists l [])
    pub each : (cell : Cell) (node : Node T) → look cell ≡ Some node → IsIn cell (slice_index_or lists node.list [])
    pub few : (l : ℕ) → length (slice_index_or lists l []) ≤ inserts

  -- what is read along the links stands so in the room
  abbrev pub IsPool : Cells (Node T) → List Ends → Type 0
  IsPool room ends = IsPoolOf (item_at room) ends (reading room ends) room.inserts
