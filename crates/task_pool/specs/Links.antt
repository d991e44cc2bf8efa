-- What stands in a room of nodes, read along their links. Ours: the standards do not say how queues are stored.
use Rattle.std.specs.Prelude.{◌≡◌, ℕ, zero, suc, if◌then◌else◌, Bool, false, List, [], ◌∷◌, map, Option, Some, None}
use Rattle.std.specs.Option.{option_map}
use Rattle.cell_room.specs.Cells.{Cells, item_at}
use Rattle.cell_room.specs.declared.room.Cell.{Cell}
use Rattle.task_pool.specs.Lists.{Entry, same_cell}
use Rattle.task_pool.specs.declared.links.Node.{Node}
use Rattle.task_pool.specs.declared.links.First.{First}
use Rattle.task_pool.specs.declared.links.Ends.{Ends}

-- whether this is the cell, where there is one
abbrev pub is_cell : Option Cell → Cell → Bool
is_cell None other = false
is_cell (Some cell) other = same_cell other cell

module _ {T : Type 0} where
  -- what is read from a cell along the links, for so many cells at most
  abbrev pub along : ℕ → (Cell → Option (Node T)) → Option Cell → List (Entry T)
  along zero look from = []
  along (suc most) look None = []
  along (suc most) look (Some cell) = elim (look cell) [
    | None ↦ []
    | Some node ↦ record { cell = cell; number = node.number; item = node.item } ∷ along most look node.after
  ]

  -- each list as it is read from its first cell on: no list is longer than the number of inserts
  abbrev pub reading : Cells (Node T) → List Ends → List (List (Entry T))
  reading room ends = map (λ (e : Ends). along room.inserts (item_at room) (option_map (λ first. first.cell) e.first)) ends

  -- a node that follows another cell
  abbrev pub with_before : Option Cell → Node T → Node T
  with_before before node = record node { before = before }

  -- a node that goes on to another cell
  abbrev pub with_after : Option Cell → Node T → Node T
  with_after after node = record node { after = after }

  -- the first of a list that begins with this cell
  abbrev pub first_at : (Cell → Option (Node T)) → Option Cell → Option First
  first_at look None = None
  first_at look (Some cell) = option_map (λ (node : Node T). record { cell = cell; number = node.number }) (look cell)

  -- the node in one cell, where there is one, is changed, and every other cell keeps what it had
  pub record Relinks (old new : Cell → Option (Node T)) (cell : Option Cell) (change : Node T → Node T) : Type 0 where
    pub each : (other : Cell) → new other ≡ (if is_cell cell other then option_map change (old other) else old other)

-- the ends of a list once a cell has left that stood between these two: the first of what follows it is first where nothing stood before,
-- and what stood before is last where nothing follows
abbrev pub joined : Ends → (before : Option Cell) → Option First → (after : Option Cell) → Ends
joined ends before first after =
    record {
      first = elim before [ None ↦ first | Some cell ↦ ends.first ];
      last = elim after [ None ↦ before | Some cell ↦ ends.last ];
    }
