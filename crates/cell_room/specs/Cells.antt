-- A room of cells as a map from live cells to items. Ours: the standards do not say how queues are stored.
use Rattle.std.specs.Prelude.{◌≡◌, ◌≢◌, ℕ, ◌==◌, if◌then◌else◌, List, Option, Some, None, slice_index_or}
use Rattle.cell_room.specs.declared.room.Cell.{Cell}
use Rattle.cell_room.specs.declared.room.Stored.{Stored}

-- what stands under each key from 0 on, with its generation; how many items more are sure to find memory; how many inserts were made
pub record Cells (T : Type 0) : Type 0 where
  pub slots : List (Option (Stored T))
  pub spare : ℕ
  pub inserts : ℕ

module _ {T : Type 0} where
  -- the item that stands under a key, if it has this generation
  abbrev pub item_of : Option (Stored T) → ℕ → Option T
  item_of None generation = None
  item_of (Some stored) generation = if stored.generation == generation then Some stored.item else None

  -- the item of a cell, where the cell is live
  abbrev pub item_at : Cells T → Cell → Option T
  item_at room cell = item_of (slice_index_or room.slots cell.key None) cell.generation

  -- the new room has this in the cell, and every other cell keeps what it had
  pub record Changes (old new : Cells T) (cell : Cell) (item : Option T) : Type 0 where
    pub changed : item_at new cell ≡ item
    pub others : (other : Cell) → other ≢ cell → item_at new other ≡ item_at old other
