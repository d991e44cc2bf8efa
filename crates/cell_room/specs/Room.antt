-- What is always true of a room.
use Rattle.std.specs.Prelude.{◌≡◌, ℕ, ◌<◌, Some}
use Rattle.slab.specs.Slab.{Slab, get, HasRoomFor}
use Rattle.cell_room.specs.declared.room.Stored.{Stored}

-- the spare items fit, and each live cell has the generation of an earlier insert
pub record IsRoom {T : Type 0} (cells : Slab (Stored T)) (spare inserts : ℕ) : Type 0 where
  pub fits : HasRoomFor cells spare
  pub older : (key : ℕ) (stored : Stored T) → get cells key ≡ Some stored → stored.generation < inserts
