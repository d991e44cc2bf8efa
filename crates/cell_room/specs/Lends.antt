-- What a room ends as, where a `&mut` to one of its items is returned.
use Rattle.std.specs.Prelude.{ℕ, Option, Some, None, slice_index_or, slice_set}
use Rattle.std.specs.Borrow.{Lends, LendsIf, Fml, RattleType, MutBor}
use Rattle.cell_room.specs.Cells.{Cells}
use Rattle.cell_room.specs.declared.room.Stored.{Stored}
use Rattle.cell_room.specs.contracts.room.Room.{the_row}

module _ {T : Type 0} where
  -- what stands there, with another item
  abbrev pub with_item : Option (Stored T) → T → Option (Stored T)
  with_item None item = None
  with_item (Some stored) item = Some (record stored { item = item })

  -- the room after a write through `get_mut`
  abbrev pub with_item_at : Cells T → ℕ → T → Cells T
  with_item_at room key item = record room { slots = slice_set room.slots key (with_item (slice_index_or room.slots key None) item) }

module _ (T : RattleType) (room : MutBor (Cells T.Denot)) (key : ℕ) where
  -- once the borrow r ends, the item under the key is the last value written through r
  abbrev pub LendsItem : MutBor T.Denot → Fml
  LendsItem r = Lends (the_row T) T room r (with_item_at room.now key)

  -- the same where r is a reference, and at `None` the room stays as it is
  abbrev pub LendsItemIf : Option (MutBor T.Denot) → Fml
  LendsItemIf r = LendsIf (the_row T) T room r (with_item_at room.now key) room.now
