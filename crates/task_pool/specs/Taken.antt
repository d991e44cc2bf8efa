-- An item that was taken out of the list that it stood in. Ours: the standards do not say how queues are stored.
use Rattle.std.specs.Prelude.{◌≡◌, ℕ, ◌<◌, length, slice_set}
use Rattle.cell_room.specs.declared.room.Cell.{Cell}
use Rattle.task_pool.specs.Lists.{Entry, Lists, list_of, without}
use Rattle.task_pool.specs.declared.pool.Unlinked.{Unlinked}

module _ {T : Type 0} where
  -- the number and the item that were taken out
  abbrev pub taken : Unlinked T → ℕ × T
  taken unlinked = (unlinked.number, unlinked.item)

  -- an entry that was taken out of list l
  abbrev pub taken_from : ℕ → Entry T → Unlinked T
  taken_from l entry = record { list = record { 0 = l }; number = entry.number; item = entry.item }

  -- the entry in this cell has left list l; every other list is as it was
  pub record Leaves (cell : Cell) (l : ℕ) (old new : Lists T) : Type 0 where
    pub within : l < length old.lists
    pub lists : new.lists ≡ slice_set old.lists l (without cell (list_of old l))
