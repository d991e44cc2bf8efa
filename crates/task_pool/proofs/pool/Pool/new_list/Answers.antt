use Rattle.std.proofs.Common.{List, ap}
use Rattle.task_pool.specs.Lists.{Entry}
use Rattle.task_pool.specs.Links.{reading}
use Rattle.cell_room.specs.Cells.{item_at}
use Rattle.task_pool.proofs.Pools.{list_made, reads, sound}
use Rattle.task_pool.proofs.pool.Pool.new_list.Goals as goal

pub invariant_of-self-2 : goal.invariant_of-self-2
invariant_of-self-2 g c = rw c.in_ok-push.ensures.items (sound _ _ _ _ (list_made _ _ _ _ c.self.invariant))

pub returns-clause-made : goal.returns-clause-made
returns-clause-made g c =
    let lists = reading c.self.inside.room c.self.inside.ends.items in
    let made = reads _ _ _ _ (list_made (item_at c.self.inside.room) c.self.inside.ends.items lists c.self.inside.room.inserts c.self.invariant) in
    rw (← c.self.view_is, c.in_ok-push.ensures.items)
    (ap (λ (ls : List (List (Entry g.row.T.Denot))). record { lists = ls; spare = c.self.inside.room.spare; inserts = c.self.inside.room.inserts }) made)
