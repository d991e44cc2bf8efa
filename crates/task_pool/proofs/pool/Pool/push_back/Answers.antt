use Rattle.std.proofs.Common.{◌<◌, length, ◌∙◌}
use Rattle.task_pool.specs.Links.{reading}
use Rattle.task_pool.proofs.Pools.{pushed, absent-found}
use Rattle.task_pool.proofs.pool.Pool.push_back.Goals as goal

pub invariant_of-self : goal.invariant_of-self
invariant_of-self g c =
    let inside : c.args.l.0 < length (reading c.self.inside.room c.self.inside.ends.items) = rw (← c.self.view_is) at c.requires.list in
    (pushed c.self.inside.room c.insert.new.self c.set_after.new.room c.self.inside.ends.items c.args.l.0 (record { cell = c.in-Ok.cell; number = c.args.number; item = c.args.item }) c.index.result.now c.or.result
    c.self.invariant inside c.index.ensures c.in-Ok.ensures.fresh c.in-Ok.ensures.put c.set_after.ensures.relinked c.or.ensures (c.set_after.ensures.inserts ∙ c.in-Ok.ensures.inserts)).0

pub returns-in-Ok-clause-put : goal.returns-in-Ok-clause-put
returns-in-Ok-clause-put g c =
    let inside : c.args.l.0 < length (reading c.self.inside.room c.self.inside.ends.items) = rw (← c.self.view_is) at c.requires.list in
    rw (← c.self.view_is)
    (pushed c.self.inside.room c.insert.new.self c.set_after.new.room c.self.inside.ends.items c.args.l.0 (record { cell = c.in-Ok.cell; number = c.args.number; item = c.args.item }) c.index.result.now c.or.result
    c.self.invariant inside c.index.ensures c.in-Ok.ensures.fresh c.in-Ok.ensures.put c.set_after.ensures.relinked c.or.ensures (c.set_after.ensures.inserts ∙ c.in-Ok.ensures.inserts)).1

pub returns-in-Ok-clause-fresh : goal.returns-in-Ok-clause-fresh
returns-in-Ok-clause-fresh g c = rw (← c.self.view_is) (absent-found _ _ _ _ c.in-Ok.cell c.self.invariant c.in-Ok.ensures.fresh)
