use Rattle.std.proofs.Common.{◌<◌, length, ap, ◌∙◌}
use Rattle.std.specs.Option.{option_map}
use Rattle.task_pool.specs.Links.{reading}
use Rattle.task_pool.specs.Lists.{numbered}
use Rattle.task_pool.proofs.Pools.{popped}
use Rattle.task_pool.proofs.pool.Pool.pop_front.Goals as goal

pub returns-clause-item : goal.returns-clause-item
returns-clause-item g c =
    let inside : c.args.l.0 < length (reading c.self.inside.room c.self.inside.ends.items) = rw (← c.self.view_is) at c.requires in
    let both = popped c.self.inside.room c.self.inside.ends.items c.args.l.0 c.index.result.now c.in_ok-first.first c.self.invariant inside c.index.ensures c.in_ok-first.was in
    c.unlink.ensures.item ∙ rw (← c.self.view_is) (ap (option_map numbered) both.1)

pub returns-clause-gone : goal.returns-clause-gone
returns-clause-gone g c =
    let inside : c.args.l.0 < length (reading c.self.inside.room c.self.inside.ends.items) = rw (← c.self.view_is) at c.requires in
    let both = popped c.self.inside.room c.self.inside.ends.items c.args.l.0 c.index.result.now c.in_ok-first.first c.self.invariant inside c.index.ensures c.in_ok-first.was in
    c.unlink.ensures.gone ∙ rw (← c.self.view_is) both.0
