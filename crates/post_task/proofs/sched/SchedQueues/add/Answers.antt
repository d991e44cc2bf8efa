use Rattle.std.proofs.Common.{◌≡◌, ◌+◌, [], ◌∷◌, length, sym, ◌∙◌, ap, subst, arith, length-append}
use Rattle.post_task.specs.declared.level.PrioSource.{PrioSource}
use Rattle.post_task.specs.Levels.{StandsNext, place_of}
use Rattle.post_task.proofs.Places.{rise_push}
use Rattle.post_task.proofs.sched.SchedQueues.add.Goals as goal

pub put-requires-clause-next : goal.put-requires-clause-next
put-requires-clause-next g c =
    let P : PrioSource → Type 0 = λ source. StandsNext source c.args.self.now.levels in
    subst P (sym c.in_ok-level.ensures.made.source_is) c.requires.next

pub put-requires-clause-fresh : goal.put-requires-clause-fresh
put-requires-clause-fresh g c = ap (place_of c.args.self.now.levels) c.in_ok-level.ensures.made.source_is ∙ c.requires.fresh

pub put-requires-clause-rising : goal.put-requires-clause-rising
put-requires-clause-rising g c rises =
    let lists = c.args.pool.now.lists in
    let made = c.in_ok-level.ensures.made in
    let first = made.plain in
    let second : c.in_ok-level.level.continuations.0 ≡ length lists + 1 = made.continuations ∙ length-append lists ([] ∷ []) in
    rise_push c.args.pool.now c.args.self.now.levels c.in_ok-level.level c.requires.kept rises (omega (arith, first)) (omega (arith, first, second))

pub returns-clause-added : goal.returns-clause-added
returns-clause-added g c = record { level = c.in_ok-level.level; is = c.in_ok-put.ensures.levels; made = c.in_ok-level.ensures.made }
