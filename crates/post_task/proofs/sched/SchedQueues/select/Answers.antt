use Rattle.std.proofs.Common.{List, Option, get_or, subst, ◌∙◌, ap}
use Rattle.post_task.specs.declared.tournament.Head.{Head}
use Rattle.post_task.specs.Levels.{Sched, queue_in, in_queue}
use Rattle.post_task.specs.Tournament.{HasNone, Wins}
use Rattle.post_task.proofs.Best.{best, nothing, any_level}
use Rattle.post_task.proofs.sched.SchedQueues.select.Goals as goal

pub returns-in-Some : goal.returns-in-Some
returns-in-Some g c =
    let w = c.in-Some.winner in
    let levels = c.args.self.now.levels in
    let P : List (Option Head) → Type 0 = λ heads. Wins heads w in
    let b = best c.args.pool.now levels w any_level c.requires.lists (subst P (ap (λ (s : Sched). s.heads) c.self.view_is ∙ c.requires.heads) c.in-Some.ensures) in
    (in_queue (queue_in (get_or levels w.place any_level) b.from.continuation) b.from.entry, b.first, b.from.order)

pub returns-in-None : goal.returns-in-None
returns-in-None g c =
    let P : List (Option Head) → Type 0 = λ heads. HasNone heads in
    nothing c.args.pool.now c.args.self.now.levels (subst P (ap (λ (s : Sched). s.heads) c.self.view_is ∙ c.requires.heads) c.in-None.ensures)
