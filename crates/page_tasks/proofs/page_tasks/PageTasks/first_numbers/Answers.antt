use Rattle.std.proofs.Common.{ℕ, Option, List, nat_eq, set, sym, ◌∙◌, ap}
use Rattle.std.specs.HashMap.{get}
use Rattle.post_task.specs.Levels.{waiting}
use Rattle.page_tasks.specs.Queued.{Queued, runnables}
use Rattle.page_tasks.proofs.Firsts.{selected_is, numbers_are, view_is}
use Rattle.page_tasks.proofs.page_tasks.PageTasks.first_numbers.Goals as goal

pub returns-clause-numbers : goal.returns-clause-numbers
returns-clause-numbers g c p is =
    let i = c.self.inside in
    let q : Queued = c.args.self.now in
    let selected = selected_is i.sched.levels (waiting i.sched.levels i.pool) (λ r. get nat_eq i.tickets r) i.pool.inserts i.made c.self.invariant.scheduled c.self.invariant.lists.kept.fixed
    q (ap (λ (x : Queued). x.sched_tasks) (sym c.self.view_is)) (ap (λ (x : Queued). x.priorities) (sym c.self.view_is)) p is c.select.result c.select.ensures in
    ap (λ (ns : List (Option ℕ)). set ns 2 c.select.result) c.heads-numbers.ensures
    ∙ numbers_are i.pool i.queues i.asked.items i.made c.self.invariant.tasks q (ap (λ (x : Queued). x.tasks) (sym c.self.view_is)) p is c.select.result selected

pub returns-clause-runnable : goal.returns-clause-runnable
returns-clause-runnable g c p is = ap runnables (returns-clause-numbers g c p is) ∙ view_is p
