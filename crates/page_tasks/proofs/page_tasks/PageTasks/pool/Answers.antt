use Rattle.std.proofs.Common.{nat_eq, subst}
use Rattle.std.specs.HashMap.{get}
use Rattle.page_tasks.specs.Queued.{Queued}
use Rattle.page_tasks.specs.Held.{Holds}
use Rattle.page_tasks.proofs.HeldLemmas.{holds}
use Rattle.page_tasks.proofs.page_tasks.PageTasks.pool.Goals as goal

pub returns-clause-held : goal.returns-clause-held
returns-clause-held g c =
    let i = c.self.inside in
    subst (λ (q : Queued). Holds i.pool q) c.self.view_is (holds i.pool i.queues i.sched (λ r. get nat_eq i.tickets r) i.asked.items i.made c.self.invariant)
