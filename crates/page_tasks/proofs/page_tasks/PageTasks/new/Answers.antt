use Rattle.std.proofs.Common.{ℕ, List, [], Option, None, nat_eq, sym, ap, subst}
use Rattle.std.specs.HashMap.{get}
use Rattle.std.specs.Map.{lookup}
use Rattle.task_pool.specs.Lists.{Lists}
use Rattle.task_pool.specs.declared.pool.Ticket.{Ticket}
use Rattle.page_tasks.specs.declared.asked.Asked.{Asked}
use Rattle.page_tasks.specs.declared.page_task.PageTask.{PageTask}
use Rattle.page_tasks.specs.Standing.{IsStanding}
use Rattle.page_tasks.proofs.SchedCalls.{same_tickets}
use Rattle.page_tasks.proofs.page_tasks.PageTasks.new.Goals as goal

pub new_queues-requires-clause-lists : goal.new_queues-requires-clause-lists
new_queues-requires-clause-lists g c = ap (λ (p : Lists PageTask). p.lists) c.new-pool.ensures

pub new_queues-requires-clause-inserts : goal.new_queues-requires-clause-inserts
new_queues-requires-clause-inserts g c = ap (λ (p : Lists PageTask). p.inserts) c.new-pool.ensures

pub invariant_of-result : goal.invariant_of-result
invariant_of-result g c =
    let pool = c.new_queues.new.pool in
    let made = c.in_ok-queues in
    let tickets : ℕ → Option Ticket = λ r. get nat_eq c.new.result r in
    subst (λ (asked : List Asked). IsStanding pool made.queues made.sched tickets asked 0) (sym c.new-2.ensures.items)
    (same_tickets pool made.queues made.sched (λ r. None) tickets [] 0 (λ r. ap (lookup (nat_eq r)) c.new.ensures.empty) made.ensures.made.stand)

pub returns-clause-none : goal.returns-clause-none
returns-clause-none g c = c.in_ok-queues.ensures.made.seen

pub returns-clause-room : goal.returns-clause-room
returns-clause-room g c = c.in_ok-queues.ensures.room
