use Rattle.std.proofs.Common.{◌≡◌, ◌+◌, cond, Some, Result, IfOk, OnOk, eqb, nat_eq, sym, ◌∙◌, ap, subst, arith}
use Rattle.std.specs.HashMap.{get}
use Rattle.task_pool.specs.declared.pool.Ticket.{Ticket}
use Rattle.post_task.specs.Waiting.{Inserted}
use Rattle.post_task.specs.Levels.{waiting, task_in, HasRoom}
use Rattle.page_tasks.specs.declared.page_task.PageTask.{PageTask}
use Rattle.page_tasks.specs.declared.page_task.PageTask.TheVariants.{OfScheduler}
use Rattle.page_tasks.specs.Seen.{prio_source}
use Rattle.page_tasks.specs.Queued.{Queued, enqueued, with_spare, sched_task_for}
use Rattle.page_tasks.proofs.Priorities.{has_room, priority_there}
use Rattle.page_tasks.proofs.Scheduled.{IsPut, no_ticket}
use Rattle.page_tasks.proofs.SchedCalls.{IsSchedCall, still_standing, still_seen, put_standing, put_as, same_tickets, is_error, on_err}
use Rattle.page_tasks.proofs.page_tasks.PageTasks.enqueue.Given.{Over}
use Rattle.page_tasks.proofs.page_tasks.PageTasks.enqueue.Goals as goal

pub invariant_of-self : goal.invariant_of-self
invariant_of-self g c =
    let i = c.self.inside in
    same_tickets i.pool i.queues i.sched (λ r. get nat_eq i.tickets r) (λ r. get nat_eq c.make_place.new.tickets r) i.asked.items i.made c.make_place.ensures.same c.self.invariant

pub enqueue-put-requires-clause-room : goal.enqueue-put-requires-clause-room
enqueue-put-requires-clause-room g c = has_room c.self.inside.sched.levels c.args.self.now c.args.source (sym (ap (λ (q : Queued). q.priorities) c.self.view_is)) c.requires.room

pub enqueue-put-requires-clause-later : goal.enqueue-put-requires-clause-later
enqueue-put-requires-clause-later g c w in' = let h = (c.self.invariant.scheduled.each w in').below in omega (arith, h)

pub invariant_of-self-in_err-ticket : goal.invariant_of-self-in_err-ticket
invariant_of-self-in_err-ticket g c =
    let i = c.self.inside in
    let call : IsSchedCall i.pool c.enqueue-put.new.pool i.sched c.enqueue-put.new.self =
    record { same = c.enqueue-put.ensures.same; kept = c.enqueue-put.ensures.kept; others = c.enqueue-put.ensures.others; count = c.enqueue-put.ensures.count } in
    let same : c.enqueue-put.new.pool ≡ i.pool = is_error c.enqueue-put.result c.in_err-ticket.ensures.err c.enqueue-put.ensures.err in
    still_standing i.pool c.enqueue-put.new.pool i.queues i.sched c.enqueue-put.new.self (λ r. get nat_eq i.tickets r) (λ r. get nat_eq c.make_place.new.tickets r) i.asked.items i.made c.self.invariant call same c.make_place.ensures.same

call : (g : Over) (c : goal.After-self-1 g) → IsSchedCall c.self.inside.pool c.enqueue-put.new.pool c.self.inside.sched c.enqueue-put.new.self
call g c = record { same = c.enqueue-put.ensures.same; kept = c.enqueue-put.ensures.kept; others = c.enqueue-put.ensures.others; count = c.enqueue-put.ensures.count }

put : (g : Over) (c : goal.After-self-1 g) → let i = c.self.inside in
    IsPut i.sched.levels (waiting i.sched.levels i.pool) (waiting c.enqueue-put.new.self.levels c.enqueue-put.new.pool) (λ r. get nat_eq i.tickets r) (λ r. get nat_eq c.put_ticket.new.tickets r)
    i.pool.inserts c.enqueue-put.new.pool.inserts i.made (i.made + 1) c.args.registration c.args.source c.args.continuation c.in_ok-ticket.ticket.0
put g c =
    let i = c.self.inside in
    let r = c.args.registration in
    let new = c.enqueue-put.new.pool in
    let task : PageTask = OfScheduler (record { registration = r; source = c.args.source; continuation = c.args.continuation }) in
    let ok = c.in_ok-ticket.ensures.ok in
    let old : Queued = c.args.self.now in
    let room : HasRoom i.sched.levels c.args.source = has_room i.sched.levels old c.args.source (sym (ap (λ (q : Queued). q.priorities) c.self.view_is)) c.requires.room in
    record {
      next = omega arith;
      inserted = subst (λ (x : Result Ticket PageTask). IfOk x (λ t. Inserted (task_in i.sched c.args.source c.args.continuation (i.made + 1) task t.0) (waiting i.sched.levels i.pool) (waiting c.enqueue-put.new.self.levels new))) ok c.enqueue-put.ensures.waits;
      generation = subst (λ (x : Result Ticket PageTask). IfOk x (λ t. t.0.generation ≡ i.pool.inserts)) ok c.enqueue-put.ensures.generation;
      inserts = subst (λ (x : Result Ticket PageTask). OnOk x (new.inserts ≡ i.pool.inserts + 1)) ok c.enqueue-put.ensures.inserts;
      none = no_ticket i.sched.levels (waiting i.sched.levels i.pool) (λ q. get nat_eq i.tickets q) i.pool.inserts i.made c.self.invariant.scheduled r
          (ap (λ (q : Queued). sched_task_for r q) c.self.view_is ∙ c.requires.once);
      ticket = λ q. c.put_ticket.ensures q ∙ ap (λ o. cond (eqb r q) (Some c.in_ok-ticket.ticket) o) (c.make_place.ensures.same q);
      priority = priority_there i.sched.levels c.args.source c.self.invariant.lists.kept.fixed room;
    }

pub invariant_of-self-2 : goal.invariant_of-self-2
invariant_of-self-2 g c =
    let i = c.self.inside in
    put_standing i.pool c.enqueue-put.new.pool i.queues i.sched c.enqueue-put.new.self (λ r. get nat_eq i.tickets r) (λ r. get nat_eq c.put_ticket.new.tickets r) i.asked.items i.made c.self.invariant (call g c)
    (i.made + 1) c.args.registration c.args.source c.args.continuation c.in_ok-ticket.ticket.0 (put g c)

pub returns-clause-enqueued : goal.returns-clause-enqueued
returns-clause-enqueued g c =
    let i = c.self.inside in
    put_as i.pool c.enqueue-put.new.pool i.queues i.sched c.enqueue-put.new.self (λ r. get nat_eq i.tickets r) (λ r. get nat_eq c.put_ticket.new.tickets r) i.asked.items i.made c.self.invariant (call g c)
    (i.made + 1) c.args.registration c.args.source c.args.continuation c.in_ok-ticket.ticket.0 (put g c)
    ∙ ap (λ (q : Queued). with_spare c.enqueue-put.new.pool.spare (enqueued c.args.registration (prio_source c.args.source) c.args.continuation q)) c.self.view_is

pub returns-clause-spare : goal.returns-clause-spare
returns-clause-spare g c = omega (arith, ap (λ (q : Queued). q.spare) c.self.view_is, c.enqueue-put.ensures.spare)

pub returns-in_err-make_place-clause-spare : goal.returns-in_err-make_place-clause-spare
returns-in_err-make_place-clause-spare g c = omega (arith, ap (λ (q : Queued). q.spare) c.self.view_is)

pub returns-in_err-make_place-clause-err : goal.returns-in_err-make_place-clause-err
returns-in_err-make_place-clause-err g c = on_err _ c.self.view_is

pub returns-in_err-ticket-clause-spare : goal.returns-in_err-ticket-clause-spare
returns-in_err-ticket-clause-spare g c = omega (arith, ap (λ (q : Queued). q.spare) c.self.view_is, c.enqueue-put.ensures.spare)

pub returns-in_err-ticket-clause-err : goal.returns-in_err-ticket-clause-err
returns-in_err-ticket-clause-err g c =
    let i = c.self.inside in
    let call : IsSchedCall i.pool c.enqueue-put.new.pool i.sched c.enqueue-put.new.self =
    record { same = c.enqueue-put.ensures.same; kept = c.enqueue-put.ensures.kept; others = c.enqueue-put.ensures.others; count = c.enqueue-put.ensures.count } in
    let same : c.enqueue-put.new.pool ≡ i.pool = is_error c.enqueue-put.result c.in_err-ticket.ensures.err c.enqueue-put.ensures.err in
    on_err _ (still_seen i.pool c.enqueue-put.new.pool i.queues i.sched c.enqueue-put.new.self (λ r. get nat_eq i.tickets r) (λ r. get nat_eq i.tickets r) i.asked.items i.made c.self.invariant call same
    ∙ c.self.view_is)
