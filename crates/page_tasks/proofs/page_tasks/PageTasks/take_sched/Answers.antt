use Rattle.std.proofs.Common.{◌≡◌, ℕ, ◌+◌, Option, Some, nat_eq, refl, sym, ◌∙◌, ap}
use Rattle.std.specs.HashMap.{get}
use Rattle.std.specs.List.{filter}
use Rattle.task_pool.specs.declared.pool.Ticket.{Ticket}
use Rattle.post_task.specs.Waiting.{lacks_cell}
use Rattle.post_task.specs.Levels.{waiting, TakesFirst}
use Rattle.page_tasks.specs.declared.page_task.PostedTask.{PostedTask}
use Rattle.page_tasks.specs.declared.page_task.PageTask.{PageTask}
use Rattle.page_tasks.specs.declared.page_task.PageTask.TheVariants.{OfSource, OfScheduler}
use Rattle.page_tasks.specs.Seen.{registration_in, sched_task}
use Rattle.page_tasks.specs.Queued.{Queued, with_spare, without_registration}
use Rattle.page_tasks.specs.Standing.{seen_in}
use Rattle.page_tasks.proofs.Firsts.{first_sched_is}
use Rattle.page_tasks.proofs.Scheduled.{taken_by_cell}
use Rattle.page_tasks.proofs.SchedCalls.{IsSchedCall, still_standing, left_standing, left_as}
use Rattle.page_tasks.proofs.page_tasks.PageTasks.take_sched.Given.{Over}
use Rattle.page_tasks.proofs.page_tasks.PageTasks.take_sched.Goals as goal

pub invariant_of-self : goal.invariant_of-self
invariant_of-self g c =
    let i = c.self.inside in
    let call : IsSchedCall i.pool c.take.new.pool i.sched c.take.new.self = record { same = c.take.ensures.same; kept = c.take.ensures.kept; others = c.take.ensures.others; count = c.take.ensures.count } in
    let tickets : ℕ → Option Ticket = λ r. get nat_eq i.tickets r in
    still_standing i.pool c.take.new.pool i.queues i.sched c.take.new.self tickets tickets i.asked.items i.made c.self.invariant call c.in_err-order.ensures.none (λ q. refl)

call : (g : Over) (c : goal.After-take_ticket g) → IsSchedCall c.self.inside.pool c.take.new.pool c.self.inside.sched c.take.new.self
call g c = record { same = c.take.ensures.same; kept = c.take.ensures.kept; others = c.take.ensures.others; count = c.take.ensures.count }

pub unreachable-requires : goal.unreachable-requires
unreachable-requires g c =
    let i = c.self.inside in
    let t = c.in_ok-order.ensures.first in
    let k = c.self.invariant.scheduled.each t.task t.first.waits in
    let item : c.in_ok-order.task ≡ t.task.item = ap (λ (x : ℕ × PageTask). x.1) t.is in
    let e : OfSource c.in-OfSource.field-0 ≡ OfScheduler (record { registration = registration_in t.task.item; source = t.task.source; continuation = t.task.continuation }) =
    sym c.in-OfSource.is ∙ item ∙ k.posted in
    cc

-- what stands in the place of a scheduler task
posted_in : PostedTask → PageTask → PostedTask
posted_in d (OfSource steps) = d
posted_in d (OfScheduler t) = t

first : (g : Over) (c : goal.After-take_ticket g) → TakesFirst (waiting c.self.inside.sched.levels c.self.inside.pool) (waiting c.take.new.self.levels c.take.new.pool) (c.in_ok-order.order, c.in_ok-order.task)
first g c = c.in_ok-order.ensures.first

posted : (g : Over) (c : goal.After-take_ticket g) → let t = (first g c).task in c.in-OfScheduler.posted ≡ record { registration = registration_in t.item; source = t.source; continuation = t.continuation }
unfolding posted_in
posted g c =
    let f = first g c in
    let k = c.self.invariant.scheduled.each f.task f.first.waits in
    ap (posted_in c.in-OfScheduler.posted) (sym c.in-OfScheduler.is ∙ ap (λ (x : ℕ × PageTask). x.1) f.is ∙ k.posted)

there : (g : Over) (c : goal.After-take_ticket g) → get nat_eq c.self.inside.tickets c.in-OfScheduler.posted.registration ≡ Some (record { 0 = (first g c).task.cell })
there g c =
    let f = first g c in
    ap (λ (x : PostedTask). get nat_eq c.self.inside.tickets x.registration) (posted g c) ∙ (c.self.invariant.scheduled.each f.task f.first.waits).ticket

left : (g : Over) (c : goal.After-take_ticket g) → let i = c.self.inside in
    waiting c.take.new.self.levels c.take.new.pool ≡ filter (lacks_cell (first g c).task.cell) (waiting i.sched.levels i.pool)
left g c =
    let i = c.self.inside in
    let f = first g c in
    taken_by_cell i.sched.levels (waiting i.sched.levels i.pool) (λ r. get nat_eq i.tickets r) i.pool.inserts i.made c.self.invariant.scheduled 0 f.task (waiting c.take.new.self.levels c.take.new.pool) f.rest

pub invariant_of-self-in-OfScheduler : goal.invariant_of-self-in-OfScheduler
invariant_of-self-in-OfScheduler g c =
    let i = c.self.inside in
    left_standing i.pool c.take.new.pool i.queues i.sched c.take.new.self (λ r. get nat_eq i.tickets r) (λ r. get nat_eq c.take_ticket.new.tickets r) i.asked.items i.made c.self.invariant (call g c)
    c.in-OfScheduler.posted.registration (record { 0 = (first g c).task.cell }) (there g c) (left g c) c.take_ticket.ensures.gone c.take.ensures.inserts

pub returns-clause-first : goal.returns-clause-first
returns-clause-first g c p is =
    let i = c.self.inside in
    let f = first g c in
    let q : Queued = c.args.self.now in
    let order : c.in_ok-order.order ≡ f.task.order = ap (λ (x : ℕ × PageTask). x.0) f.is in
    ap (λ (n : ℕ). Some (sched_task (record { registration = c.in-OfScheduler.posted.registration; source = c.in-OfScheduler.posted.source; continuation = c.in-OfScheduler.posted.continuation; order = n }))) order
    ∙ ap (λ (x : PostedTask). Some (sched_task (record { registration = x.registration; source = x.source; continuation = x.continuation; order = f.task.order }))) (posted g c)
    ∙ first_sched_is i.sched.levels (waiting i.sched.levels i.pool) (λ r. get nat_eq i.tickets r) i.pool.inserts i.made c.self.invariant.scheduled c.self.invariant.lists.kept.fixed
    q (ap (λ (x : Queued). x.sched_tasks) (sym c.self.view_is)) (ap (λ (x : Queued). x.priorities) (sym c.self.view_is)) p is f.task f.first

pub returns-clause-gone : goal.returns-clause-gone
returns-clause-gone g c =
    let i = c.self.inside in
    let new = c.take.new.pool in
    let r = c.in-OfScheduler.posted.registration in
    let spare : new.spare ≡ i.pool.spare + 1 = c.in_ok-order.ensures.spare in
    left_as i.pool new i.queues i.sched c.take.new.self (λ q. get nat_eq i.tickets q) (λ q. get nat_eq c.take_ticket.new.tickets q) i.asked.items i.made c.self.invariant (call g c)
    r (record { 0 = (first g c).task.cell }) (there g c) (left g c) c.take_ticket.ensures.gone c.take.ensures.inserts
    ∙ ap (λ (n : ℕ). with_spare n (without_registration r (seen_in i.pool i.queues i.sched i.made))) spare
    ∙ ap (λ (q : Queued). with_spare (q.spare + 1) (without_registration r q)) c.self.view_is
