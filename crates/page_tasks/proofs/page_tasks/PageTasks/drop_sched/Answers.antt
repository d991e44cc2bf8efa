use Rattle.std.proofs.Common.{◌≡◌, ℕ, ◌+◌, List, Option, None, Some, nat_eq, sym, ◌∙◌, ap}
use Rattle.std.specs.HashMap.{get}
use Rattle.page_model.specs.State as Model
use Rattle.page_parts.specs.Words.{is_there}
use Rattle.task_pool.specs.declared.pool.Ticket.{Ticket}
use Rattle.post_task.specs.Waiting.{ordered}
use Rattle.post_task.specs.Levels.{waiting}
use Rattle.page_tasks.specs.Queued.{Queued, with_spare, sched_task_for, without_registration}
use Rattle.page_tasks.specs.Standing.{seen_in}
use Rattle.page_tasks.proofs.Scheduled.{no_task, nothing_left, there_is}
use Rattle.page_tasks.proofs.SchedCalls.{IsSchedCall, same_tickets, gone_same, named_waits, not_none, on_some, left_standing, left_as}
use Rattle.page_tasks.proofs.page_tasks.PageTasks.drop_sched.Given.{Over}
use Rattle.page_tasks.proofs.page_tasks.PageTasks.drop_sched.Goals as goal

no_ticket : (g : Over) (c : goal.In_default g) → get nat_eq c.self.inside.tickets c.args.registration ≡ None
no_ticket g c = sym c.take_ticket.ensures.ticket ∙ c.in_default.is

pub invariant_of-self : goal.invariant_of-self
invariant_of-self g c =
    let i = c.self.inside in
    let old : ℕ → Option Ticket = λ r. get nat_eq i.tickets r in
    let now : ℕ → Option Ticket = λ r. get nat_eq c.take_ticket.new.tickets r in
    same_tickets i.pool i.queues i.sched old now i.asked.items i.made (gone_same old now c.args.registration (no_ticket g c) c.take_ticket.ensures.gone) c.self.invariant

pub returns-in_default-clause-there : goal.returns-in_default-clause-there
returns-in_default-clause-there g c =
    let i = c.self.inside in
    sym (ap is_there (no_task i.sched.levels (waiting i.sched.levels i.pool) (λ r. get nat_eq i.tickets r) i.pool.inserts i.made c.self.invariant.scheduled c.args.registration (no_ticket g c)))
    ∙ ap (λ (q : Queued). is_there (sched_task_for c.args.registration q)) c.self.view_is

pub returns-in_default-clause-gone : goal.returns-in_default-clause-gone
returns-in_default-clause-gone g c =
    let i = c.self.inside in
    sym (ap (λ (ts : List Model.SchedTask). record (seen_in i.pool i.queues i.sched i.made) { sched_tasks = ts })
    (nothing_left i.sched.levels (waiting i.sched.levels i.pool) (λ r. get nat_eq i.tickets r) i.pool.inserts i.made c.self.invariant.scheduled c.args.registration (no_ticket g c)))
    ∙ ap (λ (q : Queued). with_spare i.pool.spare (without_registration c.args.registration q)) c.self.view_is

named : (g : Over) (c : goal.After-remove-arg-3-1 g) → get nat_eq c.self.inside.tickets c.args.registration ≡ Some c.in-Some.ticket
named g c = sym c.take_ticket.ensures.ticket ∙ c.in-Some.is

pub remove-requires-clause-ours : goal.remove-requires-clause-ours
remove-requires-clause-ours g c live =
    let i = c.self.inside in
    not_none _ (named_waits i.sched.levels (waiting i.sched.levels i.pool) (λ r. get nat_eq i.tickets r) i.pool.inserts i.made c.args.registration c.in-Some.ticket c.self.invariant.scheduled (named g c))

there : (g : Over) (c : goal.Joined-remove g) → get nat_eq c.self.inside.tickets c.args.registration ≡ Some c.in-Some.ticket
there g c = sym c.take_ticket.ensures.ticket ∙ c.in-Some.is

call : (g : Over) (c : goal.Joined-remove g) → IsSchedCall c.self.inside.pool c.remove.new.pool c.self.inside.sched c.remove.new.self
call g c = record { same = c.remove.ensures.same; kept = c.remove.ensures.kept; others = c.remove.ensures.others; count = c.remove.ensures.count }

pub invariant_of-self-2 : goal.invariant_of-self-2
invariant_of-self-2 g c =
    let i = c.self.inside in
    left_standing i.pool c.remove.new.pool i.queues i.sched c.remove.new.self (λ r. get nat_eq i.tickets r) (λ r. get nat_eq c.take_ticket.new.tickets r) i.asked.items i.made c.self.invariant (call g c)
    c.args.registration c.in-Some.ticket (there g c) c.remove.ensures.gone c.take_ticket.ensures.gone c.remove.ensures.inserts

pub returns-clause-there : goal.returns-clause-there
returns-clause-there g c =
    let i = c.self.inside in
    sym (there_is i.sched.levels (waiting i.sched.levels i.pool) (λ r. get nat_eq i.tickets r) i.pool.inserts i.made c.self.invariant.scheduled c.args.registration c.in-Some.ticket (there g c))
    ∙ ap (λ (q : Queued). is_there (sched_task_for c.args.registration q)) c.self.view_is

pub returns-clause-gone : goal.returns-clause-gone
returns-clause-gone g c =
    let i = c.self.inside in
    left_as i.pool c.remove.new.pool i.queues i.sched c.remove.new.self (λ r. get nat_eq i.tickets r) (λ r. get nat_eq c.take_ticket.new.tickets r) i.asked.items i.made c.self.invariant (call g c)
    c.args.registration c.in-Some.ticket (there g c) c.remove.ensures.gone c.take_ticket.ensures.gone c.remove.ensures.inserts
    ∙ ap (λ (q : Queued). with_spare c.remove.new.pool.spare (without_registration c.args.registration q)) c.self.view_is

pub returns-clause-spare : goal.returns-clause-spare
returns-clause-spare g c =
    let i = c.self.inside in
    let found = named_waits i.sched.levels (waiting i.sched.levels i.pool) (λ r. get nat_eq i.tickets r) i.pool.inserts i.made c.args.registration c.in-Some.ticket c.self.invariant.scheduled (there g c) in
    on_some {P = c.remove.new.pool.spare ≡ i.pool.spare + 1} ordered _ c.remove.result found c.remove.ensures.item c.remove.ensures.spare ∙ ap (λ (q : Queued). q.spare + 1) c.self.view_is
