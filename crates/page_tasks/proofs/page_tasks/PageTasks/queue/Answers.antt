use Rattle.std.proofs.Common.{◌≡◌, ℕ, suc, ◌+◌, ◌<◌, ◌++◌, ◌∷◌, [], List, Option, Result, IfOk, OnOk, nat_eq, sym, ◌∙◌, ap, subst, arith}
use Rattle.std.specs.HashMap.{get}
use Rattle.std.specs.Option.{option_to_list}
use Rattle.task_pool.specs.Lists.{Entry, Lists}
use Rattle.task_pool.specs.declared.pool.Ticket.{Ticket}
use Rattle.task_queues.specs.declared.queues.Queues.{Queues}
use Rattle.task_queues.specs.BySource.{tasks_of, StandIn, Queued as IsQueued}
use Rattle.page_parts.specs.Words.{and_last}
use Rattle.page_tasks.specs.declared.asked.Asked.{Asked}
use Rattle.page_tasks.specs.declared.page_task.TaskSteps.{TaskSteps}
use Rattle.page_tasks.specs.declared.page_task.PageTask.{PageTask}
use Rattle.page_tasks.specs.Seen.{steps_of}
use Rattle.page_tasks.specs.Asking.{asked_by}
use Rattle.page_tasks.specs.Queued.{Queued, queued, with_spare}
use Rattle.page_tasks.specs.Standing.{seen_in, IsStanding}
use Rattle.page_tasks.proofs.SourceCalls.{IsSourceCall, the_entry, queued_standing, queued_as, not_asked}
use Rattle.page_tasks.proofs.SchedCalls.{is_error, on_err, not_both}
use Rattle.page_tasks.proofs.page_tasks.PageTasks.queue.Given.{Over}
use Rattle.page_tasks.proofs.page_tasks.PageTasks.queue.Goals as goal

next : (n : ℕ) → n + 1 ≡ suc n
next n = omega arith

call : (g : Over) (c : goal.After-self-1 g) → let i = c.self.inside in
    IsSourceCall i.pool c.queue-put.new.pool i.queues c.args.source (and_last (tasks_of i.queues i.pool c.args.source) (the_entry (i.made + 1) c.in_ok-ticket_of.field-0.0 c.args.steps))
call g c =
    let i = c.self.inside in
    let new = c.queue-put.new.pool in
    let e : Ticket → Entry PageTask = λ t. the_entry (i.made + 1) t.0 c.args.steps in
    record {
      queued = subst (λ (r : Result Ticket PageTask). IfOk r (λ t. IsQueued i.queues i.pool new c.args.source (tasks_of i.queues i.pool c.args.source ++ e t ∷ []))) c.in_ok-ticket_of.ensures.ok c.queue-put.ensures.queued;
      others = c.queue-put.ensures.others;
      stand = subst (λ (q : Queues PageTask). StandIn q new) c.queue-put.ensures.same c.queue-put.ensures.stand;
      count = c.queue-put.ensures.count;
    }

inserts : (g : Over) (c : goal.After-self-1 g) → c.queue-put.new.pool.inserts ≡ c.self.inside.pool.inserts + 1
inserts g c = subst (λ (r : Result Ticket PageTask). OnOk r (c.queue-put.new.pool.inserts ≡ c.self.inside.pool.inserts + 1)) c.in_ok-ticket_of.ensures.ok c.queue-put.ensures.inserts

pub invariant_of-self-2 : goal.invariant_of-self-2
invariant_of-self-2 g c =
    let i = c.self.inside in
    let new = c.queue-put.new.pool in
    let tickets : ℕ → Option Ticket = λ r. get nat_eq i.tickets r in
    let stands : IsStanding i.pool i.queues i.sched tickets i.asked.items i.made = c.self.invariant in
    let n = i.made + 1 in
    let asked : c.note.new.asked.items ≡ i.asked.items ++ option_to_list (asked_by n c.args.steps.value) =
    c.note.ensures ∙ ap (λ (xs : List Asked). xs ++ option_to_list c.asked_of-asked.result) c.in_ok-make_room.ensures.items ∙ ap (λ o. i.asked.items ++ option_to_list o) c.asked_of-asked.ensures
    ∙ ap (λ (t : TaskSteps). i.asked.items ++ option_to_list (asked_by n t)) c.deref.ensures in
    let whole = queued_standing i.pool new i.queues i.sched tickets i.asked.items i.made stands c.args.source n c.in_ok-ticket_of.field-0.0 c.args.steps (next i.made) (call g c) (inserts g c) in
    let P : List Asked → Type 0 = λ xs. IsStanding new i.queues i.sched tickets xs n in
    let Q : Queues PageTask → Type 0 = λ q. IsStanding new q i.sched tickets c.note.new.asked.items n in
    subst Q (sym c.queue-put.ensures.same) (subst P (sym asked) whole)

pub returns-clause-queued : goal.returns-clause-queued
returns-clause-queued g c =
    let i = c.self.inside in
    let new = c.queue-put.new.pool in
    let n = i.made + 1 in
    ap (λ (q : Queues PageTask). seen_in new q i.sched n) c.queue-put.ensures.same
    ∙ queued_as i.pool new i.queues i.sched (λ r. get nat_eq i.tickets r) i.asked.items i.made c.self.invariant c.args.source n c.in_ok-ticket_of.field-0.0 c.args.steps (next i.made) (call g c) (inserts g c)
    ∙ ap (λ (q : Queued). with_spare new.spare (queued c.args.source (steps_of c.args.steps.value) q)) c.self.view_is

pub queue-put-requires-clause-inserts : goal.queue-put-requires-clause-inserts
queue-put-requires-clause-inserts g c = omega (arith, c.self.invariant.inserts, c.requires.made, ap (λ (q : Queued). q.tasks_made) c.self.view_is)

pub note-requires : goal.note-requires
note-requires g c = c.in_ok-make_room.ensures.room

pub returns-clause-spare : goal.returns-clause-spare
returns-clause-spare g c = omega (arith, ap (λ (q : Queued). q.spare) c.self.view_is, c.queue-put.ensures.spare)

-- ---- there is no memory to note it

pub invariant_of-self : goal.invariant_of-self
invariant_of-self g c =
    let i = c.self.inside in
    subst (λ (xs : List Asked). IsStanding i.pool i.queues i.sched (λ r. get nat_eq i.tickets r) xs i.made) (sym c.in_err-make_room.ensures.items) c.self.invariant

pub returns-in_err-make_room-clause-spare : goal.returns-in_err-make_room-clause-spare
returns-in_err-make_room-clause-spare g c = omega (arith, ap (λ (q : Queued). q.spare) c.self.view_is)

pub returns-in_err-make_room-clause-succeeds : goal.returns-in_err-make_room-clause-succeeds
returns-in_err-make_room-clause-succeeds g c room none =
    let n = c.self.inside.made + 1 in
    let free = c.asked_of-asked.ensures ∙ ap (λ (t : TaskSteps). asked_by n t) c.deref.ensures ∙ not_asked n c.args.steps.value none in
    absurd (let ok = c.in_err-make_room.ensures.none free in cc)

pub returns-in_err-make_room-clause-err : goal.returns-in_err-make_room-clause-err
returns-in_err-make_room-clause-err g c = on_err _ c.self.view_is

-- ---- there is no memory to put it in

same : (g : Over) (c : goal.After-from_residual-in_err-ticket_of g) → c.queue-put.new.pool ≡ c.self.inside.pool
same g c = is_error c.queue-put.result c.in_err-ticket_of.ensures.err c.queue-put.ensures.err

pub invariant_of-self-in_err-ticket_of : goal.invariant_of-self-in_err-ticket_of
invariant_of-self-in_err-ticket_of g c =
    let i = c.self.inside in
    let tickets : ℕ → Option Ticket = λ r. get nat_eq i.tickets r in
    let P : List Asked → Type 0 = λ xs. IsStanding i.pool i.queues i.sched tickets xs i.made in
    let Q : Queues PageTask → Type 0 = λ q. IsStanding i.pool q i.sched tickets c.make_room.new.asked.items i.made in
    let R : Lists PageTask → Type 0 = λ p. IsStanding p c.queue-put.new.self i.sched tickets c.make_room.new.asked.items i.made in
    subst R (sym (same g c)) (subst Q (sym c.queue-put.ensures.same) (subst P (sym c.in_ok-make_room.ensures.items) c.self.invariant))

pub returns-in_err-ticket_of-clause-spare : goal.returns-in_err-ticket_of-clause-spare
returns-in_err-ticket_of-clause-spare g c = omega (arith, ap (λ (q : Queued). q.spare) c.self.view_is, c.queue-put.ensures.spare)

pub returns-in_err-ticket_of-clause-succeeds : goal.returns-in_err-ticket_of-clause-succeeds
returns-in_err-ticket_of-clause-succeeds g c room none =
    absurd (not_both c.queue-put.result (c.queue-put.ensures.succeeds (subst (λ (q : Queued). 0 < q.spare) (sym c.self.view_is) room)) c.in_err-ticket_of.ensures.err)

pub returns-in_err-ticket_of-clause-err : goal.returns-in_err-ticket_of-clause-err
returns-in_err-ticket_of-clause-err g c =
    let i = c.self.inside in
    on_err _ (ap (λ (p : Lists PageTask). seen_in p c.queue-put.new.self i.sched i.made) (same g c)
    ∙ ap (λ (q : Queues PageTask). seen_in i.pool q i.sched i.made) c.queue-put.ensures.same
    ∙ c.self.view_is)
