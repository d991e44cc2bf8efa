use Rattle.std.proofs.Common.{◌≡◌, ℕ, not, ◌+◌, drop, List, Option, Some, eqb, filter, nat_eq, sym, ◌∙◌, ap, subst}
use Rattle.std.specs.Option.{option_map}
use Rattle.std.specs.HashMap.{get}
use Rattle.page_model.specs.State.{Steps}
use Rattle.page_model.specs.PageTime.{first_task}
use Rattle.task_pool.specs.Lists.{first_entry, numbered}
use Rattle.task_queues.specs.declared.queues.Queues.{Queues}
use Rattle.task_queues.specs.BySource.{tasks_of, StandIn}
use Rattle.page_tasks.specs.declared.asked.Asked.{Asked}
use Rattle.page_tasks.specs.declared.page_task.PageTask.{PageTask}
use Rattle.page_tasks.specs.Queued.{Queued, taken, without_number, with_spare}
use Rattle.page_tasks.specs.Standing.{seen_in, IsStanding}
use Rattle.page_tasks.proofs.SourceCalls.{IsSourceCall, Gives, gives, no_first, numbered_task, the_first, the_steps, taken_standing, taken_as}
use Rattle.page_tasks.proofs.page_tasks.PageTasks.take.Given.{Over}
use Rattle.page_tasks.proofs.page_tasks.PageTasks.take.Goals as goal

pub returns-in_err-number-clause-first : goal.returns-in_err-number-clause-first
returns-in_err-number-clause-first g c =
    let i = c.self.inside in
    ap (λ o. option_map (taken c.args.source) o) c.from_residual.ensures
    ∙ no_first (tasks_of i.queues i.pool) i.asked.items i.made c.args.source c.self.invariant.tasks (sym c.take.ensures.item ∙ c.in_err-number.was)
    ∙ ap (λ (q : Queued). first_task c.args.source q.tasks) c.self.view_is

the_item : (g : Over) (c : goal.After-into_steps g) → option_map numbered (first_entry (tasks_of c.self.inside.queues c.self.inside.pool c.args.source)) ≡ Some (c.in_ok-number.number, c.in_ok-number.task)
the_item g c = sym c.take.ensures.item ∙ c.in_ok-number.was

given : (g : Over) (c : goal.After-into_steps g) → Gives (tasks_of c.self.inside.queues c.self.inside.pool c.args.source) c.in_ok-number.number c.in_ok-number.task
given g c = gives (tasks_of c.self.inside.queues c.self.inside.pool c.args.source) c.in_ok-number.number c.in_ok-number.task (the_item g c)

call : (g : Over) (c : goal.After-into_steps g) → let i = c.self.inside in IsSourceCall i.pool c.take.new.pool i.queues c.args.source (drop 1 (tasks_of i.queues i.pool c.args.source))
call g c =
    record {
      queued = c.take.ensures.taken;
      others = c.take.ensures.others;
      stand = subst (λ (q : Queues PageTask). StandIn q c.take.new.pool) c.take.ensures.same c.take.ensures.stand;
      count = c.take.ensures.count;
    }

pub invariant_of-self-2 : goal.invariant_of-self-2
invariant_of-self-2 g c =
    let i = c.self.inside in
    let new = c.take.new.pool in
    let tickets : ℕ → Option _ = λ r. get nat_eq i.tickets r in
    let gave = given g c in
    let whole = taken_standing i.pool new i.queues i.sched tickets i.asked.items i.made c.self.invariant c.args.source gave.entry gave.first (call g c) c.take.ensures.inserts in
    let left : c.forget.new.asked.items ≡ filter (λ a. not (eqb a.number gave.entry.number)) i.asked.items =
    c.forget.ensures ∙ ap (λ (n : ℕ). filter (λ (a : Asked). not (eqb a.number n)) i.asked.items) (sym gave.number_is) in
    let P : List Asked → Type 0 = λ xs. IsStanding new i.queues i.sched tickets xs i.made in
    let Q : Queues PageTask → Type 0 = λ q. IsStanding new q i.sched tickets c.forget.new.asked.items i.made in
    subst Q (sym c.take.ensures.same) (subst P (sym left) whole)

pub into_steps-requires : goal.into_steps-requires
into_steps-requires g c =
    let i = c.self.inside in
    the_steps (tasks_of i.queues i.pool) i.asked.items i.made c.args.source c.self.invariant.tasks c.in_ok-number.number c.in_ok-number.task (sym c.take.ensures.item ∙ c.in_ok-number.was)

pub returns-clause-first : goal.returns-clause-first
returns-clause-first g c =
    let i = c.self.inside in
    let lists = tasks_of i.queues i.pool in
    ap (λ (steps : Steps). Some (numbered_task lists i.asked.items i.made c.args.source c.self.invariant.tasks c.in_ok-number.number steps)) c.into_steps.ensures
    ∙ the_first lists i.asked.items i.made c.args.source c.self.invariant.tasks c.in_ok-number.number c.in_ok-number.task (the_item g c)
    ∙ ap (λ (q : Queued). first_task c.args.source q.tasks) c.self.view_is

pub returns-clause-gone : goal.returns-clause-gone
returns-clause-gone g c =
    let i = c.self.inside in
    let new = c.take.new.pool in
    let gave = given g c in
    let spare : new.spare ≡ i.pool.spare + 1 = c.in_ok-number.ensures.spare in
    ap (λ (q : Queues PageTask). seen_in new q i.sched i.made) c.take.ensures.same
    ∙ taken_as i.pool new i.queues i.sched (λ r. get nat_eq i.tickets r) i.asked.items i.made c.self.invariant c.args.source gave.entry gave.first (call g c) c.take.ensures.inserts
    ∙ ap (λ (n : ℕ). with_spare new.spare (without_number n (seen_in i.pool i.queues i.sched i.made))) gave.number_is
    ∙ ap (λ (n : ℕ). with_spare n (without_number c.in_ok-number.number (seen_in i.pool i.queues i.sched i.made))) spare
    ∙ ap (λ (q : Queued). with_spare (q.spare + 1) (without_number c.in_ok-number.number q)) c.self.view_is
