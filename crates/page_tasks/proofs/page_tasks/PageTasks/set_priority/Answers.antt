use Rattle.std.proofs.Common.{ℕ, List, nat_eq, refl, sym, ◌∙◌, ap, subst, arith}
use Rattle.std.specs.HashMap.{get}
use Rattle.post_task.specs.declared.level.Level.{Level}
use Rattle.post_task.specs.Levels.{all_queues, Lone}
use Rattle.post_task.proofs.Stays.{lone_still}
use Rattle.page_tasks.specs.Queued.{Queued}
use Rattle.page_tasks.specs.Standing.{AreApart, priorities_in}
use Rattle.page_tasks.proofs.Beside.{sched_changed}
use Rattle.page_tasks.proofs.Moved.{Prioritised, changed, changed_is, moved_standing, moved_as}
use Rattle.page_tasks.proofs.page_tasks.PageTasks.set_priority.Given.{Over}
use Rattle.page_tasks.proofs.page_tasks.PageTasks.set_priority.Goals as goal

-- the level list afterwards, and the lists beside it
lists_apart : (g : Over) (c : goal.After-move_priority g) → AreApart c.self.inside.pool c.self.inside.queues c.move_priority.new.self
lists_apart g c =
    let i = c.self.inside in
    let l = c.self.invariant.lists in
    let L : ℕ → List Level → Type 0 = λ n ls. Lone n (all_queues ls) in
    sched_changed i.queues i.pool i.pool i.sched c.move_priority.new.self l (λ n lone. refl) (c.move_priority.ensures.kept i.pool l.kept)
    (λ n h lone. c.move_priority.ensures.others n lone) (λ n lone. lone_still c.args.signal c.args.priority i.sched.levels n (subst (L n) c.move_priority.ensures.levels lone)) (omega arith)

prioritised : (g : Over) (c : goal.After-move_priority g) → Prioritised c.args.signal c.args.priority c.self.inside.sched.levels c.move_priority.new.self.levels
prioritised g c = subst (λ (ls : List Level). Prioritised c.args.signal c.args.priority c.self.inside.sched.levels ls) (sym c.move_priority.ensures.levels) (changed c.args.signal c.args.priority c.self.inside.sched.levels)

pub invariant_of-self : goal.invariant_of-self
invariant_of-self g c =
    let i = c.self.inside in
    moved_standing i.pool i.pool i.queues i.sched c.move_priority.new.self (λ r. get nat_eq i.tickets r) i.asked.items i.made c.self.invariant (λ l. refl) (lists_apart g c) refl
    c.args.signal c.args.priority (c.move_priority.ensures.waiting i.pool) (prioritised g c)

pub returns-clause-moved : goal.returns-clause-moved
returns-clause-moved g c other =
    let i = c.self.inside in
    changed_is c.args.signal c.args.priority i.sched.levels c.args.self.now (record c.args.self.now { priorities = priorities_in c.move_priority.new.self.levels })
    (ap (λ (q : Queued). q.priorities) (sym c.self.view_is)) (ap priorities_in c.move_priority.ensures.levels) other

pub returns-clause-same : goal.returns-clause-same
returns-clause-same g c =
    let i = c.self.inside in
    moved_as i.pool i.pool i.queues i.sched c.move_priority.new.self (λ r. get nat_eq i.tickets r) i.asked.items i.made c.self.invariant (λ l. refl) (lists_apart g c) refl
    c.args.signal c.args.priority (c.move_priority.ensures.waiting i.pool) (prioritised g c) refl
    ∙ ap (λ (q : Queued). record q { priorities = priorities_in c.move_priority.new.self.levels }) c.self.view_is
