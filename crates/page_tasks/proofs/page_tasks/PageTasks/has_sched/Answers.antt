use Rattle.std.proofs.Common.{nat_eq, ap, ◌∙◌, refl}
use Rattle.std.specs.HashMap.{get}
use Rattle.page_parts.specs.Words.{is_there}
use Rattle.post_task.specs.Levels.{waiting}
use Rattle.page_tasks.specs.Queued.{Queued, sched_task_for}
use Rattle.page_tasks.proofs.Scheduled.{is_there_by}
use Rattle.page_tasks.proofs.page_tasks.PageTasks.has_sched.Goals as goal

pub returns : goal.returns
returns g c =
    let i = c.self.inside in
    c.has_ticket.ensures
    ∙ is_there_by i.sched.levels (waiting i.sched.levels i.pool) (λ r. get nat_eq i.tickets r) i.pool.inserts i.made c.self.invariant.scheduled c.args.registration (get nat_eq i.tickets c.args.registration) refl
    ∙ ap (λ (q : Queued). is_there (sched_task_for c.args.registration q)) c.self.view_is
