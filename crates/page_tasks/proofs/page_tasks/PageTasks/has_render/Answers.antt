use Rattle.std.proofs.Common.{ℕ, Option, None, List, get_or, ◌∙◌, ap}
use Rattle.std.specs.Prelude.{is_some}
use Rattle.page_parts.specs.Words.{is_there}
use Rattle.page_types.specs.declared.Source.TheVariants.{Render}
use Rattle.page_model.specs.PageTime.{first_task}
use Rattle.task_queues.specs.BySource.{tasks_of}
use Rattle.page_tasks.specs.Queued.{Queued}
use Rattle.page_tasks.proofs.Firsts.{render_is}
use Rattle.page_tasks.proofs.page_tasks.PageTasks.has_render.Goals as goal

pub returns : goal.returns
returns g c =
    let i = c.self.inside in
    c.is_some.ensures
    ∙ ap (λ (ns : List (Option ℕ)). is_some (get_or ns 1 None)) c.heads.ensures
    ∙ render_is (tasks_of i.queues i.pool) i.asked.items i.made c.self.invariant.tasks
    ∙ ap (λ (q : Queued). is_there (first_task Render q.tasks)) c.self.view_is
