use Rattle.std.proofs.Common.{List, sym, ◌∙◌, ap}
use Rattle.std.specs.Prelude.{option_map}
use Rattle.std.specs.List.{find}
use Rattle.page_model.specs.State as Model
use Rattle.page_model.specs.PageSignals.{task_in_net}
use Rattle.task_queues.specs.BySource.{tasks_of}
use Rattle.page_tasks.specs.declared.asked.Asked.{Asked}
use Rattle.page_tasks.specs.Seen.{host_task}
use Rattle.page_tasks.specs.Asking.{asked_for}
use Rattle.page_tasks.specs.Queued.{Queued}
use Rattle.page_tasks.specs.Standing.{tasks_in}
use Rattle.page_tasks.proofs.Noting.{asks, asked_task}
use Rattle.page_tasks.proofs.page_tasks.PageTasks.net_task_of.Goals as goal

pub returns : goal.returns
returns g c p is =
    let i = c.self.inside in
    let r = c.args.registration in
    ap (option_map host_task) c.find_asked.ensures
    ∙ ap (λ (xs : List Asked). option_map host_task (asked_for r xs)) c.deref.ensures.value
    ∙ asked_task r i.asked.items (tasks_in (tasks_of i.queues i.pool)) c.self.invariant.tasks.noted
    ∙ ap (λ (ts : List Model.Task). task_in_net (find (asks r) ts)) (ap (λ (q : Queued). q.tasks) c.self.view_is ∙ sym is.tasks)
