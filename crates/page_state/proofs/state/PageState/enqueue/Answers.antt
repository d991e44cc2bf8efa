use Rattle.std.proofs.Common.{ap, refl, ◌∙◌, ℕ, suc}
use Rattle.page_types.specs.Events.{Enq, QueueName}
use Rattle.page_model.specs.SchedulerTasks.{enqueue, queue_name}
use Rattle.page_tasks.specs.Seen.{prio_source}
use Rattle.page_state.specs.Selecting.{sched_put}
use Rattle.page_state.proofs.Telling.{Does-told, Does-wanted}
use Rattle.page_state.proofs.state.PageState.enqueue.Goals as goal

pub returns-in_err-n : goal.returns-in_err-n
returns-in_err-n g c =
    Does-wanted g.L.Lines.keeping (enqueue c.args.registration (prio_source c.args.source) c.args.continuation) c.args.self.now c.put_sched.new.self _ _ c.from_residual.ensures.1
    c.in_err-n.ensures.memory

pub returns : goal.returns
returns g c =
    let r = c.args.registration in
    let source = prio_source c.args.source in
    Does-told (sched_put r source c.args.continuation) (λ p. Enq r (queue_name source) c.args.continuation (suc p.tasks_made)) _ c.args.self.now c.put_sched.new.self
    refl c.in_ok-n.ensures.put
    (ap (λ (q : QueueName). Enq r q c.args.continuation c.in_ok-n.n) c.queue_name.ensures ∙ ap (λ (n : ℕ). Enq r (queue_name source) c.args.continuation n) c.in_ok-n.ensures.order)
    c.emit.ensures
