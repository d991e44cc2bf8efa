use Rattle.std.proofs.Common.{refl}
use Rattle.page_types.specs.Events.{Due}
use Rattle.page_model.specs.State.{emit, queue_task}
use Rattle.page_tasks.specs.Seen.{steps_of}
use Rattle.page_state.proofs.Acting.{Does-next, Does-leave}
use Rattle.page_state.proofs.Telling.{Does-quiet}
use Rattle.page_state.proofs.state.PageState.queue_due.Goals as goal

pub returns-in_err-emit : goal.returns-in_err-emit
returns-in_err-emit g c =
    Does-leave (emit (Due c.args.registration)) (queue_task c.args.source (steps_of c.args.steps)) _ (λ es p. refl) c.from_residual.ensures.1 c.in_err-emit.ensures

pub returns : goal.returns
returns g c =
    let queued = queue_task c.args.source (steps_of c.args.steps) in
    Does-next (emit (Due c.args.registration)) queued (λ es p. refl) c.in_ok-emit.ensures
    (Does-quiet g.L.Lines.keeping queued c.args.self.now c.queue.new.self _ c.queue.result refl c.queue.ensures.queued c.queue.ensures.memory)
