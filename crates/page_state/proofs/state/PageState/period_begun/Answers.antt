use Rattle.std.proofs.Common.{refl}
use Rattle.page_types.specs.Events.{Period}
use Rattle.page_types.specs.declared.Source.TheVariants.{Idle}
use Rattle.page_model.specs.State.{InvokeIdle, emit, queue_task}
use Rattle.page_state.specs.TimeActs.{period_set}
use Rattle.page_state.proofs.Acting.{Does-next, Does-leave}
use Rattle.page_state.proofs.Telling.{Does-told, Does-quiet}
use Rattle.page_state.proofs.state.PageState.period_begun.Goals as goal

pub returns-in_err-emit : goal.returns-in_err-emit
returns-in_err-emit g c =
    let end = c.args.end.0 in
    Does-leave (λ p. emit (Period end) (period_set end p)) (queue_task Idle InvokeIdle) _ (λ es p. refl) c.from_residual.ensures.1
    (Does-told (period_set end) (λ p. Period end) _ c.args.self.now c.set_period.new.self refl c.set_period.ensures refl c.in_err-emit.ensures)

pub returns : goal.returns
returns g c =
    let end = c.args.end.0 in
    Does-next (λ p. emit (Period end) (period_set end p)) (queue_task Idle InvokeIdle) (λ es p. refl)
    (Does-told (period_set end) (λ p. Period end) _ c.args.self.now c.set_period.new.self refl c.set_period.ensures refl c.in_ok-emit.ensures)
    (Does-quiet g.L.Lines.keeping (queue_task Idle InvokeIdle) c.set_period.new.self c.queue.new.self _ c.queue.result refl c.queue.ensures.queued c.queue.ensures.memory)
