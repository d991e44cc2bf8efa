use Rattle.std.proofs.Common.{ℕ, true, refl, None}
use Rattle.page_types.specs.declared.RegKind.TheVariants.{Yield as YieldKind}
use Rattle.page_model.specs.State.{last_registration}
use Rattle.page_model.specs.SchedulerTasks.{enqueue}
use Rattle.page_model.specs.Operations.{promised}
use Rattle.page_tasks.specs.Seen.{prio_source}
use Rattle.page_state.proofs.Acting.{Does-leave, Does-next}
use Rattle.page_state.proofs.Handled.{Does-read}
use Rattle.signal_operations.proofs.queueing.continuation_queued.Goals as goal

pub returns-in_err-registration : goal.returns-in_err-registration
returns-in_err-registration g c =
    let source = prio_source c.args.state.prio_source in
    Does-leave (promised YieldKind None c.args.state.abort_source) (λ p. enqueue (last_registration p) source true p) _ (λ es p. refl) c.from_residual.ensures.1 c.in_err-registration.ensures.does

pub returns : goal.returns
returns g c =
    let source = prio_source c.args.state.prio_source in
    Does-next (promised YieldKind None c.args.state.abort_source) (λ p. enqueue (last_registration p) source true p) (λ es p. refl) c.in_ok-registration.ensures.does
    (Does-read (λ (n : ℕ) p. enqueue n source true p) last_registration c.in_ok-registration.registration c.promised.new.self c.in_ok-registration.ensures.number c.enqueue.ensures)
