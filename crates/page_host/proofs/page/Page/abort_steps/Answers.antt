use Rattle.std.proofs.Common.{[], ◌∷◌, refl}
use Rattle.std.specs.Prelude.{codes}
use Rattle.page_types.specs.Values.{SignalValue}
use Rattle.page_parts.specs.Listeners.{AtSignal}
use Rattle.page_model.specs.State.{Page}
use Rattle.page_model.specs.PageSignals.{run_algorithms}
use Rattle.page_host.proofs.Calm.{run_algorithms-calm}
use Rattle.page_host.proofs.TaskRuns.{ready-after}
use Rattle.page_host.proofs.ListenerSteps.{fired-exit, fired-then}
use Rattle.page_host.proofs.page.Page.abort_steps.Goals as goal

pub run_algorithms-requires : goal.run_algorithms-requires
run_algorithms-requires g c = c.requires.running

pub fire_abort-requires : goal.fire_abort-requires
fire_abort-requires g c = ready-after c.args.machine.now (λ (q : Page). (run_algorithms-calm c.args.s q).now) c.in_ok-run_algorithms.ensures c.requires

pub returns-in_err-run_algorithms : goal.returns-in_err-run_algorithms
returns-in_err-run_algorithms g c =
    fired-exit (run_algorithms c.args.s) (AtSignal c.args.s) (codes "abort") (SignalValue c.args.s ∷ []) c.from_residual.result c.from_residual.ensures.1 c.in_err-run_algorithms.ensures

pub returns : goal.returns
returns g c =
    fired-then (run_algorithms c.args.s) (AtSignal c.args.s) (codes "abort") (SignalValue c.args.s ∷ []) c.in_ok-run_algorithms.ensures
    (SignalValue c.args.s ∷ []) refl (codes "abort") refl c.fire_abort.ensures
