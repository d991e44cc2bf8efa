use Rattle.std.proofs.Common.{arith}
use Rattle.page_model.specs.Invoke.{in_task}
use Rattle.page_model.specs.PageSignals.{abort_steps}
use Rattle.page_host.proofs.ListenerSteps.{aborts-adds}
use Rattle.page_host.proofs.TaskLoops.{each-over, each-on, each-ran_dry, each-stopped}
use Rattle.page_host.proofs.page.Page.abort_each.Goals as goal

pub loop-s-init : goal.loop-s-init
loop-s-init g c = record { ready = c.requires; rest_does = λ why how m p h. h }

pub abort_steps-requires : goal.abort_steps-requires
abort_steps-requires g c = c.loop-s.invariant.ready

pub returns-in_err-abort_steps : goal.returns-in_err-abort_steps
returns-in_err-abort_steps g c =
    each-stopped (λ s call. abort_steps (in_task call) s) c.args.signals.now c.loop-s.s-index c.loop-s.invariant (aborts-adds c.loop-s.machine) c.loop-s-test.true
    c.from_residual.result c.from_residual.ensures.1 c.in_err-abort_steps.ensures

pub loop-s-preserved : goal.loop-s-preserved
loop-s-preserved g c =
    each-on (λ s call. abort_steps (in_task call) s) c.args.signals.now c.loop-s.s-index c.loop-s.invariant (aborts-adds c.loop-s.machine) c.loop-s-test.true
    _ c.in-Finished.is c.in_ok-abort_steps.ensures

pub returns-in-Fuel : goal.returns-in-Fuel
returns-in-Fuel g c =
    each-ran_dry (λ s call. abort_steps (in_task call) s) c.args.signals.now c.loop-s.s-index c.loop-s.invariant (aborts-adds c.loop-s.machine) c.loop-s-test.true
    _ c.in-Fuel.is c.in_ok-abort_steps.ensures

pub returns : goal.returns
returns g c = each-over (λ s call. abort_steps (in_task call) s) c.args.signals.now c.loop-s.s-index c.loop-s.invariant (omega arith)
