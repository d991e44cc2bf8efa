use Rattle.std.proofs.Common.{ℕ, List, sym, subst, arith}
use Rattle.page_model.specs.Invoke.{in_task}
use Rattle.page_model.specs.Tasks.{notify_one}
use Rattle.page_host.proofs.ListenerSteps.{notify-adds}
use Rattle.page_host.proofs.TaskRuns.{RestSteps}
use Rattle.page_host.proofs.TaskLoops.{each_left, each-over, each-on, each-ran_dry, each-stopped}
use Rattle.page_host.proofs.page.Page.notify_rejected.Goals as goal

pub loop-n-init : goal.loop-n-init
loop-n-init g c =
    let P : List ℕ → Type 0 = λ ns. RestSteps g.L.Lines.keeping g.L.Lines.seen (each_left (λ n call. notify_one (in_task call) n) 0 c.args.promises.items)
    (each_left (λ n call. notify_one (in_task call) n) 0 ns) c.args.machine.now c.args.self.now c.args.machine.now c.args.self.now in
    subst P (sym c.deref-n-items.ensures.value) (record { ready = c.requires; rest_does = λ why how m p h. h })

pub notify_one-requires : goal.notify_one-requires
notify_one-requires g c = c.loop-n.invariant.ready

pub returns-in_err-notify_one : goal.returns-in_err-notify_one
returns-in_err-notify_one g c =
    each-stopped (λ n call. notify_one (in_task call) n) c.deref-n-items.result.now c.loop-n.n-index c.loop-n.invariant (notify-adds c.loop-n.machine) c.loop-n-test.true
    c.from_residual.result c.from_residual.ensures.1 c.in_err-notify_one.ensures

pub loop-n-preserved : goal.loop-n-preserved
loop-n-preserved g c =
    each-on (λ n call. notify_one (in_task call) n) c.deref-n-items.result.now c.loop-n.n-index c.loop-n.invariant (notify-adds c.loop-n.machine) c.loop-n-test.true
    _ c.in-Finished.is c.in_ok-notify_one.ensures

pub returns-in-Fuel : goal.returns-in-Fuel
returns-in-Fuel g c =
    each-ran_dry (λ n call. notify_one (in_task call) n) c.deref-n-items.result.now c.loop-n.n-index c.loop-n.invariant (notify-adds c.loop-n.machine) c.loop-n-test.true
    _ c.in-Fuel.is c.in_ok-notify_one.ensures

pub returns : goal.returns
returns g c = each-over (λ n call. notify_one (in_task call) n) c.deref-n-items.result.now c.loop-n.n-index c.loop-n.invariant (omega arith)
