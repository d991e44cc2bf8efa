use Rattle.std.proofs.Common.{arith, refl}
use Rattle.page_model.specs.Invoke.{in_task}
use Rattle.page_host.specs.Tasking.{frame_visit}
use Rattle.page_host.proofs.FrameSteps.{visit-adds}
use Rattle.page_host.proofs.TaskRuns.{as-dry, as-finished, each-then, each-exit, each-dry, each-none}
use Rattle.page_host.proofs.page.Page.visit_keys.Goals as goal

pub loop-key-init : goal.loop-key-init
loop-key-init g c = record { rest = record { ready = c.requires; rest_does = λ why how m p h. h } }

pub visit_key-requires : goal.visit_key-requires
visit_key-requires g c = c.loop-key.invariant.rest.ready

pub returns-in_err-visit_key : goal.returns-in_err-visit_key
returns-in_err-visit_key g c =
    c.loop-key.invariant.rest.rest_does _ _ _ _
    (each-exit (λ key call. frame_visit (in_task call) c.args.time.0 key) c.args.keys.now c.loop-key.key-index c.loop-key-test.true (visit-adds c.loop-key.machine c.args.time.0) _ c.from_residual.ensures.1 c.in_err-visit_key.ensures)

pub returns-in-Fuel : goal.returns-in-Fuel
returns-in-Fuel g c =
    c.loop-key.invariant.rest.rest_does _ _ _ _
    (each-dry (λ key call. frame_visit (in_task call) c.args.time.0 key) c.args.keys.now c.loop-key.key-index c.loop-key-test.true (visit-adds c.loop-key.machine c.args.time.0) (as-dry _ c.in-Fuel.is c.in_ok-visit_key.ensures))

pub loop-key-preserved : goal.loop-key-preserved
loop-key-preserved g c =
    let ran = as-finished _ c.in-Finished.is c.in_ok-visit_key.ensures in
    record {
      rest = record {
        ready = ran.ready refl tt;
        rest_does = λ why how m p h.
            c.loop-key.invariant.rest.rest_does why how m p
            (each-then (λ key call. frame_visit (in_task call) c.args.time.0 key) c.args.keys.now c.loop-key.key-index c.loop-key-test.true (visit-adds c.loop-key.machine c.args.time.0) ran h);
      };
    }

pub returns : goal.returns
returns g c =
    c.loop-key.invariant.rest.rest_does _ _ _ _
    (each-none (λ key call. frame_visit (in_task call) c.args.time.0 key) c.args.keys.now c.loop-key.key-index c.loop-key.machine c.loop-key.self c.loop-key.invariant.rest.ready (omega arith))
