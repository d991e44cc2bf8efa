use Rattle.std.proofs.Common.{ap, refl, ◌∙◌}
use Rattle.page_notices.specs.Seen.{current}
use Rattle.page_model.specs.State.{context}
use Rattle.page_state.specs.Standing.{page_of}
use Rattle.page_host.specs.PageNow.{PageNow}
use Rattle.page_host.specs.StateActs.{RanOut}
use Rattle.page_host.specs.Doing.{did_how}
use Rattle.page_host.proofs.Quiet.{checkpoint_begun-quiet}
use Rattle.page_host.proofs.Checkpoints.{performed, performed-ran_out, performed-stops}
use Rattle.page_host.proofs.TaskRuns.{as-dry, as-finished}
use Rattle.page_host.proofs.Composing.{acted-ready, runs-exit}
use Rattle.page_host.proofs.page.Page.run_checkpoint.Goals as goal

pub run_jobs-requires : goal.run_jobs-requires
run_jobs-requires g c = acted-ready c.args.machine.now checkpoint_begun-quiet c.checkpoint_begun.ensures c.requires

pub returns-in_err-run_jobs : goal.returns-in_err-run_jobs
returns-in_err-run_jobs g c = runs-exit _ did_how c.from_residual.ensures.1 (performed-stops RanOut c.checkpoint_begun.ensures c.in_err-run_jobs.ensures)

pub returns-in_err-checkpoint_ended-in-Finished : goal.returns-in_err-checkpoint_ended-in-Finished
returns-in_err-checkpoint_ended-in-Finished g c =
    let done = as-finished _ c.in-Finished.is c.in_ok-run_jobs.ensures in
    runs-exit _ did_how c.from_residual-in_err-checkpoint_ended-in-Finished.ensures.1
    (performed (current c.context-level.result.0 c.context-level.result.1) (c.context-level.ensures ∙ ap (λ (p : PageNow g.row.L.Denot). context (page_of p.state)) c.self.view_is) c.checkpoint_begun.ensures done (done.ready refl tt) c.in_err-checkpoint_ended-in-Finished.ensures)

pub returns-in_ok-checkpoint_ended-in-Finished : goal.returns-in_ok-checkpoint_ended-in-Finished
returns-in_ok-checkpoint_ended-in-Finished g c =
    let done = as-finished _ c.in-Finished.is c.in_ok-run_jobs.ensures in
    performed (current c.context-level.result.0 c.context-level.result.1) (c.context-level.ensures ∙ ap (λ (p : PageNow g.row.L.Denot). context (page_of p.state)) c.self.view_is) c.checkpoint_begun.ensures done (done.ready refl tt) c.in_ok-checkpoint_ended-in-Finished.ensures

pub returns-in-Fuel : goal.returns-in-Fuel
returns-in-Fuel g c =
    let dry = as-dry _ c.in-Fuel.is c.in_ok-run_jobs.ensures in
    performed-ran_out dry.stopped (dry.dry refl refl) c.checkpoint_begun.ensures dry
