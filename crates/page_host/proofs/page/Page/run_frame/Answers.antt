use Rattle.std.proofs.Common.{ap, refl, ◌∙◌}
use Rattle.page_parts.specs.Frames.{keys}
use Rattle.page_state.specs.Standing.{page_of}
use Rattle.page_host.specs.PageNow.{PageNow}
use Rattle.page_host.specs.StateActs.{RanOut}
use Rattle.page_host.proofs.Composing.{runs-wanted}
use Rattle.page_host.proofs.TaskRuns.{ready-after}
use Rattle.page_host.proofs.FrameSteps.{frame-begun, frame-exit}
use Rattle.page_host.proofs.page.Page.run_frame.Goals as goal

pub wanting-requires : goal.wanting-requires
wanting-requires g c = c.requires.running

pub frame_told-requires : goal.frame_told-requires
frame_told-requires g c = c.requires.running

pub visit_keys-requires : goal.visit_keys-requires
visit_keys-requires g c = ready-after c.args.machine.now (λ q. refl) c.in_ok-frame_told.ensures c.requires

pub returns-in_default : goal.returns-in_default
returns-in_default g c = runs-wanted _ RanOut _ _ c.wanting.ensures.why c.wanting.ensures.stopped

pub returns-in_err-frame_told : goal.returns-in_err-frame_told
returns-in_err-frame_told g c = frame-exit c.args.time.0 _ c.from_residual.ensures.1 c.in_err-frame_told.ensures

pub returns : goal.returns
returns g c =
    frame-begun c.args.time.0 c.deref.result.now (c.deref.ensures.value ∙ (c.in-Ok.ensures.handles ∙ ap (λ (p : PageNow g.row.L.Denot). keys (page_of p.state).frames) c.self.view_is)) c.in_ok-frame_told.ensures c.visit_keys.ensures
