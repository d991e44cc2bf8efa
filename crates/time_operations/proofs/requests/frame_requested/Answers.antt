use Rattle.std.proofs.Common.{refl}
use Rattle.page_types.specs.declared.RegKind.TheVariants.{Frame as FrameKind}
use Rattle.page_model.specs.PageTime.{request_frame}
use Rattle.page_values.specs.Seen.{seen_func}
use Rattle.page_state.proofs.Telling.{Does-quiet}
use Rattle.time_operations.proofs.Requesting.{Does-same_registration, Does-frame, Does-no_frame}
use Rattle.time_operations.proofs.requests.frame_requested.Goals as goal

pub returns-in_err-r : goal.returns-in_err-r
returns-in_err-r g c =
    let s = c.args.page.now in
    Does-no_frame (seen_func c.args.callback) s _ c.from_residual.ensures.1
    (Does-same_registration FrameKind _ _ s c.callback_of_kind-registration.ensures c.in_err-r.ensures.does)

pub returns : goal.returns
returns g c =
    let s = c.args.page.now in
    Does-frame (seen_func c.args.callback) s c.in_ok-r.r c.register_as.new.self c.in_ok-r.ensures.number
    (Does-same_registration FrameKind _ _ s c.callback_of_kind-registration.ensures c.in_ok-r.ensures.does)
    (Does-quiet g.L.Lines.keeping (request_frame c.in_ok-r.r) c.register_as.new.self c.request_frame.new.self _ c.request_frame.result refl c.request_frame.ensures.requested c.request_frame.ensures.memory)
