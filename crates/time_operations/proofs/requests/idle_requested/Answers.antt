use Rattle.page_types.specs.declared.RegKind.TheVariants.{Idle as IdleKind}
use Rattle.page_values.specs.Seen.{seen_func}
use Rattle.time_operations.proofs.Requesting.{Does-same_registration, Does-idle_callback, Does-no_idle_callback}
use Rattle.time_operations.proofs.requests.idle_requested.Goals as goal

pub returns-in_err-r : goal.returns-in_err-r
returns-in_err-r g c =
    let s = c.args.page.now in
    Does-no_idle_callback (seen_func c.args.callback) c.args.ms s _ c.from_residual.ensures.1
    (Does-same_registration IdleKind _ _ s c.callback_of_kind-registration.ensures c.in_err-r.ensures.does)

pub returns : goal.returns
returns g c =
    let s = c.args.page.now in
    Does-idle_callback (seen_func c.args.callback) c.args.ms s c.in_ok-r.r c.register_as.new.self c.in_ok-r.ensures.number
    (Does-same_registration IdleKind _ _ s c.callback_of_kind-registration.ensures c.in_ok-r.ensures.does) c.request_idle.ensures
