use Rattle.std.proofs.Common.{refl, ap, ◌+◌}
use Rattle.std.proofs.Math.Facts.{to_z-of_z}
use Rattle.page_values.specs.Seen.{seen_func}
use Rattle.page_model.specs.Operations.{timer_set}
use Rattle.page_state.proofs.Acting.{Does-wants}
use Rattle.time_operations.proofs.Requesting.{Does-same_registration, Does-timer, Does-no_timer}
use Rattle.time_operations.proofs.requests.timer_set.Goals as goal

pub returns-then-made : goal.returns-then-made
returns-then-made g c =
    Does-wants g.L.Lines.keeping (timer_set c.args.kind c.args.repeats (seen_func c.args.callback) c.args.timeout) c.args.page.now c.args.page.now _ refl

pub returns-in_err-r : goal.returns-in_err-r
returns-in_err-r g c =
    let s = c.args.page.now in
    Does-no_timer c.args.kind c.args.repeats (seen_func c.args.callback) _ _ s (ap (λ n. n + 1) c.timer_ids_made-made.ensures) _ c.from_residual.ensures.1
    (Does-same_registration c.args.kind _ _ s c.callback_of_kind-registration.ensures c.in_err-r.ensures.does)

pub returns : goal.returns
returns g c =
    let s = c.args.page.now in
    Does-timer c.args.kind c.args.repeats (seen_func c.args.callback) _ _ s (ap (λ n. n + 1) c.timer_ids_made-made.ensures) c.in_ok-r.r c.register_as.new.self c.in_ok-r.ensures.number
    (Does-same_registration c.args.kind _ _ s c.callback_of_kind-registration.ensures c.in_ok-r.ensures.does) (rw (to_z-of_z c.ranges.timeout) at c.init_timer.ensures)
