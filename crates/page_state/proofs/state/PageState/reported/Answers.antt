use Rattle.std.proofs.Common.{ap, ◌∙◌}
use Rattle.page_values.specs.Seen.{seen}
use Rattle.page_model.specs.Invoke.{thrown, report_before, report_after}
use Rattle.page_model.proofs.Adding.Lines.{report_before-adds, report_after-adds}
use Rattle.page_script.specs.Reports.{when_seen}
use Rattle.page_state.proofs.Acting.{Does-next, Does-leave}
use Rattle.page_state.proofs.state.PageState.reported.Goals as goal

pub returns-in_err-thrown : goal.returns-in_err-thrown
returns-in_err-thrown g c =
    let when = when_seen c.args.when in
    let v = seen c.args.value.now in
    Does-leave (thrown v) (λ p. report_after when v (report_before when v p)) _
    (λ es p. ap (report_after when v) (report_before-adds es when v p) ∙ report_after-adds es when v (report_before when v p))
    c.from_residual.ensures.1 c.in_err-thrown.ensures

pub returns-in_err-report_before : goal.returns-in_err-report_before
returns-in_err-report_before g c =
    let when = when_seen c.args.when in
    let v = seen c.args.value.now in
    Does-leave (λ p. report_before when v (thrown v p)) (report_after when v) _ (λ es p. report_after-adds es when v p) c.from_residual-in_err-report_before.ensures.1
    (Does-next (thrown v) (report_before when v) (λ es p. report_before-adds es when v p) c.in_ok-thrown.ensures c.in_err-report_before.ensures)

pub returns : goal.returns
returns g c =
    let when = when_seen c.args.when in
    let v = seen c.args.value.now in
    Does-next (λ p. report_before when v (thrown v p)) (report_after when v) (λ es p. report_after-adds es when v p)
    (Does-next (thrown v) (report_before when v) (λ es p. report_before-adds es when v p) c.in_ok-thrown.ensures c.in_ok-report_before.ensures) c.report_after.ensures
