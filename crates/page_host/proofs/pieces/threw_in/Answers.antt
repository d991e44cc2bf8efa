use Rattle.page_values.specs.Seen.{seen}
use Rattle.page_model.specs.Invoke.{thrown, report_before}
use Rattle.page_model.proofs.Adding.Lines.{report_before-adds}
use Rattle.page_script.specs.Reports.{when_seen}
use Rattle.page_state.proofs.Acting.{Does-next, Does-leave}
use Rattle.page_host.proofs.pieces.threw_in.Goals as goal

pub returns-in_err-thrown : goal.returns-in_err-thrown
returns-in_err-thrown g c =
    Does-leave (thrown (seen c.args.value.now)) (report_before (when_seen c.args.when) (seen c.args.value.now)) _ (λ es. report_before-adds es (when_seen c.args.when) (seen c.args.value.now)) c.from_residual.ensures.1 c.in_err-thrown.ensures

pub returns : goal.returns
returns g c =
    Does-next (thrown (seen c.args.value.now)) (report_before (when_seen c.args.when) (seen c.args.value.now)) (λ es. report_before-adds es (when_seen c.args.when) (seen c.args.value.now)) c.in_ok-thrown.ensures c.report_before.ensures
