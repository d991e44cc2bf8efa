use Rattle.std.proofs.Common.{refl}
use Rattle.page_values.specs.Seen.{seen}
use Rattle.page_model.specs.Invoke.{report}
use Rattle.page_script.proofs.Touching.{report-only}
use Rattle.page_state.proofs.Acting.{Does-wants}
use Rattle.page_state.proofs.Lifted.{Does-kept}
use Rattle.page_state.proofs.state.PageState.report.Goals as goal

pub returns-then-not-is_numbered : goal.returns-then-not-is_numbered
returns-then-not-is_numbered g c = Does-wants g.L.Lines.keeping (report (seen c.args.value.now)) c.args.self.now c.args.self.now (g.L.Lines.seen c.args.lines.now) refl

pub returns : goal.returns
returns g c = Does-kept (report (seen c.args.value.now)) (report-only (seen c.args.value.now)) c.self.view_is c.report.ensures
