use Rattle.std.proofs.Common.{refl}
use Rattle.page_values.specs.Seen.{seen}
use Rattle.page_script.specs.Reports.{logged}
use Rattle.page_model.specs.Operations.{does}
use Rattle.page_state.specs.PageActs.{at}
use Rattle.page_answers.proofs.Choosing.{Answers-does, Answers-exit}
use Rattle.promise_operations.proofs.values.log.Goals as goal

pub returns-in_err-log : goal.returns-in_err-log
returns-in_err-log g c =
    let F = logged (seen c.args.value) in
    Answers-exit (does F) F (at c.args.page.now (g.L.Lines.seen c.args.lines.now)) _ refl c.from_residual.ensures.1 c.in_err-log.ensures

pub returns : goal.returns
returns g c =
    Answers-does (logged (seen c.args.value)) (at c.args.page.now (g.L.Lines.seen c.args.lines.now)) c.give_unit.result c.give_unit.ensures c.in_ok-log.ensures
