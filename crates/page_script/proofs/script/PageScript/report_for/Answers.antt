use Rattle.page_model.specs.PageCombinators.{report}
use Rattle.promise_core.specs.Seen.{settled_seen}
use Rattle.promise_combine.specs.Answers.{answer_seen}
use Rattle.page_script.proofs.Lifting.{Does-wants}
use Rattle.page_script.proofs.Reporting.{Does-report}
use Rattle.page_script.proofs.script.PageScript.report_for.Goals as goal

pub returns-in_err-result : goal.returns-in_err-result
returns-in_err-result g c =
    Does-wants g.L.Lines.keeping (report (record { promise = c.args.into; combinator = c.args.combinator; place = c.args.place }) (settled_seen c.args.how))
    c.args.self.now c.note.new.self _ _ c.from_residual.ensures.1 c.in_err-result.ensures.memory

pub returns : goal.returns
returns g c =
    Does-report (record { promise = c.args.into; combinator = c.args.combinator; place = c.args.place }) (settled_seen c.args.how) c.args.self.now c.note.new.self
    c.in_ok-result.field-0.result (answer_seen c.in_ok-result.field-0.answer) c.in_ok-result.ensures.result c.in_ok-result.ensures.answer
    c.in_ok-result.ensures.noted c.settle_result.ensures
