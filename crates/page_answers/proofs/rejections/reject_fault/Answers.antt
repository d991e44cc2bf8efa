use Rattle.page_values.specs.Seen.{seen}
use Rattle.page_parts.specs.Kinds.{a_fault}
use Rattle.page_model.specs.Operations.{rejected_with}
use Rattle.page_state.specs.PageActs.{at}
use Rattle.page_answers.proofs.Choosing.{Answers-value}
use Rattle.page_answers.proofs.rejections.reject_fault.Goals as goal

pub returns : goal.returns
returns g c =
    Answers-value rejected_with (seen c.fault-reason.result) (a_fault c.args.name) (at c.args.page.now (g.L.Lines.seen c.args.lines.now)) c.fault-reason.ensures c.reject_with.ensures
