use Rattle.std.proofs.Common.{ap}
use Rattle.page_types.specs.Values as model
use Rattle.page_values.specs.Seen.{seen}
use Rattle.lang_meaning.specs.Machine.{Done}
use Rattle.page_model.specs.State.{Page, State}
use Rattle.page_model.specs.PageHost.{bare}
use Rattle.page_model.specs.Operations.{rejected_with, source_reason}
use Rattle.page_state.specs.Standing.{page_of}
use Rattle.page_state.specs.PageActs.{at}
use Rattle.page_answers.proofs.Answering.{Answers-is}
use Rattle.page_answers.proofs.Choosing.{Answers-wanting}
use Rattle.signal_operations.proofs.refusing.reject_aborted.Goals as goal

pub returns-in_err-reason : goal.returns-in_err-reason
returns-in_err-reason g c =
    let f : State → Done Page = λ m. rejected_with (source_reason m.host c.args.signal) m in
    Answers-wanting g.L.Lines.keeping f c.args.page.now _ _ c.from_residual.ensures.1 c.in_err-reason.ensures.memory

pub returns : goal.returns
returns g c =
    let f : State → Done Page = λ m. rejected_with (source_reason m.host c.args.signal) m in
    Answers-is (rejected_with (seen c.in_ok-reason.reason)) f (at c.args.page.now (g.L.Lines.seen c.args.lines.now))
    (ap (λ (v : model.Value). rejected_with v (bare (page_of c.args.page.now))) c.in_ok-reason.ensures.reason) c.reject_with.ensures
