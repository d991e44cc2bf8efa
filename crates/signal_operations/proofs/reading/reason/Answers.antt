use Rattle.std.proofs.Common.{ℕ, ◌∙◌, ap}
use Rattle.page_types.specs.declared.FaultName.TheVariants.{TypeError}
use Rattle.page_parts.specs.Kinds.{signal_in}
use Rattle.page_values.specs.Seen.{seen}
use Rattle.lang_meaning.specs.Machine.{Done, Gives}
use Rattle.lang_meaning.specs.HostSteps.{StepValue}
use Rattle.page_model.specs.State.{Page, State}
use Rattle.page_model.specs.PageSignals.{reason_value}
use Rattle.page_model.specs.Operations.{of_signal}
use Rattle.page_state.specs.PageActs.{at}
use Rattle.page_answers.proofs.Choosing.{Answers-given, Answers-not_given, Answers-wanting}
use Rattle.signal_operations.proofs.Answered.{Answers-read}
use Rattle.signal_operations.proofs.reading.reason.Goals as goal

abbrev told : ℕ → State → Done Page
told s m = Gives (reason_value m.host s) m

pub returns-in_default : goal.returns-in_default
returns-in_default g c =
    Answers-not_given g.L.Lines.keeping (signal_in (seen c.args.signal)) TypeError told (at c.args.page.now (g.L.Lines.seen c.args.lines.now)) c.throw.result c.in_default.ensures c.throw.ensures

pub returns-in_err-reason : goal.returns-in_err-reason
returns-in_err-reason g c =
    Answers-wanting g.L.Lines.keeping (of_signal (seen c.args.signal) (λ s p. reason_value p s)) c.args.page.now _ _ c.from_residual.ensures.1 c.in_err-reason.ensures.memory

pub returns : goal.returns
returns g c =
    let s = c.in-Some.s in
    let old = at c.args.page.now (g.L.Lines.seen c.args.lines.now) in
    Answers-given (signal_in (seen c.args.signal)) s TypeError told old c.in-Some.ensures
    (Answers-read g.L.Lines.keeping (λ p. reason_value p s) old c.give.result (c.give.ensures ∙ ap StepValue c.in_ok-reason.ensures.reason))
