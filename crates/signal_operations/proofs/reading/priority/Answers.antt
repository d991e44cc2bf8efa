use Rattle.std.proofs.Common.{ℕ, Option, ◌∙◌, ap}
use Rattle.page_types.specs.declared.FaultName.TheVariants.{TypeError}
use Rattle.page_types.specs.declared.Priority.{Priority}
use Rattle.page_parts.specs.Kinds.{signal_in}
use Rattle.page_parts.specs.TaskSignals.{priority_of}
use Rattle.page_values.specs.Seen.{seen}
use Rattle.lang_meaning.specs.Machine.{Done, Gives}
use Rattle.lang_meaning.specs.HostSteps.{StepValue}
use Rattle.page_model.specs.State.{Page, State}
use Rattle.page_model.specs.PageSignals.{priority_value}
use Rattle.page_model.specs.Operations.{of_signal}
use Rattle.page_state.specs.PageActs.{at}
use Rattle.page_answers.proofs.Choosing.{Answers-given, Answers-not_given, Answers-wanting}
use Rattle.signal_operations.proofs.Answered.{Answers-read}
use Rattle.signal_operations.proofs.reading.priority.Goals as goal

abbrev told : ℕ → State → Done Page
told s m = Gives (priority_value (priority_of m.host.prios s)) m

pub returns-in_default : goal.returns-in_default
returns-in_default g c =
    Answers-not_given g.L.Lines.keeping (signal_in (seen c.args.signal)) TypeError told (at c.args.page.now (g.L.Lines.seen c.args.lines.now)) c.throw.result c.in_default.ensures c.throw.ensures

pub returns-in_err-priority : goal.returns-in_err-priority
returns-in_err-priority g c =
    Answers-wanting g.L.Lines.keeping (of_signal (seen c.args.signal) (λ s p. priority_value (priority_of p.prios s))) c.args.page.now _ _ c.from_residual.ensures.1
    c.in_err-priority.ensures.memory

pub returns : goal.returns
returns g c =
    let s = c.in-Some.s in
    let old = at c.args.page.now (g.L.Lines.seen c.args.lines.now) in
    Answers-given (signal_in (seen c.args.signal)) s TypeError told old c.in-Some.ensures
    (Answers-read g.L.Lines.keeping (λ p. priority_value (priority_of p.prios s)) old c.give.result
    (c.give.ensures ∙ ap StepValue (c.in_ok-priority.ensures.word ∙ ap (λ (o : Option Priority). priority_value o) c.priority_of.ensures)))
