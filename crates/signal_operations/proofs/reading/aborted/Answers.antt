use Rattle.std.proofs.Common.{ℕ, Bool, ◌∙◌, ap}
use Rattle.page_types.specs.Values.{BoolValue}
use Rattle.page_types.specs.declared.FaultName.TheVariants.{TypeError}
use Rattle.page_parts.specs.Kinds.{signal_in}
use Rattle.page_values.specs.Seen.{seen}
use Rattle.lang_meaning.specs.Machine.{Done, Gives}
use Rattle.lang_meaning.specs.HostSteps.{StepValue}
use Rattle.page_model.specs.State.{Page, State}
use Rattle.page_model.specs.PageSignals.{is_aborted}
use Rattle.page_state.specs.PageActs.{at}
use Rattle.page_answers.proofs.Choosing.{Answers-given, Answers-not_given}
use Rattle.signal_operations.proofs.Answered.{Answers-read}
use Rattle.signal_operations.proofs.reading.aborted.Goals as goal

abbrev told : ℕ → State → Done Page
told s m = Gives (BoolValue (is_aborted m.host s)) m

pub returns-in-Some : goal.returns-in-Some
returns-in-Some g c =
    let s = c.in-Some.s in
    let old = at c.args.page.now (g.L.Lines.seen c.args.lines.now) in
    Answers-given (signal_in (seen c.args.signal)) s TypeError told old c.in-Some.ensures
    (Answers-read g.L.Lines.keeping (λ p. BoolValue (is_aborted p s)) old c.give.result (c.give.ensures ∙ ap (λ (b : Bool). StepValue (BoolValue b)) c.is_aborted.ensures))

pub returns : goal.returns
returns g c =
    Answers-not_given g.L.Lines.keeping (signal_in (seen c.args.signal)) TypeError told (at c.args.page.now (g.L.Lines.seen c.args.lines.now)) c.throw.result c.in-None.ensures c.throw.ensures
