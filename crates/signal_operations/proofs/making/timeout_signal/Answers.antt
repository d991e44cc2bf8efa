use Rattle.std.proofs.Common.{ℕ, Bool, refl, ◌∙◌, ap}
use Rattle.std.specs.Prelude.{◌&&◌}
use Rattle.page_types.specs.Values.{SignalValue}
use Rattle.page_types.specs.declared.FaultName.TheVariants.{TypeError}
use Rattle.page_values.specs.Seen.{seen}
use Rattle.lang_meaning.specs.Machine.{Done}
use Rattle.lang_meaning.specs.HostSteps.{StepValue}
use Rattle.page_model.specs.State.{Page, State}
use Rattle.page_model.specs.Operations.{answers, delay_in, registration_left, signal_left, signal_value, timeout_signal_made, where_left}
use Rattle.page_state.specs.PageActs.{at}
use Rattle.page_answers.proofs.Choosing.{Answers-exit, Answers-given, Answers-left, Answers-none_left, Answers-not_given}
use Rattle.signal_operations.proofs.Answered.{Answers-made}
use Rattle.signal_operations.proofs.making.timeout_signal.Goals as goal

-- whether a signal and a registration are left
abbrev left : Page → Bool
left p = signal_left p && registration_left p

-- what is done with the delay
abbrev delayed : ℕ → State → Done Page
delayed ms m = where_left (left m.host) m (answers signal_value (timeout_signal_made ms))

pub returns-in_default : goal.returns-in_default
returns-in_default g c =
    Answers-not_given g.L.Lines.keeping (delay_in (seen c.args.ms)) TypeError delayed (at c.args.page.now (g.L.Lines.seen c.args.lines.now)) c.throw.result c.in_default.ensures.delay c.throw.ensures

pub returns-then-not-is_timeout_left : goal.returns-then-not-is_timeout_left
returns-then-not-is_timeout_left g c =
    let ms = c.in-Some.ms in
    let old = at c.args.page.now (g.L.Lines.seen c.args.lines.now) in
    Answers-given (delay_in (seen c.args.ms)) ms TypeError delayed old c.in-Some.ensures.delay
    (Answers-none_left g.L.Lines.keeping left (answers signal_value (timeout_signal_made ms)) old c.throw-then-not-is_timeout_left.result c.if-not-is_timeout_left.true c.is_timeout_left.ensures c.throw-then-not-is_timeout_left.ensures)

pub returns-in_err-timeout_signal_made : goal.returns-in_err-timeout_signal_made
returns-in_err-timeout_signal_made g c =
    let ms = c.in-Some.ms in
    let F = timeout_signal_made ms in
    let old = at c.args.page.now (g.L.Lines.seen c.args.lines.now) in
    Answers-given (delay_in (seen c.args.ms)) ms TypeError delayed old c.in-Some.ensures.delay
    (Answers-left left (answers signal_value F) old c.if-not-is_timeout_left.false c.is_timeout_left.ensures
    (Answers-exit (answers signal_value F) F old _ refl c.from_residual.ensures.1 c.in_err-timeout_signal_made.ensures))

pub returns : goal.returns
returns g c =
    let ms = c.in-Some.ms in
    let F = timeout_signal_made ms in
    let old = at c.args.page.now (g.L.Lines.seen c.args.lines.now) in
    Answers-given (delay_in (seen c.args.ms)) ms TypeError delayed old c.in-Some.ensures.delay
    (Answers-left left (answers signal_value F) old c.if-not-is_timeout_left.false c.is_timeout_left.ensures
    (Answers-made signal_value F old c.give.result (λ q. refl) (c.give.ensures ∙ ap (λ (n : ℕ). StepValue (SignalValue n)) c.signals_made.ensures)
    c.in_ok-timeout_signal_made.ensures))
