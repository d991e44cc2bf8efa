use Rattle.std.proofs.Common.{ℕ, refl, ◌∙◌, ap}
use Rattle.page_types.specs.Values.{SignalValue}
use Rattle.lang_meaning.specs.HostSteps.{StepValue}
use Rattle.page_model.specs.Operations.{any_made, answers, signal_left, signal_value}
use Rattle.page_state.specs.PageActs.{at}
use Rattle.page_answers.proofs.Choosing.{Answers-exit, Answers-left, Answers-none_left}
use Rattle.signal_operations.proofs.Answered.{Answers-made}
use Rattle.signal_operations.proofs.making.any_with_priority.Goals as goal

pub returns-then-not-is_signal_left : goal.returns-then-not-is_signal_left
returns-then-not-is_signal_left g c =
    Answers-none_left g.L.Lines.keeping signal_left (answers signal_value (any_made c.args.of.now c.args.priority c.args.follows)) (at c.args.page.now (g.L.Lines.seen c.args.lines.now)) c.throw.result
    c.if-not-is_signal_left.true c.is_signal_left.ensures c.throw.ensures

pub returns-in_err-s : goal.returns-in_err-s
returns-in_err-s g c =
    let F = any_made c.args.of.now c.args.priority c.args.follows in
    let old = at c.args.page.now (g.L.Lines.seen c.args.lines.now) in
    Answers-left signal_left (answers signal_value F) old c.if-not-is_signal_left.false c.is_signal_left.ensures
    (Answers-exit (answers signal_value F) F old _ refl c.from_residual.ensures.1 c.in_err-s.ensures.does)

pub returns : goal.returns
returns g c =
    let F = any_made c.args.of.now c.args.priority c.args.follows in
    let old = at c.args.page.now (g.L.Lines.seen c.args.lines.now) in
    Answers-left signal_left (answers signal_value F) old c.if-not-is_signal_left.false c.is_signal_left.ensures
    (Answers-made signal_value F old c.give.result (λ q. refl) (c.give.ensures ∙ ap (λ (n : ℕ). StepValue (SignalValue n)) c.in_ok-s.ensures.number)
    c.in_ok-s.ensures.does)
