use Rattle.std.proofs.Common.{ℕ, refl, ◌∙◌, ap}
use Rattle.page_types.specs.Values.{ControllerValue}
use Rattle.lang_meaning.specs.HostSteps.{StepValue}
use Rattle.page_parts.specs.AbortGraph as graph
use Rattle.page_model.specs.Operations.{answers, controller_value, make_controller, signal_left, with_signals}
use Rattle.page_state.specs.PageActs.{at}
use Rattle.page_state.proofs.Acting.{Does-silent}
use Rattle.page_answers.proofs.Choosing.{Answers-left, Answers-none_left, Answers-wanted}
use Rattle.signal_operations.proofs.Answered.{Answers-made}
use Rattle.signal_operations.proofs.making.controller.Goals as goal

pub returns-then-not-is_signal_left : goal.returns-then-not-is_signal_left
returns-then-not-is_signal_left g c =
    Answers-none_left g.L.Lines.keeping signal_left (answers controller_value (with_signals graph.make)) (at c.args.page.now (g.L.Lines.seen c.args.lines.now)) c.throw.result
    c.if-not-is_signal_left.true c.is_signal_left.ensures c.throw.ensures

pub returns-in_err-s : goal.returns-in_err-s
returns-in_err-s g c =
    Answers-wanted g.L.Lines.keeping make_controller c.args.page.now c.make_signal.new.self _ _ c.from_residual.ensures.1 c.in_err-s.ensures.memory

pub returns : goal.returns
returns g c =
    let F = with_signals graph.make in
    let old = at c.args.page.now (g.L.Lines.seen c.args.lines.now) in
    Answers-left signal_left (answers controller_value F) old c.if-not-is_signal_left.false c.is_signal_left.ensures
    (Answers-made controller_value F old c.give.result (λ q. refl) (c.give.ensures ∙ ap (λ (n : ℕ). StepValue (ControllerValue n)) c.in_ok-s.ensures.number)
    (Does-silent g.L.Lines.keeping F c.args.page.now _ refl c.in_ok-s.ensures.made))
