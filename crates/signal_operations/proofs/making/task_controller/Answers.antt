use Rattle.std.proofs.Common.{ℕ, refl, ◌∙◌, ap}
use Rattle.page_types.specs.Values.{ControllerValue}
use Rattle.page_types.specs.declared.FaultName.TheVariants.{TypeError}
use Rattle.page_types.specs.declared.Priority.{Priority}
use Rattle.page_values.specs.Seen.{seen}
use Rattle.lang_meaning.specs.Machine.{Done}
use Rattle.lang_meaning.specs.HostSteps.{StepValue}
use Rattle.page_model.specs.State.{Page, State}
use Rattle.page_model.specs.Operations.{answers, controller_value, priority_in, signal_left, task_signal_made, where_left}
use Rattle.page_state.specs.PageActs.{at}
use Rattle.page_answers.proofs.Choosing.{Answers-exit, Answers-given, Answers-left, Answers-none_left, Answers-not_given}
use Rattle.signal_operations.proofs.Answered.{Answers-made}
use Rattle.signal_operations.proofs.making.task_controller.Goals as goal

-- what is done with the priority
abbrev with_priority : Priority → State → Done Page
with_priority priority m = where_left (signal_left m.host) m (answers controller_value (task_signal_made priority))

pub returns-in_default : goal.returns-in_default
returns-in_default g c =
    Answers-not_given g.L.Lines.keeping (priority_in (seen c.args.priority)) TypeError with_priority (at c.args.page.now (g.L.Lines.seen c.args.lines.now)) c.throw.result
    c.in_default.ensures c.throw.ensures

pub returns-then-not-is_signal_left : goal.returns-then-not-is_signal_left
returns-then-not-is_signal_left g c =
    let p = c.in-Some.priority in
    let old = at c.args.page.now (g.L.Lines.seen c.args.lines.now) in
    Answers-given (priority_in (seen c.args.priority)) p TypeError with_priority old c.in-Some.ensures
    (Answers-none_left g.L.Lines.keeping signal_left (answers controller_value (task_signal_made p)) old c.throw-then-not-is_signal_left.result c.if-not-is_signal_left.true c.is_signal_left.ensures c.throw-then-not-is_signal_left.ensures)

pub returns-in_err-s : goal.returns-in_err-s
returns-in_err-s g c =
    let p = c.in-Some.priority in
    let F = task_signal_made p in
    let old = at c.args.page.now (g.L.Lines.seen c.args.lines.now) in
    Answers-given (priority_in (seen c.args.priority)) p TypeError with_priority old c.in-Some.ensures
    (Answers-left signal_left (answers controller_value F) old c.if-not-is_signal_left.false c.is_signal_left.ensures
    (Answers-exit (answers controller_value F) F old _ refl c.from_residual.ensures.1 c.in_err-s.ensures.does))

pub returns : goal.returns
returns g c =
    let p = c.in-Some.priority in
    let F = task_signal_made p in
    let old = at c.args.page.now (g.L.Lines.seen c.args.lines.now) in
    Answers-given (priority_in (seen c.args.priority)) p TypeError with_priority old c.in-Some.ensures
    (Answers-left signal_left (answers controller_value F) old c.if-not-is_signal_left.false c.is_signal_left.ensures
    (Answers-made controller_value F old c.give.result (λ q. refl) (c.give.ensures ∙ ap (λ (n : ℕ). StepValue (ControllerValue n)) c.in_ok-s.ensures.number)
    c.in_ok-s.ensures.does))
