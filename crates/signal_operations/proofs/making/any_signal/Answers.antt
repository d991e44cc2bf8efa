use Rattle.std.proofs.Common.{ℕ, List, refl, ◌∙◌, ap}
use Rattle.page_types.specs.Values.{SignalValue}
use Rattle.page_types.specs.declared.FaultName.TheVariants.{TypeError}
use Rattle.page_values.specs.Seen.{seen}
use Rattle.lang_meaning.specs.Machine.{Done}
use Rattle.lang_meaning.specs.HostSteps.{StepValue}
use Rattle.page_parts.specs.AbortGraph as graph
use Rattle.page_model.specs.State.{Page, State}
use Rattle.page_model.specs.Operations.{answers, make_any, signal_left, signal_value, signals_in, where_left, with_signals}
use Rattle.page_state.specs.PageActs.{at, changed_by}
use Rattle.page_state.proofs.Acting.{Does-silent}
use Rattle.page_answers.proofs.Choosing.{Answers-given, Answers-left, Answers-none_left, Answers-not_given, Answers-wanted, Answers-wanting}
use Rattle.signal_operations.proofs.Answered.{Answers-made}
use Rattle.signal_operations.proofs.making.any_signal.Goals as goal

-- what is done with the signals
abbrev depending_on : List ℕ → State → Done Page
depending_on ss m = where_left (signal_left m.host) m (answers signal_value (with_signals (graph.any ss)))

pub returns-in_err-of : goal.returns-in_err-of
returns-in_err-of g c =
    Answers-wanting g.L.Lines.keeping (make_any (seen c.args.list)) c.args.page.now _ _ c.from_residual.ensures.1 c.in_err-of.ensures.memory

pub returns-in_default : goal.returns-in_default
returns-in_default g c =
    Answers-not_given g.L.Lines.keeping (signals_in (seen c.args.list)) TypeError depending_on (at c.args.page.now (g.L.Lines.seen c.args.lines.now)) c.throw.result
    (rw c.in_default.is at c.in_ok-of.ensures.numbers) c.throw.ensures

pub returns-then-not-is_signal_left : goal.returns-then-not-is_signal_left
returns-then-not-is_signal_left g c =
    let ss = c.in-Some.of.items in
    let old = at c.args.page.now (g.L.Lines.seen c.args.lines.now) in
    Answers-given (signals_in (seen c.args.list)) ss TypeError depending_on old (rw c.in-Some.is at c.in_ok-of.ensures.numbers)
    (Answers-none_left g.L.Lines.keeping signal_left (answers signal_value (with_signals (graph.any ss))) old c.throw-then-not-is_signal_left.result c.if-not-is_signal_left.true c.is_signal_left.ensures c.throw-then-not-is_signal_left.ensures)

pub returns-in_err-s : goal.returns-in_err-s
returns-in_err-s g c =
    Answers-wanted g.L.Lines.keeping (make_any (seen c.args.list)) c.args.page.now c.any.new.self _ _ c.from_residual-in_err-s.ensures.1 c.in_err-s.ensures.memory

pub returns : goal.returns
returns g c =
    let ss = c.in-Some.of.items in
    let F = with_signals (graph.any ss) in
    let old = at c.args.page.now (g.L.Lines.seen c.args.lines.now) in
    Answers-given (signals_in (seen c.args.list)) ss TypeError depending_on old (rw c.in-Some.is at c.in_ok-of.ensures.numbers)
    (Answers-left signal_left (answers signal_value F) old c.if-not-is_signal_left.false c.is_signal_left.ensures
    (Answers-made signal_value F old c.give.result (λ q. refl) (c.give.ensures ∙ ap (λ (n : ℕ). StepValue (SignalValue n)) c.in_ok-s.ensures.number)
    (Does-silent g.L.Lines.keeping F c.args.page.now _ refl
    (c.in_ok-s.ensures.made ∙ ap (λ (of : List ℕ). changed_by (with_signals (graph.any of)) c.args.page.now) c.deref.ensures.value))))
