use Rattle.std.proofs.Common.{refl, ℕ, Bool, ◌&&◌}
use Rattle.page_types.specs.Values as model
use Rattle.page_types.specs.declared.FaultName.TheVariants.{TypeError}
use Rattle.page_parts.specs.Kinds.{promise_in}
use Rattle.page_values.specs.Seen.{seen}
use Rattle.lang_meaning.specs.Machine.{Done}
use Rattle.page_model.specs.State.{Page, State}
use Rattle.page_model.specs.Operations.{answers, last_promise_value, where_left, promise_left, registration_left, then_made}
use Rattle.page_state.specs.PageActs.{at}
use Rattle.page_answers.proofs.Choosing.{Answers-exit, Answers-given, Answers-last, Answers-left, Answers-none_left, Answers-not_given}
use Rattle.promise_operations.proofs.handlers.then.Goals as goal

abbrev both : Page → Bool
both p = promise_left p && registration_left p

-- what is done with promise number n
abbrev next : model.Value → model.Value → ℕ → State → Done Page
next f g n m = where_left (both m.host) m (answers last_promise_value (then_made n f g))

pub returns-in_default : goal.returns-in_default
returns-in_default g c =
    Answers-not_given g.L.Lines.keeping (promise_in (seen c.args.promise)) TypeError (next (seen c.args.fulfilled) (seen c.args.rejected)) (at c.args.page.now (g.L.Lines.seen c.args.lines.now)) c.throw.result
    c.in_default.ensures c.throw.ensures

pub returns-then-not-are_both_left : goal.returns-then-not-are_both_left
returns-then-not-are_both_left g c =
    let n = c.in-Some.number in
    let F = then_made n (seen c.args.fulfilled) (seen c.args.rejected) in
    let old = at c.args.page.now (g.L.Lines.seen c.args.lines.now) in
    Answers-given (promise_in (seen c.args.promise)) n TypeError (next (seen c.args.fulfilled) (seen c.args.rejected)) old c.in-Some.ensures
    (Answers-none_left g.L.Lines.keeping both (answers last_promise_value F) old c.throw-then-not-are_both_left.result c.if-not-are_both_left.true c.are_both_left.ensures c.throw-then-not-are_both_left.ensures)

pub returns-in_err-derived : goal.returns-in_err-derived
returns-in_err-derived g c =
    let n = c.in-Some.number in
    let F = then_made n (seen c.args.fulfilled) (seen c.args.rejected) in
    let old = at c.args.page.now (g.L.Lines.seen c.args.lines.now) in
    Answers-given (promise_in (seen c.args.promise)) n TypeError (next (seen c.args.fulfilled) (seen c.args.rejected)) old c.in-Some.ensures
    (Answers-left both (answers last_promise_value F) old c.if-not-are_both_left.false c.are_both_left.ensures
    (Answers-exit (answers last_promise_value F) F old _ refl c.from_residual.ensures.1 c.in_err-derived.ensures.does))

pub returns : goal.returns
returns g c =
    let n = c.in-Some.number in
    let F = then_made n (seen c.args.fulfilled) (seen c.args.rejected) in
    let old = at c.args.page.now (g.L.Lines.seen c.args.lines.now) in
    Answers-given (promise_in (seen c.args.promise)) n TypeError (next (seen c.args.fulfilled) (seen c.args.rejected)) old c.in-Some.ensures
    (Answers-left both (answers last_promise_value F) old c.if-not-are_both_left.false c.are_both_left.ensures
    (Answers-last F old c.in_ok-derived.derived c.give.result c.in_ok-derived.ensures.number c.give.ensures c.in_ok-derived.ensures.does))
