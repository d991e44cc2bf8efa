use Rattle.std.proofs.Common.{refl, ℕ, Bool, ◌&&◌}
use Rattle.page_types.specs.Values as model
use Rattle.page_parts.specs.Kinds.{promise_in}
use Rattle.page_values.specs.Seen.{seen}
use Rattle.lang_meaning.specs.Machine.{Done}
use Rattle.page_model.specs.State.{Page, State}
use Rattle.page_model.specs.Operations.{answers, last_promise_value, where_left, promise_left, registration_left, finally_made}
use Rattle.page_state.specs.PageActs.{at}
use Rattle.page_answers.proofs.Choosing.{Answers-accepted, Answers-exit, Answers-last, Answers-left, Answers-none_left, Answers-rejected}
use Rattle.promise_operations.proofs.handlers.finally.Goals as goal

abbrev both : Page → Bool
both p = promise_left p && registration_left p

-- what is done with promise number n
abbrev next : model.Value → ℕ → State → Done Page
next f n m = where_left (both m.host) m (answers last_promise_value (finally_made n f))

pub returns-in_default : goal.returns-in_default
returns-in_default g c =
    Answers-rejected (promise_in (seen c.args.promise)) (next (seen c.args.handler)) (at c.args.page.now (g.L.Lines.seen c.args.lines.now)) c.in_default.ensures c.reject_fault.ensures

pub returns-then-not-are_both_left : goal.returns-then-not-are_both_left
returns-then-not-are_both_left g c =
    let n = c.in-Some.number in
    let F = finally_made n (seen c.args.handler) in
    let old = at c.args.page.now (g.L.Lines.seen c.args.lines.now) in
    Answers-accepted (promise_in (seen c.args.promise)) n (next (seen c.args.handler)) old c.in-Some.ensures
    (Answers-none_left g.L.Lines.keeping both (answers last_promise_value F) old c.throw.result c.if-not-are_both_left.true c.are_both_left.ensures c.throw.ensures)

pub returns-in_err-into : goal.returns-in_err-into
returns-in_err-into g c =
    let n = c.in-Some.number in
    let F = finally_made n (seen c.args.handler) in
    let old = at c.args.page.now (g.L.Lines.seen c.args.lines.now) in
    Answers-accepted (promise_in (seen c.args.promise)) n (next (seen c.args.handler)) old c.in-Some.ensures
    (Answers-left both (answers last_promise_value F) old c.if-not-are_both_left.false c.are_both_left.ensures
    (Answers-exit (answers last_promise_value F) F old _ refl c.from_residual.ensures.1 c.in_err-into.ensures.does))

pub returns : goal.returns
returns g c =
    let n = c.in-Some.number in
    let F = finally_made n (seen c.args.handler) in
    let old = at c.args.page.now (g.L.Lines.seen c.args.lines.now) in
    Answers-accepted (promise_in (seen c.args.promise)) n (next (seen c.args.handler)) old c.in-Some.ensures
    (Answers-left both (answers last_promise_value F) old c.if-not-are_both_left.false c.are_both_left.ensures
    (Answers-last F old c.in_ok-into.into c.give.result c.in_ok-into.ensures.number c.give.ensures c.in_ok-into.ensures.does))
