use Rattle.std.proofs.Common.{refl}
use Rattle.promise_core.specs.Seen.{settled_seen}
use Rattle.page_model.specs.Operations.{answers, last_promise_value, promise_left}
use Rattle.page_script.specs.Marks.{settled_at_once}
use Rattle.page_state.specs.PageActs.{at}
use Rattle.page_answers.proofs.Choosing.{Answers-exit, Answers-last, Answers-left, Answers-none_left}
use Rattle.page_answers.proofs.rejections.give_settled.Goals as goal

pub returns-then-not-is_promise_left : goal.returns-then-not-is_promise_left
returns-then-not-is_promise_left g c =
    let F = settled_at_once (settled_seen c.args.how) in
    Answers-none_left g.L.Lines.keeping promise_left (answers last_promise_value F) (at c.args.page.now (g.L.Lines.seen c.args.lines.now)) c.throw.result
    c.if-not-is_promise_left.true c.is_promise_left.ensures c.throw.ensures

pub returns-in_err-promise : goal.returns-in_err-promise
returns-in_err-promise g c =
    let F = settled_at_once (settled_seen c.args.how) in
    let old = at c.args.page.now (g.L.Lines.seen c.args.lines.now) in
    Answers-left promise_left (answers last_promise_value F) old c.if-not-is_promise_left.false c.is_promise_left.ensures
    (Answers-exit (answers last_promise_value F) F old _ refl c.from_residual.ensures.1 c.in_err-promise.ensures.does)

pub returns : goal.returns
returns g c =
    let F = settled_at_once (settled_seen c.args.how) in
    let old = at c.args.page.now (g.L.Lines.seen c.args.lines.now) in
    Answers-left promise_left (answers last_promise_value F) old c.if-not-is_promise_left.false c.is_promise_left.ensures
    (Answers-last F old c.in_ok-promise.promise c.give.result c.in_ok-promise.ensures.number c.give.ensures c.in_ok-promise.ensures.does)
