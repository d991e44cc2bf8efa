use Rattle.std.proofs.Common.{refl}
use Rattle.page_model.specs.Operations.{answers, last_promise_value, promise_left, script_promise}
use Rattle.page_state.specs.PageActs.{at}
use Rattle.page_state.proofs.Acting.{Does-silent}
use Rattle.page_answers.proofs.Choosing.{Answers-last, Answers-left, Answers-none_left, Answers-wanted}
use Rattle.promise_operations.proofs.promises.make_promise.Goals as goal

pub returns-then-not-is_promise_left : goal.returns-then-not-is_promise_left
returns-then-not-is_promise_left g c = λ lines.
    Answers-none_left g.L.Lines.keeping promise_left (answers last_promise_value script_promise) (at c.args.page.now lines) c.throw.result
    c.if-not-is_promise_left.true c.is_promise_left.ensures c.throw.ensures

pub returns-in_err-promise : goal.returns-in_err-promise
returns-in_err-promise g c = λ lines.
    Answers-wanted g.L.Lines.keeping _ c.args.page.now c.script_promise.new.self lines _ c.from_residual.ensures.1 c.in_err-promise.ensures.memory

pub returns : goal.returns
returns g c = λ lines.
    let old = at c.args.page.now lines in
    Answers-left promise_left (answers last_promise_value script_promise) old c.if-not-is_promise_left.false c.is_promise_left.ensures
    (Answers-last script_promise old c.in_ok-promise.promise c.give.result c.in_ok-promise.ensures.number c.give.ensures
    (Does-silent g.L.Lines.keeping script_promise c.args.page.now lines refl c.in_ok-promise.ensures.made))
