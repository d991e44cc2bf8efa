use Rattle.page_host.proofs.TaskEnds.{continued-not_begun, continued-not_settled, continued-not_returned, continued-over}
use Rattle.page_host.proofs.sched_tasks.continued_in.Goals as goal

pub returns-in_err-call_begun : goal.returns-in_err-call_begun
returns-in_err-call_begun g c = continued-not_begun c.args.r c.promise_of-promise.result c.args.state.now c.promise_of-promise.ensures _ c.from_residual.ensures.1 c.in_err-call_begun.ensures

pub returns-in_err-settle : goal.returns-in_err-settle
returns-in_err-settle g c =
    continued-not_settled c.args.r c.promise_of-promise.result c.args.state.now c.promise_of-promise.ensures c.in_ok-call_begun.ensures _ c.from_residual-in_err-settle.ensures.1 c.in_err-settle.ensures

pub returns-in_err-returned : goal.returns-in_err-returned
returns-in_err-returned g c =
    continued-not_returned c.args.r c.promise_of-promise.result c.args.state.now c.promise_of-promise.ensures c.in_ok-call_begun.ensures c.in_ok-settle.ensures _ c.from_residual-in_err-returned.ensures.1 c.in_err-returned.ensures

pub returns : goal.returns
returns g c =
    continued-over c.args.r c.promise_of-promise.result c.args.state.now c.promise_of-promise.ensures c.in_ok-call_begun.ensures c.in_ok-settle.ensures c.returned.new.self _ c.in_ok-returned.ensures c.unwatch.ensures
