use Rattle.std.proofs.Common.{refl, rules}
use Rattle.std.proofs.lemmas.Int.{to_z-of_z}
use mir.Syntax.{w64}
use mir.Val.{SFits}
use Rattle.promise_core.specs.Seen.{settled_seen}
use Rattle.page_tasks.specs.Seen.{host_task}
use Rattle.page_host.specs.Tasking.{answer_settles}
use Rattle.page_host.proofs.HostAnswers.{told-no_line, told-unsettled, told-settled}
use Rattle.page_host.proofs.host_tasks.answer_told_in.Goals as goal

pub returns-in_err-emit : goal.returns-in_err-emit
returns-in_err-emit g c =
    let fits : SFits w64 c.args.task.number = search rules in
    told-no_line (host_task c.args.task) c.args.answer c.promise_of-promise.result (answer_settles c.args.answer) c.args.state.now c.promise_of-promise.ensures refl _ c.from_residual.ensures.1 (rw (to_z-of_z w64 c.args.task.number fits) at c.in_err-emit.ensures)

pub returns-in_err-settle : goal.returns-in_err-settle
returns-in_err-settle g c =
    let fits : SFits w64 c.args.task.number = search rules in
    told-unsettled (host_task c.args.task) c.args.answer c.promise_of-promise.result (settled_seen c.settled_by.result) c.args.state.now c.promise_of-promise.ensures c.settled_by.ensures _ c.from_residual-in_err-settle.ensures.1 (rw (to_z-of_z w64 c.args.task.number fits) at c.in_ok-emit.ensures)
    c.in_err-settle.ensures

pub returns : goal.returns
returns g c =
    let fits : SFits w64 c.args.task.number = search rules in
    told-settled (host_task c.args.task) c.args.answer c.promise_of-promise.result (settled_seen c.settled_by.result) c.args.state.now c.promise_of-promise.ensures c.settled_by.ensures c.settle.new.self _ (rw (to_z-of_z w64 c.args.task.number fits) at c.in_ok-emit.ensures) c.in_ok-settle.ensures
    c.unwatch.ensures
