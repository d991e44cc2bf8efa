use Rattle.std.proofs.Common.{map, refl, ap, ◌∙◌}
use Rattle.page_values.specs.Seen.{seen}
use Rattle.page_tasks.specs.Seen.{sched_task}
use Rattle.page_model.specs.State.{the_registration}
use Rattle.page_state.specs.Standing.{page_of}
use Rattle.page_host.specs.PageNow.{PageNow}
use Rattle.page_host.proofs.CallingBack.{ran-is}
use Rattle.page_host.proofs.TaskRuns.{ready-after, given-none}
use Rattle.page_host.proofs.TaskEnds.{post-begun_exit, post-exit, post-dry, post-gave, post-gave_exit, post-threw, post-threw_exit}
use Rattle.page_host.proofs.page.Page.run_post.Goals as goal

pub post_begun-requires : goal.post_begun-requires
post_begun-requires g c = c.requires.ready.running

pub invoke_in_task-requires : goal.invoke_in_task-requires
invoke_in_task-requires g c = ready-after c.args.machine.now (λ q. refl) c.in_ok-post_begun.ensures c.requires.ready

pub post_over-requires : goal.post_over-requires
post_over-requires g c = c.in_ok-value.ensures.stopped

pub post_over-requires-in-Throw : goal.post_over-requires-in-Throw
post_over-requires-in-Throw g c = c.in_ok-value.ensures.stopped

pub returns-in_err-post_begun : goal.returns-in_err-post_begun
returns-in_err-post_begun g c = post-begun_exit (sched_task c.args.task) c.requires.posted _ c.from_residual.ensures.1 c.in_err-post_begun.ensures

pub returns-in_err-value : goal.returns-in_err-value
returns-in_err-value g c =
    let is = c.promise_of-promise.ensures ∙ ap (λ (p : PageNow g.row.L.Denot). (the_registration (page_of p.state) c.args.task.registration).promise) c.self.view_is in
    post-exit (sched_task c.args.task) c.promise_of-promise.result is c.requires.posted c.in_ok-post_begun.ensures _ c.from_residual-in_err-value.ensures.1 (given-none c.args.task.registration (map seen c.new-none.result.items) (ap (map seen) c.new-none.ensures.items) c.in_err-value.ensures)

pub returns-in-Fuel : goal.returns-in-Fuel
returns-in-Fuel g c =
    let is = c.promise_of-promise.ensures ∙ ap (λ (p : PageNow g.row.L.Denot). (the_registration (page_of p.state) c.args.task.registration).promise) c.self.view_is in
    post-dry (sched_task c.args.task) c.promise_of-promise.result is c.requires.posted c.in_ok-post_begun.ensures (given-none c.args.task.registration (map seen c.new-none.result.items) (ap (map seen) c.new-none.ensures.items) (ran-is c.in-Fuel.is c.in_ok-value.ensures))

pub returns-in_err-post_over-in-Value : goal.returns-in_err-post_over-in-Value
returns-in_err-post_over-in-Value g c =
    let is = c.promise_of-promise.ensures ∙ ap (λ (p : PageNow g.row.L.Denot). (the_registration (page_of p.state) c.args.task.registration).promise) c.self.view_is in
    post-gave_exit (sched_task c.args.task) c.promise_of-promise.result is c.requires.posted c.in_ok-post_begun.ensures (seen c.in-Value.value) (given-none c.args.task.registration (map seen c.new-none.result.items) (ap (map seen) c.new-none.ensures.items) (ran-is c.in-Value.is c.in_ok-value.ensures)) _ c.from_residual-in_err-post_over-in-Value.ensures.1
    c.in_err-post_over-in-Value.ensures

pub returns-in_ok-post_over-in-Value : goal.returns-in_ok-post_over-in-Value
returns-in_ok-post_over-in-Value g c =
    let is = c.promise_of-promise.ensures ∙ ap (λ (p : PageNow g.row.L.Denot). (the_registration (page_of p.state) c.args.task.registration).promise) c.self.view_is in
    post-gave (sched_task c.args.task) c.promise_of-promise.result is c.requires.posted c.in_ok-post_begun.ensures (seen c.in-Value.value) (given-none c.args.task.registration (map seen c.new-none.result.items) (ap (map seen) c.new-none.ensures.items) (ran-is c.in-Value.is c.in_ok-value.ensures)) c.in_ok-post_over-in-Value.ensures

pub returns-in_err-post_over-in-Throw : goal.returns-in_err-post_over-in-Throw
returns-in_err-post_over-in-Throw g c =
    let is = c.promise_of-promise.ensures ∙ ap (λ (p : PageNow g.row.L.Denot). (the_registration (page_of p.state) c.args.task.registration).promise) c.self.view_is in
    post-threw_exit (sched_task c.args.task) c.promise_of-promise.result is c.requires.posted c.in_ok-post_begun.ensures (seen c.in-Throw.reason) (given-none c.args.task.registration (map seen c.new-none.result.items) (ap (map seen) c.new-none.ensures.items) (ran-is c.in-Throw.is c.in_ok-value.ensures)) _ c.from_residual-in_err-post_over-in-Throw.ensures.1
    c.in_err-post_over-in-Throw.ensures

pub returns-in_ok-post_over-in-Throw : goal.returns-in_ok-post_over-in-Throw
returns-in_ok-post_over-in-Throw g c =
    let is = c.promise_of-promise.ensures ∙ ap (λ (p : PageNow g.row.L.Denot). (the_registration (page_of p.state) c.args.task.registration).promise) c.self.view_is in
    post-threw (sched_task c.args.task) c.promise_of-promise.result is c.requires.posted c.in_ok-post_begun.ensures (seen c.in-Throw.reason) (given-none c.args.task.registration (map seen c.new-none.result.items) (ap (map seen) c.new-none.ensures.items) (ran-is c.in-Throw.is c.in_ok-value.ensures)) c.in_ok-post_over-in-Throw.ensures
