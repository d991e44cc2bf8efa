use Rattle.page_tasks.specs.Seen.{sched_task}
use Rattle.page_host.proofs.TaskEnds.{continuation-exit, continuation-done}
use Rattle.page_host.proofs.page.Page.perform_sched.Goals as goal

pub continued-requires : goal.continued-requires
continued-requires g c = c.requires.running

pub returns-in_err-continued : goal.returns-in_err-continued
returns-in_err-continued g c = continuation-exit (sched_task c.args.task) c.if-task.true _ c.from_residual.ensures.1 c.in_err-continued.ensures

pub returns-then-task : goal.returns-then-task
returns-then-task g c = continuation-done (sched_task c.args.task) c.requires c.if-task.true c.in_ok-continued.ensures
