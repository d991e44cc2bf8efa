use Rattle.page_tasks.specs.Seen.{sched_task}
use Rattle.page_host.proofs.TaskPerforms.{sched-next, sched-ready}
use Rattle.page_host.proofs.page.Page.perform_next_sched.Goals as goal

pub perform_sched-requires : goal.perform_sched-requires
perform_sched-requires g c = sched-ready c.in-Some.task.registration c.in-Some.ensures.gone c.requires

pub returns : goal.returns
returns g c = sched-next (sched_task c.in-Some.task) c.requires.running c.in-Some.ensures.first c.in-Some.ensures.gone c.perform_sched.result c.perform_sched.ensures
