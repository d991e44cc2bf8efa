use Rattle.page_rules.proofs.KeepingTurns.{without_task-steady, without_sched-steady}
use Rattle.page_rules.proofs.steady.taken_tasks_take_no_time.Goals as goal

pub returns-clause-task : goal.returns-clause-task
returns-clause-task c n p = without_task-steady n p

pub returns-clause-scheduled : goal.returns-clause-scheduled
returns-clause-scheduled c r p = without_sched-steady r p
