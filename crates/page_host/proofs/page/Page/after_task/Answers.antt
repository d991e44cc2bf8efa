use Rattle.std.proofs.Common.{refl}
use Rattle.page_host.proofs.TaskRuns.{ready-after}
use Rattle.page_host.proofs.TaskPerforms.{after-runs}
use Rattle.page_host.proofs.page.Page.after_task.Goals as goal

pub no_task-requires : goal.no_task-requires
no_task-requires g c = c.requires.running

pub perform_checkpoint-requires : goal.perform_checkpoint-requires
perform_checkpoint-requires g c = ready-after c.args.machine.now (λ q. refl) c.no_task.ensures c.requires

pub returns : goal.returns
returns g c = after-runs c.no_task.ensures c.perform_checkpoint.ensures
