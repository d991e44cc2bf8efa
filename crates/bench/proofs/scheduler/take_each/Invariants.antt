use Rattle.post_task.specs.Levels.{Kept}
use Rattle.bench.proofs.scheduler.take_each.Given as goal

abbrev pub invariant-loop : goal.invariant-loop
invariant-loop g l = Kept l.queues l.pool
