use Rattle.std.proofs.Common.{◌≡◌, ℕ, ◌≤◌, ◌<◌, ◌+◌}
use Rattle.post_task.specs.Waiting.{Waiting, Among}
use Rattle.post_task.specs.Levels.{Kept, waiting}
use Rattle.bench.proofs.scheduler.enqueue_each.Given as goal

abbrev pub invariant-loop-s : goal.invariant-loop-s
invariant-loop-s g l = record {
  kept : Kept l.queues l.pool;
  levels : l.queues.levels ≡ l.fn.queues.levels;
  earlier : (task : Waiting ℕ) → Among task (waiting l.queues.levels l.pool) → task.order < l.s + 1;
  inserts : l.pool.inserts ≡ l.s;
}
