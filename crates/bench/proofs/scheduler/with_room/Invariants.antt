use Rattle.std.proofs.Common.{◌≡◌, ℕ, ◌<◌, []}
use Rattle.std.specs.Prelude.{IsSome}
use Rattle.post_task.specs.declared.level.PrioSource.TheVariants.{Signal}
use Rattle.post_task.specs.Levels.{Kept, waiting, priority_in}
use Rattle.bench.proofs.scheduler.with_room.Given as goal

abbrev pub invariant-loop-s : goal.invariant-loop-s
invariant-loop-s l = record {
  kept : Kept l.queues l.pool;
  empty : waiting l.queues.levels l.pool ≡ [];
  room : (s : ℕ) → s < l.s → IsSome (priority_in l.queues.levels (Signal s));
  inserts : l.pool.inserts ≡ l.fn.pool.inserts;
}
