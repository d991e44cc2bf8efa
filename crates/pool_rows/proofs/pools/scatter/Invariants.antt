use Rattle.std.proofs.Common.{◌≡◌, length}
use Rattle.pool_rows.proofs.pools.scatter.Given as goal

abbrev pub invariant-loop-turn : goal.invariant-loop-turn
invariant-loop-turn g l = length l.pool.lists ≡ length l.initial.pool.lists
