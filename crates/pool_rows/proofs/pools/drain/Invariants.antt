use Rattle.std.proofs.Common.{◌<◌, length}
use Rattle.pool_rows.proofs.pools.drain.Given as goal

abbrev pub invariant-loop-turn : goal.invariant-loop-turn
invariant-loop-turn g l = l.l.0 < length l.pool.lists
