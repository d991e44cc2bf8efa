use Rattle.std.proofs.Common.{◌≡◌, length}
use Rattle.pool_rows.proofs.pools.fill.Given as goal

abbrev pub invariant-loop-number : goal.invariant-loop-number
invariant-loop-number g l = (l.pool.inserts ≡ l.number) × (length l.pool.lists ≡ length l.initial.pool.lists)
