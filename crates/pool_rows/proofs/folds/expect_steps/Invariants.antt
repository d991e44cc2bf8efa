use Rattle.std.proofs.Common.{◌≡◌, length}
use Rattle.page_folds.specs.Seen.{open_of}
use Rattle.pool_rows.proofs.folds.expect_steps.Given as goal

abbrev pub invariant-loop-visit : goal.invariant-loop-visit
invariant-loop-visit g l = length (open_of l.folds) ≡ l.depth
