use Rattle.std.proofs.Common.{◌≡◌, length}
use Rattle.page_folds.specs.Seen.{open_of}
use Rattle.pool_rows.proofs.folds.take_all.Given as goal

abbrev pub invariant-loop-step : goal.invariant-loop-step
invariant-loop-step g l = length (open_of l.folds) ≡ l.depth
