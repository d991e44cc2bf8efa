use Rattle.std.proofs.Common.{◌≤◌, length}
use Rattle.page_interp.proofs.NameIndex.{IndexesFrom, AreOnceFrom}
use Rattle.page_interp.proofs.names.Names.new.Given as goal

abbrev pub invariant-loop-left : goal.invariant-loop-left
invariant-loop-left l = record {
  within : l.left ≤ length l.names.items;
  indexed : IndexesFrom l.left l.names.items l.places;
  apart : AreOnceFrom l.left l.names.items l.once;
}

abbrev pub decreases-loop-left : goal.decreases-loop-left
decreases-loop-left l = l.left
