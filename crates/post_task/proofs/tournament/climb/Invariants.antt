use Rattle.std.proofs.Common.{◌≡◌, ◌<◌, map, length}
use Rattle.post_task.specs.Tree.{own_of, IsRightBut}
use Rattle.post_task.proofs.tournament.climb.Given as goal

abbrev pub invariant-loop-at : goal.invariant-loop-at
invariant-loop-at l = record {
  inside : l.at < length l.nodes;
  right : IsRightBut l.at l.nodes;
  own : map own_of l.nodes ≡ map own_of l.fn.nodes;
}

abbrev pub decreases-loop-at : goal.decreases-loop-at
decreases-loop-at l = l.at
