use Rattle.std.proofs.Common.{◌≤◌}
use Rattle.bench.proofs.frames.taken.Given as goal

abbrev pub invariant-loop-i : goal.invariant-loop-i
invariant-loop-i l = l.frames.map.made ≤ l.i
