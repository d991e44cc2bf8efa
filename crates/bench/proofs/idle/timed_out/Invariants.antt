use Rattle.std.proofs.Common.{◌≤◌}
use Rattle.bench.proofs.idle.timed_out.Given as goal

abbrev pub invariant-loop-i : goal.invariant-loop-i
invariant-loop-i l = l.idle.made ≤ l.i
