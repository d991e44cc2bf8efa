use Rattle.std.proofs.Common.{◌≤◌, ◌+◌}
use Rattle.bench.proofs.timers.again.Given as goal

abbrev pub invariant-loop-i : goal.invariant-loop-i
invariant-loop-i l = (l.timers.handles_made ≤ l.n + l.i) × (l.timers.starts_made ≤ l.n + l.i)
