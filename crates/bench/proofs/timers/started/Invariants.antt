use Rattle.std.proofs.Common.{◌≤◌}
use Rattle.bench.proofs.timers.started.Given as goal

abbrev pub invariant-loop-i : goal.invariant-loop-i
invariant-loop-i l = (l.timers.ids_made ≤ l.i) × (l.timers.handles_made ≤ l.i) × (l.timers.starts_made ≤ l.i)
