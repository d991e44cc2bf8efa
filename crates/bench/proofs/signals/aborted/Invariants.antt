use Rattle.std.proofs.Common.{◌≤◌, length}
use Rattle.bench.proofs.signals.aborted.Given as goal

abbrev pub invariant-loop-made : goal.invariant-loop-made
invariant-loop-made l = length l.signals ≤ l._made
