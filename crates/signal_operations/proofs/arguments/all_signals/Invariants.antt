use Rattle.std.proofs.Common.{◌≡◌}
use Rattle.signal_operations.proofs.Numbers.{behind, left, signals}
use Rattle.signal_operations.proofs.arguments.all_signals.Given as goal

-- the numbers so far, and those of the values that are left behind them, are those of all
abbrev pub invariant-loop-value : goal.invariant-loop-value
invariant-loop-value l = signals l.values ≡ behind l.numbers.items (left l.values l.value-index)
