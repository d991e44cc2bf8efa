use Rattle.std.proofs.Common.{◌≡◌, take}
use Rattle.page_signals.proofs.opened.Kind.arguments.Given as goal

abbrev pub invariant-loop-value : goal.invariant-loop-value
invariant-loop-value l = l.arguments.items ≡ take l.value-index l.value-items
