use Rattle.std.proofs.Common.{◌≡◌, drop}
use Rattle.page_parts.specs.AbortGraph as parts
use Rattle.abort_graph.proofs.signals.Signals.first_reason.Given as goal

abbrev pub invariant-loop-s : goal.invariant-loop-s
invariant-loop-s g l =
    parts.first_reason l.self (drop l.s-index l.of) ≡ parts.first_reason l.self l.of
