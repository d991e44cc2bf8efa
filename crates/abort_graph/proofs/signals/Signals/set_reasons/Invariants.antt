use Rattle.std.proofs.Common.{◌≡◌, drop}
use Rattle.page_parts.specs.AbortGraph as parts
use Rattle.abort_graph.proofs.signals.Signals.set_reasons.Given as goal

abbrev pub invariant-loop-s : goal.invariant-loop-s
invariant-loop-s g l =
    parts.with_reason l.reason (drop l.s-index l.signals) l.self ≡ parts.with_reason l.reason l.signals l.initial.self
