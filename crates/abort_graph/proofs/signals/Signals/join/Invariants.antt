use Rattle.std.proofs.Common.{◌≡◌, take}
use Rattle.page_parts.specs.AbortGraph as parts
use Rattle.abort_graph.proofs.signals.Signals.join.Given as goal

abbrev pub invariant-loop-joined : goal.invariant-loop-joined
invariant-loop-joined g l =
    l.self ≡ parts.with_dependent l.d (take l.joined l.sources) l.initial.self
