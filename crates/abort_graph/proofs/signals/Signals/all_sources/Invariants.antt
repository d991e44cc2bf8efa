use Rattle.std.proofs.Common.{◌≡◌, [], drop}
use Rattle.page_parts.specs.AbortGraph as parts
use Rattle.abort_graph.proofs.signals.Signals.all_sources.Given as goal

abbrev pub invariant-loop-s : goal.invariant-loop-s
invariant-loop-s g l =
    parts.all_sources l.self l.known (drop l.s-index l.of) ≡ parts.all_sources l.self [] l.of
