use Rattle.std.proofs.Common.{◌≡◌, drop}
use Rattle.page_parts.specs.AbortGraph as parts
use Rattle.abort_graph.proofs.signals.Signals.add_sources.Given as goal

abbrev pub invariant-loop-source : goal.invariant-loop-source
invariant-loop-source g l =
    parts.and_new l.known (drop l.source-index l.sources) ≡ parts.and_new l.initial.known l.sources
