-- The signals of the code as those of the definitions.
use Rattle.std.specs.Prelude.{List, map}
use Rattle.page_parts.specs.AbortGraph.{SignalRecord, Signals}
use Rattle.abort_graph.specs.declared.signal.Signal.{Signal}

abbrev pub signal_seen : {R : Type 0} → Signal R → SignalRecord R
signal_seen s = record { reason = s.reason; sources = s.sources.items; dependents = s.dependents.items; algorithms = s.algorithms }

abbrev pub signals_of : {R : Type 0} → List (Signal R) → Signals R
signals_of ss = map signal_seen ss
