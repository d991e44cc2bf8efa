use Rattle.std.proofs.Common.{length, map}
use Rattle.trace_export.specs.Seen.{span_seen}
use Rattle.trace_export.proofs.ReadLists.{IsPart}
use Rattle.trace_export.proofs.reading.read_export.Given as goal

abbrev pub invariant-loop-calls : goal.invariant-loop-calls
invariant-loop-calls l = IsPart l.bytes (map span_seen l.calls.items) l.rest

abbrev pub decreases-loop-calls : goal.decreases-loop-calls
decreases-loop-calls l = length l.rest
