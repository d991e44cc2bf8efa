use Rattle.std.proofs.Common.{length, map}
use Rattle.trace_text.specs.EventSeen.{stamped_seen}
use Rattle.trace_export.specs.EndsSeen.{known_seen}
use Rattle.trace_export.proofs.Ending.{IsBehind}
use Rattle.trace_export.proofs.ends.call_ends.Given as goal

abbrev pub invariant-loop-e : goal.invariant-loop-e
invariant-loop-e l = IsBehind (map stamped_seen l.events) (map stamped_seen l.rest) (known_seen l.known)

abbrev pub decreases-loop-e : goal.decreases-loop-e
decreases-loop-e l = length l.rest
