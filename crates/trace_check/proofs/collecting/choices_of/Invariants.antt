use Rattle.std.proofs.Common.{length, map}
use Rattle.trace_text.specs.EventSeen.{stamped_seen}
use Rattle.trace_check.proofs.Gathered.{Collects}
use Rattle.trace_check.proofs.collecting.choices_of.Given as goal

abbrev pub invariant-loop-e : goal.invariant-loop-e
invariant-loop-e l = Collects (map stamped_seen l.events) l.choices (map stamped_seen l.rest)

abbrev pub decreases-loop-e : goal.decreases-loop-e
decreases-loop-e l = length l.rest
