use Rattle.std.proofs.Common.{◌≡◌, length, map, Some}
use Rattle.trace_text.specs.Line.{Of}
use Rattle.trace_text.specs.EventSeen.{stamped_seen}
use Rattle.trace_text.specs.Given.{after_all}
use Rattle.trace_text.specs.Summaries.{counts_of, count_keeping}
use Rattle.trace_text.specs.Counters.{counts_in}
use Rattle.trace_text.proofs.summary.summary_of.Given as goal

abbrev pub invariant-loop-e : goal.invariant-loop-e
invariant-loop-e l = after_all count_keeping (Some (counts_in l.count)) (map Of (map stamped_seen l.rest)) ≡ Some (counts_of (map stamped_seen l.events.events))

abbrev pub decreases-loop-e : goal.decreases-loop-e
decreases-loop-e l = length l.rest
