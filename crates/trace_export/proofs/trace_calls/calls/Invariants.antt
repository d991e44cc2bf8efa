use Rattle.std.proofs.Common.{length, map, All}
use Rattle.std.specs.BTreeMap.{get}
use Rattle.std.specs.Ordering.{nat_cmp}
use Rattle.trace_text.specs.EventSeen.{stamped_seen}
use Rattle.trace_export.specs.EndsSeen.{micros}
use Rattle.trace_export.specs.Seen.{span_seen}
use Rattle.trace_export.proofs.Walking.{IsWalked, EndsBelow}
use Rattle.trace_export.proofs.trace_calls.calls.Given as goal

abbrev pub invariant-loop-e : goal.invariant-loop-e
invariant-loop-e l = record {
  walked : IsWalked (map stamped_seen l.trace.events) (map stamped_seen l.rest) (get nat_cmp l.kinds) (micros l.ends.items) (map span_seen l.calls.items);
  below : All EndsBelow (map span_seen l.calls.items);
}

abbrev pub decreases-loop-e : goal.decreases-loop-e
decreases-loop-e l = length l.rest
