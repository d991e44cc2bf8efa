use Rattle.std.proofs.Common.{◌≡◌, ◌++◌, length, map}
use Rattle.trace_text.specs.EventSeen.{stamped_seen}
use Rattle.trace_export.specs.Ends.{ends_of}
use Rattle.trace_export.specs.EndsSeen.{micros}
use Rattle.trace_blame.specs.Turns.{turns_of, long_ones}
use Rattle.trace_blame.specs.Seen.{turn_seen}
use Rattle.trace_blame.proofs.turns.long_turns.Given as goal

abbrev pub invariant-loop-e : goal.invariant-loop-e
invariant-loop-e l = record {
  ends : micros l.ends.items ≡ ends_of (map stamped_seen l.rest);
  turns : map turn_seen l.turns.items ++ long_ones (turns_of (map stamped_seen l.rest)) ≡ long_ones (turns_of (map stamped_seen l.trace.events));
}

abbrev pub decreases-loop-e : goal.decreases-loop-e
decreases-loop-e l = length l.rest
