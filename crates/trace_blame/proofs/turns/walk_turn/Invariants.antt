use Rattle.std.proofs.Common.{◌≡◌, ◌≤◌, ◌+◌, length, map}
use Rattle.trace_text.specs.EventSeen.{stamped_seen}
use Rattle.trace_export.specs.Ends.{ends_of}
use Rattle.trace_export.specs.EndsSeen.{micros}
use Rattle.trace_blame.specs.Turns.{turns_of}
use Rattle.trace_blame.specs.Walked.{closed_by}
use Rattle.trace_blame.specs.Seen.{open_seen}
use Rattle.trace_blame.proofs.turns.walk_turn.Given as goal

abbrev pub invariant-loop-e : goal.invariant-loop-e
invariant-loop-e l = record {
  closed : closed_by (open_seen l.turn) (map stamped_seen l.rest) ≡ closed_by (open_seen l.fn.turn) (map stamped_seen l.after);
  others : turns_of (map stamped_seen l.rest) ≡ turns_of (map stamped_seen l.after);
  ends : micros l.ends.items ≡ ends_of (map stamped_seen l.rest);
  depth : l.turn.depth + length l.rest ≤ length l.after;
}

abbrev pub decreases-loop-e : goal.decreases-loop-e
decreases-loop-e l = length l.rest
