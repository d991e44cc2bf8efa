use Rattle.std.proofs.Common.{length, map, ◌++◌}
use Rattle.page_parts.specs.TraceText.{head_text}
use Rattle.trace_text.specs.EventSeen.{stamped_seen}
use Rattle.trace_text.proofs.SoFar.{IsSoFar}
use Rattle.trace_text.proofs.reading.read_lines.Given as goal

abbrev pub invariant-loop-line : goal.invariant-loop-line
invariant-loop-line l = IsSoFar l.fn.form (head_text l.fn.form ++ l.fn.text) (map stamped_seen l.items.items) l.rest l.last l.ended

abbrev pub decreases-loop-line : goal.decreases-loop-line
decreases-loop-line l = length l.rest
