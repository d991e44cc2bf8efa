use Rattle.std.proofs.Common.{◌≡◌, ◌++◌, length, map}
use Rattle.trace_blame.specs.Blame.{turns_text}
use Rattle.trace_blame.specs.Seen.{turn_seen}
use Rattle.trace_blame.proofs.report.write_turns.Given as goal

abbrev pub invariant-loop-turn : goal.invariant-loop-turn
invariant-loop-turn l = l.into.items ++ turns_text (map turn_seen l.rest) ≡ l.fn.into.items ++ turns_text (map turn_seen l.turns)

abbrev pub decreases-loop-turn : goal.decreases-loop-turn
decreases-loop-turn l = length l.rest
