use Rattle.std.proofs.Common.{◌≡◌, length}
use Rattle.trace_text.specs.ValueEnds.{after_parts}
use Rattle.trace_text.proofs.spellings.parts_end.Given as goal

abbrev pub invariant-loop-byte : goal.invariant-loop-byte
invariant-loop-byte l = after_parts l.rest ≡ after_parts l.bytes

abbrev pub decreases-loop-byte : goal.decreases-loop-byte
decreases-loop-byte l = length l.rest
