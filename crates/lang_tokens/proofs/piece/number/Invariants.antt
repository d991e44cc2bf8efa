use Rattle.std.proofs.Common.{◌≡◌, ◌+◌, ◌-◌, ◌≤◌, drop}
use Rattle.lang_tokens.specs.Pieces.{number_at}
use Rattle.lang_tokens.proofs.piece.number.Given as goal

abbrev pub invariant-loop-byte : goal.invariant-loop-byte
invariant-loop-byte l = (l.count ≡ l.byte-index + 1) × (l.value ≤ 9223372036854775807) × (number_at l.value l.count (drop l.byte-index l.bytes) ≡ number_at (l.fn.first - 48) 1 l.bytes)
