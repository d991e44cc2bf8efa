use Rattle.std.proofs.Common.{◌≡◌, ◌+◌, ◌≤◌, drop}
use Rattle.lang_tokens.specs.Pieces.{text_at}
use Rattle.lang_tokens.proofs.Texts.{rest_at}
use Rattle.lang_tokens.proofs.piece.text.Given as goal

abbrev pub invariant-loop-byte : goal.invariant-loop-byte
invariant-loop-byte l = (l.count ≡ l.byte-index + 1) × (l.value_size ≤ l.byte-index) × (rest_at l.after_backslash l.value_size l.count (drop l.byte-index l.bytes) ≡ text_at 0 1 l.bytes)
