use Rattle.std.proofs.Common.{◌≡◌, ◌+◌, drop}
use Rattle.lang_tokens.specs.Pieces.{comment_at}
use Rattle.lang_tokens.proofs.piece.comment.Given as goal

abbrev pub invariant-loop-byte : goal.invariant-loop-byte
invariant-loop-byte l = (l.count ≡ l.byte-index + 1) × (comment_at l.count (drop l.byte-index l.bytes) ≡ comment_at 1 l.bytes)
