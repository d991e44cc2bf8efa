use Rattle.std.proofs.Common.{◌≡◌, drop}
use Rattle.lang_tokens.specs.Pieces.{name_at}
use Rattle.lang_tokens.proofs.piece.name.Given as goal

abbrev pub invariant-loop-count : goal.invariant-loop-count
invariant-loop-count l = name_at l.bytes l.count (drop l.count l.bytes) ≡ name_at l.bytes 0 l.bytes
