-- A text in the middle of its reading.
use Rattle.std.proofs.Common.{ℕ, List, Bool, true, false}
use Rattle.lang_tokens.specs.Pieces.{text_at, escape_at}
use Rattle.lang_tokens.specs.Tokens.{value_of, value_of_escape}
use Rattle.lang_tokens.specs.declared.piece.Piece.{Piece}

-- the rest of a text, by whether a `\` stands before it
abbrev pub rest_at : Bool → ℕ → ℕ → List ℕ → Piece
rest_at true v n bs = escape_at v n bs
rest_at false v n bs = text_at v n bs

abbrev pub rest_value : Bool → List ℕ → List ℕ
rest_value true bs = value_of_escape bs
rest_value false bs = value_of bs
