-- The tokens of a script, or the place of its first bad byte.
use Rattle.std.specs.Prelude.{ℕ, zero, suc, ◌+◌, ◌<◌, ◌≤◌, ◌==◌, if◌then◌else◌, List, [], ◌∷◌, ◌++◌, length, drop, take, Result, Ok, Err}
use Rattle.lang_tokens.specs.Seen.{TokenSeen}
use Rattle.lang_tokens.specs.declared.token.TokenKind.{TokenKind}
use Rattle.lang_tokens.specs.declared.token.TokenKind.TheVariants.{Name, Word, Number, Text, Sign}
use Rattle.lang_tokens.specs.declared.piece.Piece.{Piece}
use Rattle.lang_tokens.specs.declared.piece.Piece.TheVariants.{Gap, Token, Bad}
use Rattle.lang_tokens.specs.Pieces.{piece_at}

-- a script's tokens, and the number of its bytes
pub record TokenList : Type 0 where
  pub items : List TokenSeen
  pub length : ℕ

-- the tokens stand one behind another, each of a byte at least, from one place to another
abbrev pub InOrder : (from to : ℕ) → List TokenSeen → Type 0
InOrder from to [] = from ≤ to
InOrder from to (t ∷ ts) = (from ≤ t.at) × (t.at < t.end) × InOrder t.end to ts

abbrev mutual
  -- what the parts of a text stand for, up to the `"` that ends it
  pub value_of : List ℕ → List ℕ
  value_of [] = []
  value_of (b ∷ bs) = if b == 34 then [] else (if b == 92 then value_of_escape bs else b ∷ value_of bs)

  -- the same after a `\`: `\n` stands for LF, and `\"` and `\\` stand for `"` and `\`
  pub value_of_escape : List ℕ → List ℕ
  value_of_escape [] = []
  value_of_escape (b ∷ bs) = (if b == 110 then 10 else b) ∷ value_of bs

-- what a token of this spelling holds: for a text its value, else the spelling
abbrev pub content_of : TokenKind → List ℕ → List ℕ
content_of Name spelling = spelling
content_of Word spelling = spelling
content_of (Number n) spelling = spelling
content_of Text spelling = value_of (drop 1 spelling)
content_of Sign spelling = spelling

-- the token of so many bytes at the front of the bytes, which begin at this offset
abbrev pub token_at : (at : ℕ) → List ℕ → TokenKind → (size : ℕ) → TokenSeen
token_at at bs kind size = record { at = at; end = at + size; kind = kind; content = content_of kind (take size bs) }

abbrev pub Lexed : Type 0
Lexed = Result (List TokenSeen) ℕ

abbrev pub with_front : List TokenSeen → Lexed → Lexed
with_front front (Ok ts) = Ok (front ++ ts)
with_front front (Err n) = Err n

-- what a piece at this offset adds to what stands after it
abbrev pub with_piece : (ℕ → List ℕ → Lexed) → ℕ → List ℕ → Piece → Lexed
with_piece after at bs (Gap size) = after (at + size) (drop size bs)
with_piece after at bs (Token kind size) = with_front (token_at at bs kind size ∷ []) (after (at + size) (drop size bs))
with_piece after at bs (Bad size) = Err (at + size)

-- piece by piece, at most so many
abbrev pub cut : (n at : ℕ) → List ℕ → Lexed
cut n at [] = Ok []
cut zero at (b ∷ bs) = Ok []
cut (suc n) at (b ∷ bs) = with_piece (cut n) at (b ∷ bs) (piece_at (b ∷ bs))

-- each piece has a byte, so there are at most as many as bytes
abbrev pub tokens_of : List ℕ → Lexed
tokens_of bs = cut (length bs) 0 bs
