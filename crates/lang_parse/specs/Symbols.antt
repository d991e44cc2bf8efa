-- The tokens of a script as the grammar sees them: without their places, but for those of names.
use Rattle.std.specs.Prelude.{ℕ, List, map, ℤ}
use Rattle.lang_tokens.specs.Seen.{TokenSeen}
use Rattle.lang_tokens.specs.declared.token.TokenKind.{TokenKind}
use Rattle.lang_tokens.specs.declared.token.TokenKind.TheVariants.{Name, Word, Number, Text, Sign}

pub data Symbol : Type 0 where
  NameAt : (name : List ℕ) (at : ℕ) → Symbol
  WordOf : List ℕ → Symbol
  NumberOf : ℤ → Symbol
  TextOf : List ℕ → Symbol
  SignOf : List ℕ → Symbol

abbrev pub symbol_by : TokenKind → List ℕ → ℕ → Symbol
symbol_by Name content at = NameAt content at
symbol_by Word content at = WordOf content
symbol_by (Number n) content at = NumberOf n
symbol_by Text content at = TextOf content
symbol_by Sign content at = SignOf content

abbrev pub symbol_of : TokenSeen → Symbol
symbol_of t = symbol_by t.kind t.content t.at

abbrev pub symbols_of : List TokenSeen → List Symbol
symbols_of ts = map symbol_of ts
