-- A token as contracts see it, and what a token of each kind can hold.
use Rattle.std.specs.Prelude.{⊤, ℕ, ◌≤◌, List, [], ◌∷◌, length, IsTrue}
use Rattle.page_values.specs.Names.{is_name}
use Rattle.page_values.specs.Texts.{is_text}
use Rattle.lang_tokens.specs.declared.token.TokenKind.{TokenKind}
use Rattle.lang_tokens.specs.declared.token.TokenKind.TheVariants.{Name, Word, Number, Text, Sign}

-- the token from one byte to before another, its kind and what it holds
pub record TokenSeen : Type 0 where
  pub at : ℕ
  pub end : ℕ
  pub kind : TokenKind
  pub content : List ℕ

-- a name is spelled as one, and a text is one, of at most 65,535 bytes
abbrev pub IsHeld : TokenKind → List ℕ → Type 0
IsHeld Name content = IsTrue (is_name content)
IsHeld Word content = ⊤
IsHeld (Number n) content = ⊤
IsHeld Text content = IsTrue (is_text content) × (length content ≤ 65535)
IsHeld Sign content = ⊤

-- each token holds what one of its kind can hold
abbrev pub AreHeld : List TokenSeen → Type 0
AreHeld [] = ⊤
AreHeld (t ∷ ts) = IsHeld t.kind t.content × AreHeld ts
