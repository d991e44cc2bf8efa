-- A name is a text.
use Rattle.std.proofs.Common.{◌≡◌, ℕ, ◌≤◌, true, List, [], ◌∷◌, length, refl, sym, subst, arith, inl, inr}
use Rattle.std.specs.Prelude.{◌&&◌, ◌==◌, nat_le, IsTrue}
use Rattle.std.specs.Char.{is_ascii_alphabetic, is_ascii_digit}
use Rattle.std.specs.List.{list_all}
use Rattle.std.proofs.lemmas.Bool.{eqb-true, leb-true, le-leb, and_parts, and_from, or_cases, or_right}
use Rattle.page_values.specs.Names.{is_letter, is_name_byte, is_name}
use Rattle.page_values.specs.Texts.{is_text_byte, is_text}
use Rattle.lang_tokens.specs.declared.token.TokenKind.{TokenKind}
use Rattle.lang_tokens.specs.declared.token.TokenKind.TheVariants.{Name}
use Rattle.lang_tokens.specs.Seen.{IsHeld}

printed : (b : ℕ) → 32 ≤ b → b ≤ 126 → is_text_byte b ≡ true
printed b low high = or_right (b == 10) (nat_le 32 b && nat_le b 126) (and_from (nat_le 32 b) (nat_le b 126) (le-leb 32 b low) (le-leb b 126 high))

in_range : (low high b : ℕ) → 32 ≤ low → high ≤ 126 → (nat_le low b && nat_le b high) ≡ true → is_text_byte b ≡ true
in_range low high b from to e =
    let both = and_parts (nat_le low b) (nat_le b high) e in
    let above : low ≤ b = leb-true low b both.0 in
    let below : b ≤ high = leb-true b high both.1 in
    printed b (omega arith) (omega arith)

letter : (b : ℕ) → is_letter b ≡ true → is_text_byte b ≡ true
letter b e = elim (or_cases (is_ascii_alphabetic b) (b == 95) e) [
  | inl alphabetic ↦ elim (or_cases (nat_le 65 b && nat_le b 90) (nat_le 97 b && nat_le b 122) alphabetic) [
    | inl upper ↦ in_range 65 90 b (omega arith) (omega arith) upper
    | inr lower ↦ in_range 97 122 b (omega arith) (omega arith) lower
  ]
  | inr underscore ↦ subst (λ x. is_text_byte x ≡ true) (sym (eqb-true b 95 underscore)) refl
]

name_byte : (b : ℕ) → is_name_byte b ≡ true → is_text_byte b ≡ true
name_byte b e = elim (or_cases (is_letter b) (is_ascii_digit b) e) [
  | inl l ↦ letter b l
  | inr digit ↦ in_range 48 57 b (omega arith) (omega arith) digit
]

name_bytes : (bs : List ℕ) → list_all is_name_byte bs ≡ true → is_text bs ≡ true
name_bytes [] all = refl
name_bytes (b ∷ bs) all =
    let both = and_parts (is_name_byte b) (list_all is_name_byte bs) all in
    and_from (is_text_byte b) (is_text bs) (name_byte b both.0) (name_bytes bs both.1)

pub name_is_text : (bs : List ℕ) → IsTrue (is_name bs) → IsTrue (is_text bs)
name_is_text [] named = refl
name_is_text (b ∷ bs) named =
    let both = and_parts (is_letter b) (list_all is_name_byte bs && nat_le (length bs) 63) named in
    and_from (is_text_byte b) (is_text bs) (letter b both.0) (name_bytes bs (and_parts (list_all is_name_byte bs) (nat_le (length bs) 63) both.1).0)

-- a token of kind name holds a text
pub name_held : (kind : TokenKind) (content bytes : List ℕ) → kind ≡ Name → IsHeld kind content → bytes ≡ content → IsTrue (is_text bytes)
name_held kind content bytes is held e = subst (λ bs. IsTrue (is_text bs)) (sym e) (name_is_text content (subst (λ k. IsHeld k content) is held))
