-- What a token holds, from what its spelling means.
use Rattle.std.proofs.Common.{◌≡◌, ℕ, ◌<◌, ◌≤◌, Bool, true, false, List, [], ◌∷◌, ◌++◌, length, take, refl, sym, subst, arith}
use Rattle.std.specs.Prelude.{if◌then◌else◌, ◌&&◌, ◌==◌, nat_le, IsTrue}
use Rattle.std.specs.List.{list_all}
use Rattle.std.proofs.lemmas.Bool.{eqb-true, le-leb, and_from, or_right}
use Rattle.page_values.specs.Names.{is_name}
use Rattle.page_values.specs.Texts.{is_text, is_text_byte}
use Rattle.lang_tokens.specs.declared.token.TokenKind.{TokenKind}
use Rattle.lang_tokens.specs.declared.token.TokenKind.TheVariants.{Name, Word, Number, Text, Sign}
use Rattle.lang_tokens.specs.declared.piece.Piece.TheVariants.{Token}
use Rattle.lang_tokens.specs.Seen.{TokenSeen, IsHeld, AreHeld}
use Rattle.lang_tokens.specs.Pieces.{piece_at, is_plain}
use Rattle.page_values.specs.Names.{is_letter, is_name_byte}
use Rattle.lang_tokens.specs.Tokens.{content_of}
use Rattle.lang_tokens.specs.Meaning.{AllBytes, IsNameSpelling, is_held, IsToken}
use Rattle.lang_tokens.proofs.MeaningLemmas.{by_test, held_plain}
use Rattle.lang_tokens.proofs.ReadingLemmas.{FirstOf, first_of}

first_two : (x y z w : Bool) → (x && y && z && w) ≡ true → (x && y) ≡ true
first_two true true z w e = refl
first_two true false z w e = e
first_two false y z w e = e

-- names
all_pass : (test : ℕ → Bool) (bs : List ℕ) → AllBytes test bs → list_all test bs ≡ true
all_pass test [] all = refl
all_pass test (b ∷ bs) all = and_from (test b) (list_all test bs) all.0 (all_pass test bs all.1)

name_held : (spelling : List ℕ) → IsNameSpelling spelling → IsTrue (is_name spelling)
name_held [] spelled = absurd spelled
name_held (b ∷ bs) spelled =
    let few : length bs ≤ 63 = omega (arith, spelled.2) in
    and_from (is_letter b) (list_all is_name_byte bs && nat_le (length bs) 63) spelled.0
    (and_from (list_all is_name_byte bs) (nat_le (length bs) 63) (all_pass is_name_byte bs spelled.1) (le-leb (length bs) 63 few))

-- texts
plain_byte : (b : ℕ) → is_plain b ≡ true → is_text_byte b ≡ true
plain_byte b plain = or_right (b == 10) (nat_le 32 b && nat_le b 126)
    (first_two (nat_le 32 b) (nat_le b 126) (if b == 34 then false else true) (if b == 92 then false else true) plain)

text_byte : (b : ℕ) → is_held b ≡ true → is_text_byte b ≡ true
text_byte b held =
    by_test (b == 34) (λ e. subst (λ x. is_text_byte x ≡ true) (sym (eqb-true b 34 e)) refl) (λ no_quote.
    by_test (b == 92) (λ e. subst (λ x. is_text_byte x ≡ true) (sym (eqb-true b 92 e)) refl) (λ no_backslash.
    by_test (b == 10) (λ e. subst (λ x. is_text_byte x ≡ true) (sym (eqb-true b 10 e)) refl) (λ no_line.
    plain_byte b (held_plain (is_plain b) (b == 34) (b == 92) (b == 10) held no_quote no_backslash no_line))))

text_held : (content : List ℕ) → AllBytes is_held content → IsTrue (is_text content)
text_held [] all = refl
text_held (b ∷ bs) all = and_from (is_text_byte b) (is_text bs) (text_byte b all.0) (text_held bs all.1)

-- a token holds what one of its kind can hold
token_held : (kind : TokenKind) (content spelling : List ℕ) → IsToken kind content spelling → IsHeld kind content
token_held Name content spelling t = subst (λ held. IsTrue (is_name held)) (sym t.2) (name_held spelling t.0)
token_held Word content spelling t = tt
token_held (Number n) content spelling t = tt
token_held Text content spelling t = (text_held content t.1, t.2)
token_held Sign content spelling t = tt

pub piece_held : (bs : List ℕ) (kind : TokenKind) (size : ℕ) → 0 < length bs → Token kind size ≡ piece_at bs → IsHeld kind (content_of kind (take size bs))
piece_held [] kind size some e = absurd (omega arith)
piece_held (b ∷ bs) kind size some e =
    let first : FirstOf (b ∷ bs) (Token kind size) = subst (FirstOf (b ∷ bs)) (sym e) (first_of b bs) in
    token_held kind (content_of kind (take size (b ∷ bs))) (take size (b ∷ bs)) first.spelled

-- one more token
pub AreHeld-push : (ts : List TokenSeen) (t : TokenSeen) → AreHeld ts → IsHeld t.kind t.content → AreHeld (ts ++ t ∷ [])
AreHeld-push [] t held new = (new, tt)
AreHeld-push (u ∷ ts) t held new = (held.0, AreHeld-push ts t held.1 new)
