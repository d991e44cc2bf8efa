-- The piece at the front of the bytes: a gap, the longest token, or the first byte at which no token goes on.
use Rattle.std.specs.Prelude.{ℕ, ◌+◌, ◌-◌, ◌*◌, ◌∷◌, List, [], Bool, true, false, ◌==◌, ◌||◌, ◌&&◌, nat_lt, nat_le, if◌then◌else◌, Option, Some, None, pos, take, codes}
use Rattle.std.specs.Char.{is_ascii_digit}
use Rattle.std.specs.List.{list_any}
use Rattle.std.specs.Str.{bytes_eq}
use Rattle.page_values.specs.Names.{is_letter, is_name_byte}
use Rattle.lang_tokens.specs.declared.token.TokenKind.{TokenKind}
use Rattle.lang_tokens.specs.declared.token.TokenKind.TheVariants.{Name, Word, Number, Text, Sign}
use Rattle.lang_tokens.specs.declared.piece.Piece.{Piece}
use Rattle.lang_tokens.specs.declared.piece.Piece.TheVariants.{Gap, Token, Bad}

-- space, tab, CR, LF
abbrev pub is_blank : ℕ → Bool
is_blank b = b == 32 || b == 9 || b == 13 || b == 10

abbrev pub words : List (List ℕ)
words =
    codes "fn" ∷ codes "var" ∷ codes "if" ∷ codes "else" ∷ codes "while" ∷ codes "return" ∷
    codes "throw" ∷ codes "try" ∷ codes "catch" ∷ codes "true" ∷ codes "false" ∷ codes "unit" ∷ []

abbrev pub is_word : List ℕ → Bool
is_word spelling = list_any (λ word. bytes_eq word spelling) words

abbrev pub kind_of_name : List ℕ → TokenKind
kind_of_name spelling = if is_word spelling then Word else Name

-- The rest of a comment, after n of its bytes: all up to the next LF or the end.
abbrev pub comment_at : ℕ → List ℕ → Piece
comment_at n [] = Gap n
comment_at n (b ∷ bs) = if b == 10 then Gap n else comment_at (n + 1) bs

-- The rest of a name, after n of its bytes, where all of them begin whole. The 65th byte is bad.
abbrev pub name_at : (whole : List ℕ) → ℕ → (rest : List ℕ) → Piece
name_at whole n [] = Token (kind_of_name (take n whole)) n
name_at whole n (b ∷ bs) =
    if is_name_byte b then (if nat_lt n 64 then name_at whole (n + 1) bs else Bad n)
    else Token (kind_of_name (take n whole)) n

-- The rest of a number, after n digits with this value. The first digit with which the value is too large is bad.
abbrev pub number_at : (v n : ℕ) → List ℕ → Piece
number_at v n [] = Token (Number (pos v)) n
number_at v n (b ∷ bs) =
    if is_ascii_digit b then
    (if nat_le (v * 10 + (b - 48)) 9223372036854775807 then number_at (v * 10 + (b - 48)) (n + 1) bs else Bad n)
    else Token (Number (pos v)) n

-- a byte that stands for itself in a text: from 0x20 to 0x7E, but no `"` and no `\`
abbrev pub is_plain : ℕ → Bool
is_plain b = nat_le 32 b && nat_le b 126 && (if b == 34 then false else true) && (if b == 92 then false else true)

-- what may follow `\`: `"`, `\` or `n`
abbrev pub is_escaped : ℕ → Bool
is_escaped b = b == 34 || b == 92 || b == 110

abbrev mutual
  -- The rest of a text, after n of its bytes with v bytes of value. Each part is one byte of value, and the part with
  -- which there would be 65,536 is bad at its first byte.
  pub text_at : (v n : ℕ) → List ℕ → Piece
  text_at v n [] = Bad n
  text_at v n (b ∷ bs) =
      if b == 34 then Token Text (n + 1)
      else (if nat_le 65535 v then Bad n
      else (if b == 92 then escape_at v (n + 1) bs
      else (if is_plain b then text_at (v + 1) (n + 1) bs
      else Bad n)))

  -- the same after a `\`
  pub escape_at : (v n : ℕ) → List ℕ → Piece
  escape_at v n [] = Bad n
  escape_at v n (b ∷ bs) = if is_escaped b then text_at (v + 1) (n + 1) bs else Bad n

abbrev pub is_byte : Option ℕ → ℕ → Bool
is_byte None b = false
is_byte (Some c) b = c == b

-- a sign of one byte that begins no other: ( ) { } [ ] , ; + - * / %
abbrev pub is_lone_sign : ℕ → Bool
is_lone_sign b = list_any (λ c. c == b) (codes "(){}[],;+-*/%")

-- a sign of one byte that another may begin: = ! < >
abbrev pub is_comparing_sign : ℕ → Bool
is_comparing_sign b = list_any (λ c. c == b) (codes "=!<>")

-- The sign that begins with this byte, the longer one where there are two. `&` and `|` are no signs.
abbrev pub sign_at : ℕ → Option ℕ → Piece
sign_at b next =
    if is_lone_sign b then Token Sign 1
    else (if is_comparing_sign b then (if is_byte next 61 then Token Sign 2 else Token Sign 1)
    else (if b == 38 || b == 124 then (if is_byte next b then Token Sign 2 else Bad 1)
    else Bad 0))

abbrev pub first : List ℕ → Option ℕ
first [] = None
first (b ∷ bs) = Some b

abbrev pub piece_at : List ℕ → Piece
piece_at [] = Gap 0
piece_at (b ∷ bs) =
    if is_blank b then Gap 1
    else (if b == 47 && is_byte (first bs) 47 then comment_at 1 bs
    else (if is_letter b then name_at (b ∷ bs) 0 (b ∷ bs)
    else (if is_ascii_digit b then number_at (b - 48) 1 bs
    else (if b == 34 then text_at 0 1 bs
    else sign_at b (first bs)))))
