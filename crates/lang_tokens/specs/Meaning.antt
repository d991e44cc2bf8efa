-- What tokens and gaps are, however they are read.
use Rattle.std.specs.Prelude.{◌≡◌, ℕ, ◌+◌, ◌-◌, ◌*◌, ◌<◌, ◌≤◌, ◌==◌, ◌||◌, Bool, true, false, if◌then◌else◌, List, [], ◌∷◌, ◌++◌, length, take, drop, pos, codes, Ok}
use Rattle.std.specs.Char.{is_ascii_digit}
use Rattle.std.specs.List.{list_any}
use Rattle.std.specs.Str.{bytes_eq}
use Rattle.lang_tokens.specs.Seen.{TokenSeen}
use Rattle.lang_tokens.specs.declared.token.TokenKind.{TokenKind}
use Rattle.lang_tokens.specs.declared.token.TokenKind.TheVariants.{Name, Word, Number, Text, Sign}
use Rattle.lang_tokens.specs.Tokens.{tokens_of}
use Rattle.lang_tokens.specs.Pieces.{is_blank, is_word, is_plain}
use Rattle.page_values.specs.Names.{is_letter, is_name_byte}

-- each byte passes the test
abbrev pub AllBytes : (ℕ → Bool) → List ℕ → Type 0
AllBytes test [] = Unit {0}
AllBytes test (b ∷ bs) = (test b ≡ true) × AllBytes test bs

-- a letter or `_`, and then letters, digits and `_`, in all at most 64
abbrev pub IsNameSpelling : List ℕ → Type 0
IsNameSpelling [] = ⊥
IsNameSpelling (b ∷ bs) = (is_letter b ≡ true) × AllBytes is_name_byte bs × (length bs < 64)

-- the value of these digits behind others of the value v
abbrev pub decimal_after : ℕ → List ℕ → ℕ
decimal_after v [] = v
decimal_after v (b ∷ bs) = decimal_after (v * 10 + (b - 48)) bs

-- a byte that a text may hold: from 0x20 to 0x7E, or LF
abbrev pub is_held : ℕ → Bool
is_held b = is_plain b || b == 34 || b == 92 || b == 10

-- how a text spells what it holds
abbrev pub parts_of : List ℕ → List ℕ
parts_of [] = []
parts_of (b ∷ bs) =
    if b == 34 then 92 ∷ 34 ∷ parts_of bs
    else (if b == 92 then 92 ∷ 92 ∷ parts_of bs
    else (if b == 10 then 92 ∷ 110 ∷ parts_of bs
    else b ∷ parts_of bs))

abbrev pub signs : List (List ℕ)
signs =
    codes "(" ∷ codes ")" ∷ codes "{" ∷ codes "}" ∷ codes "[" ∷ codes "]" ∷ codes "," ∷ codes ";" ∷
    codes "=" ∷ codes "==" ∷ codes "!=" ∷ codes "<" ∷ codes "<=" ∷ codes ">" ∷ codes ">=" ∷
    codes "+" ∷ codes "-" ∷ codes "*" ∷ codes "/" ∷ codes "%" ∷ codes "!" ∷ codes "&&" ∷ codes "||" ∷ []

abbrev pub is_sign : List ℕ → Bool
is_sign spelling = list_any (λ sign. bytes_eq sign spelling) signs

-- these bytes spell a token of the kind that holds this content
abbrev pub IsToken : TokenKind → (content spelling : List ℕ) → Type 0
IsToken Name content spelling = IsNameSpelling spelling × (is_word spelling ≡ false) × (content ≡ spelling)
IsToken Word content spelling = IsNameSpelling spelling × (is_word spelling ≡ true) × (content ≡ spelling)
IsToken (Number n) content spelling =
    (0 < length spelling) × AllBytes is_ascii_digit spelling × (n ≡ pos (decimal_after 0 spelling)) ×
    (decimal_after 0 spelling ≤ 9223372036854775807) × (content ≡ spelling)
IsToken Text content spelling = (spelling ≡ 34 ∷ (parts_of content ++ 34 ∷ [])) × AllBytes is_held content × (length content ≤ 65535)
IsToken Sign content spelling = (is_sign spelling ≡ true) × (content ≡ spelling)

abbrev pub BeginsComment : List ℕ → Type 0
BeginsComment bs = take 2 bs ≡ 47 ∷ 47 ∷ []

abbrev pub EndsLine : List ℕ → Type 0
EndsLine [] = Unit {0}
EndsLine (b ∷ bs) = b ≡ 10

abbrev pub is_in_line : ℕ → Bool
is_in_line b = if b == 10 then false else true

-- the comment at the front has so many bytes: all up to the next LF or the end
pub record IsComment (size : ℕ) (bs : List ℕ) : Type 0 where
  pub within : size ≤ length bs
  pub begins : BeginsComment bs
  pub in_line : AllBytes is_in_line (take size bs)
  pub ends : EndsLine (drop size bs)

abbrev pub BeginsBlank : List ℕ → Type 0
BeginsBlank [] = ⊥
BeginsBlank (b ∷ bs) = is_blank b ≡ true

-- the token at the front has so many bytes: no longer one is there, and no gap
pub record IsFirstToken (kind : TokenKind) (content : List ℕ) (size : ℕ) (bs : List ℕ) : Type 0 where
  pub within : size ≤ length bs
  pub spelled : IsToken kind content (take size bs)
  pub longest : (n : ℕ) (other : TokenKind) (held : List ℕ) → n ≤ length bs → IsToken other held (take n bs) → n ≤ size
  pub no_blank : BeginsBlank bs → ⊥
  pub no_comment : BeginsComment bs → ⊥

-- the bytes from this offset on are blanks, comments and these tokens
pub data Reading : ℕ → List ℕ → List TokenSeen → Type 0 where
  ended : (at : ℕ) → Reading at [] []
  blank : (at b : ℕ) (bs : List ℕ) (ts : List TokenSeen) → is_blank b ≡ true → Reading (at + 1) bs ts → Reading at (b ∷ bs) ts
  comment : (at size : ℕ) (bs : List ℕ) (ts : List TokenSeen) → IsComment size bs → Reading (at + size) (drop size bs) ts → Reading at bs ts
  token : (at size : ℕ) (kind : TokenKind) (content bs : List ℕ) (ts : List TokenSeen) → IsFirstToken kind content size bs →
      Reading (at + size) (drop size bs) ts → Reading at bs (record { at = at; end = at + size; kind = kind; content = content } ∷ ts)

-- no script that begins with the bytes up to this one, it too, has tokens
abbrev pub NoneGoesOn : ℕ → List ℕ → Type 0
NoneGoesOn at bs = at < length bs → (more : List ℕ) (ts : List TokenSeen) → tokens_of (take (at + 1) bs ++ more) ≡ Ok ts → ⊥

-- the byte stands in the script or is its end, and some script that begins with the bytes before it has tokens
pub record GoesOnBefore (at : ℕ) (bs : List ℕ) : Type 0 where
  pub within : at ≤ length bs
  pub goes_on : (more : List ℕ) × (ts : List TokenSeen) × (tokens_of (take at bs ++ more) ≡ Ok ts)
