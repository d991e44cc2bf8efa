-- The bytes of a token before a space or LF are read as this token.
use Rattle.std.proofs.Common.{◌≡◌, ℕ, suc, ◌+◌, ◌-◌, ◌*◌, ◌<◌, ◌≤◌, Bool, true, false, List, [], ◌∷◌, ◌++◌, length, take, pos, refl, sym, ap, subst, ◌∙◌, arith, add-zero, append_assoc, length-append, le-leb}
use Rattle.std.specs.Prelude.{◌==◌, ◌||◌, nat_lt, nat_le, if◌then◌else◌}
use Rattle.std.specs.Char.{is_ascii_digit}
use Rattle.std.specs.List.{list_any}
use Rattle.std.specs.Str.{bytes_eq}
use Rattle.std.proofs.lemmas.Bool.{eqb-true}
use Rattle.std.proofs.lemmas.Bool.Decides.{nat_tests}
use Rattle.std.proofs.lemmas.Slice.Eq.{bytes_eq-Decides}
use Rattle.page_values.specs.Names.{is_letter, is_name_byte}
use Rattle.page_parts.specs.Words.{decimal_of}
use Rattle.page_parts.specs.Spelling.{escaped, all_escaped, quoted}
use Rattle.lang_tokens.specs.declared.token.TokenKind.{TokenKind}
use Rattle.lang_tokens.specs.declared.token.TokenKind.TheVariants.{Name, Word, Number, Text, Sign}
use Rattle.lang_tokens.specs.declared.piece.Piece.{Piece}
use Rattle.lang_tokens.specs.declared.piece.Piece.TheVariants.{Token}
use Rattle.lang_tokens.specs.Pieces.{is_blank, is_word, is_plain, is_escaped, kind_of_name, name_at, number_at, text_at, piece_at}
use Rattle.lang_tokens.specs.Tokens.{content_of, value_of}
use Rattle.lang_tokens.specs.Meaning.{AllBytes, IsNameSpelling, decimal_after, is_held, signs, is_sign}
use Rattle.lang_tokens.proofs.MeaningLemmas.{not_false, by_test, OfEach, held_plain}
use Rattle.lang_parse.specs.Symbols.{Symbol, NameAt, WordOf, NumberOf, TextOf, SignOf, symbol_by}
use Rattle.async_segments.specs.Layout.{bytes_of, placeless}
use Rattle.async_segments.proofs.DecimalLemmas.{decimal_spells}

-- a space or LF
pub data Break (d : ℕ) : Type 0 where
  is_space : d ≡ 32 → Break d
  is_line : d ≡ 10 → Break d

no_name_byte : (d : ℕ) → Break d → is_name_byte d ≡ false
no_name_byte d (is_space e) = ap is_name_byte e
no_name_byte d (is_line e) = ap is_name_byte e

no_digit : (d : ℕ) → Break d → is_ascii_digit d ≡ false
no_digit d (is_space e) = ap is_ascii_digit e
no_digit d (is_line e) = ap is_ascii_digit e

-- ---- names and words

name_goes_on : (whole : List ℕ) (n b : ℕ) (bs : List ℕ) → is_name_byte b ≡ true → nat_lt n 64 ≡ true → name_at whole n (b ∷ bs) ≡ name_at whole (n + 1) bs
name_goes_on whole n b bs e fits = rw (e, fits) refl

name_ends : (whole : List ℕ) (n b : ℕ) (bs : List ℕ) → is_name_byte b ≡ false → name_at whole n (b ∷ bs) ≡ Token (kind_of_name (take n whole)) n
name_ends whole n b bs e = rw e refl

name_whole : (whole : List ℕ) (n : ℕ) (x : List ℕ) (d : ℕ) (rest : List ℕ) → AllBytes is_name_byte x → is_name_byte d ≡ false → n + length x ≤ 64 →
    name_at whole n (x ++ d ∷ rest) ≡ Token (kind_of_name (take (n + length x) whole)) (n + length x)
name_whole whole n [] d rest all other small = name_ends whole n d rest other ∙ ap (λ k. Token (kind_of_name (take k whole)) k) (sym (add-zero n))
name_whole whole n (b ∷ x) d rest all other small =
    let fits : nat_lt n 64 ≡ true = grind (arith, nat_tests) in
    let size : n + 1 + length x ≡ n + suc (length x) = omega arith in
    name_goes_on whole n b (x ++ d ∷ rest) all.0 fits ∙ (name_whole whole (n + 1) x d rest all.1 other (omega arith) ∙ ap (λ k. Token (kind_of_name (take k whole)) k) size)

letter_bounds : (b : ℕ) → is_letter b ≡ true → 65 ≤ b
letter_bounds b h = grind (arith, nat_tests)

letter_no_blank : (b : ℕ) → 65 ≤ b → is_blank b ≡ false
letter_no_blank b low = grind (arith, nat_tests)

letter_no_slash : (b : ℕ) → 65 ≤ b → (b == 47) ≡ false
letter_no_slash b low = grind (arith, nat_tests)

letter_first : (b : ℕ) (bs : List ℕ) → is_letter b ≡ true → piece_at (b ∷ bs) ≡ name_at (b ∷ bs) 0 (b ∷ bs)
letter_first b bs letter =
    let low = letter_bounds b letter in
    let blank = letter_no_blank b low in
    let slash = letter_no_slash b low in
    rw (blank, slash, letter) refl

letter_is_name_byte : (b : ℕ) → is_letter b ≡ true → is_name_byte b ≡ true
letter_is_name_byte b e = ap (λ z. z || is_ascii_digit b) e

pub take_front : (a b : List ℕ) → take (length a) (a ++ b) ≡ a
take_front [] b = refl
take_front (x ∷ a) b = ap (λ z. x ∷ z) (take_front a b)

name_piece : (x : List ℕ) (d : ℕ) (rest : List ℕ) → IsNameSpelling x → Break d → piece_at (x ++ d ∷ rest) ≡ Token (kind_of_name x) (length x)
name_piece [] d rest is ends = absurd is
name_piece (b ∷ x) d rest is ends =
    let size : 0 + length (b ∷ x) ≡ length (b ∷ x) = omega arith in
    letter_first b (x ++ d ∷ rest) is.0 ∙
    (name_whole (b ∷ x ++ d ∷ rest) 0 (b ∷ x) d rest (letter_is_name_byte b is.0, is.1) (no_name_byte d ends) (let few = is.2 in omega arith) ∙
    (ap (λ k. Token (kind_of_name (take k (b ∷ x ++ d ∷ rest))) k) size ∙ ap (λ z. Token (kind_of_name z) (length (b ∷ x))) (take_front (b ∷ x) (d ∷ rest))))

-- ---- numbers

digit_bounds : (d : ℕ) → is_ascii_digit d ≡ true → (48 ≤ d) × (d ≤ 57)
digit_bounds d h = grind (arith, nat_tests)

digit_no_blank : (d : ℕ) → 48 ≤ d → d ≤ 57 → is_blank d ≡ false
digit_no_blank d low high = grind (arith, nat_tests)

digit_no_slash : (d : ℕ) → 48 ≤ d → (d == 47) ≡ false
digit_no_slash d low = grind (arith, nat_tests)

digit_no_letter : (d : ℕ) → 48 ≤ d → d ≤ 57 → is_letter d ≡ false
digit_no_letter d low high = grind (arith, nat_tests)

digit_first : (d : ℕ) (bs : List ℕ) → is_ascii_digit d ≡ true → piece_at (d ∷ bs) ≡ number_at (d - 48) 1 bs
digit_first d bs digit =
    let bounds = digit_bounds d digit in
    let blank = digit_no_blank d bounds.0 bounds.1 in
    let slash = digit_no_slash d bounds.0 in
    let letter = digit_no_letter d bounds.0 bounds.1 in
    rw (blank, slash, letter, digit) refl

grows : (v : ℕ) (ds : List ℕ) → v ≤ decimal_after v ds
grows v [] = omega arith
grows v (d ∷ ds) = let more = grows (v * 10 + (d - 48)) ds in omega arith

number_goes_on : (v k d : ℕ) (bs : List ℕ) → is_ascii_digit d ≡ true → nat_le (v * 10 + (d - 48)) 9223372036854775807 ≡ true →
    number_at v k (d ∷ bs) ≡ number_at (v * 10 + (d - 48)) (k + 1) bs
number_goes_on v k d bs digit small = rw (digit, small) refl

number_ends : (v k b : ℕ) (bs : List ℕ) → is_ascii_digit b ≡ false → number_at v k (b ∷ bs) ≡ Token (Number (pos v)) k
number_ends v k b bs other = rw other refl

number_whole : (v k : ℕ) (ds : List ℕ) (b : ℕ) (bs : List ℕ) → AllBytes is_ascii_digit ds → is_ascii_digit b ≡ false → decimal_after v ds ≤ 9223372036854775807 →
    number_at v k (ds ++ b ∷ bs) ≡ Token (Number (pos (decimal_after v ds))) (k + length ds)
number_whole v k [] b bs all other small = number_ends v k b bs other ∙ ap (λ m. Token (Number (pos v)) m) (sym (add-zero k))
number_whole v k (d ∷ ds) b bs all other small =
    let grown = grows (v * 10 + (d - 48)) ds in
    let fits : nat_le (v * 10 + (d - 48)) 9223372036854775807 ≡ true = le-leb (v * 10 + (d - 48)) 9223372036854775807 (omega arith) in
    let size : k + 1 + length ds ≡ k + suc (length ds) = omega arith in
    number_goes_on v k d (ds ++ b ∷ bs) all.0 fits ∙ (number_whole (v * 10 + (d - 48)) (k + 1) ds b bs all.1 other small ∙ ap (λ m. Token (Number (pos (decimal_after v (d ∷ ds)))) m) size)

digits_piece : (ds : List ℕ) (b : ℕ) (bs : List ℕ) → 0 < length ds → AllBytes is_ascii_digit ds → is_ascii_digit b ≡ false → decimal_after 0 ds ≤ 9223372036854775807 →
    piece_at (ds ++ b ∷ bs) ≡ Token (Number (pos (decimal_after 0 ds))) (length ds)
digits_piece [] b bs some all other small = absurd (omega arith)
digits_piece (d ∷ ds) b bs some all other small =
    let value : 0 * 10 + (d - 48) ≡ d - 48 = omega arith in
    let size : 1 + length ds ≡ suc (length ds) = omega arith in
    digit_first d (ds ++ b ∷ bs) all.0 ∙ (ap (λ v. number_at v 1 (ds ++ b ∷ bs)) (sym value) ∙
    (number_whole (0 * 10 + (d - 48)) 1 ds b bs all.1 other small ∙ ap (λ m. Token (Number (pos (decimal_after 0 (d ∷ ds)))) m) size))

number_piece : (n d : ℕ) (rest : List ℕ) → n ≤ 9223372036854775807 → Break d → piece_at (decimal_of n ++ d ∷ rest) ≡ Token (Number (pos n)) (length (decimal_of n))
number_piece n d rest small ends =
    let s = decimal_spells n in
    let value = s.value in
    digits_piece (decimal_of n) d rest s.some s.digits (no_digit d ends) (omega arith) ∙ ap (λ v. Token (Number (pos v)) (length (decimal_of n))) value

-- ---- texts

text_ends : (v n : ℕ) (rest : List ℕ) → text_at v n (34 ∷ rest) ≡ Token Text (n + 1)
text_ends v n rest = refl

escape_goes_on : (v n b : ℕ) (rest : List ℕ) → nat_le 65535 v ≡ false → is_escaped b ≡ true → text_at v n (92 ∷ b ∷ rest) ≡ text_at (v + 1) (n + 1 + 1) rest
escape_goes_on v n b rest room e = rw (room, e) refl

fourth : (q w x y : Bool) (a b c d e : Piece) → q ≡ false → w ≡ false → x ≡ false → y ≡ true → (if q then a else (if w then b else (if x then c else (if y then d else e)))) ≡ d
fourth q w x y a b c d e f g h i = rw (f, g, h, i) refl

plain_goes_on : (v n b : ℕ) (rest : List ℕ) → nat_le 65535 v ≡ false → (b == 34) ≡ false → (b == 92) ≡ false → is_plain b ≡ true → text_at v n (b ∷ rest) ≡ text_at (v + 1) (n + 1) rest
plain_goes_on v n b rest room e f plain = fourth (b == 34) (nat_le 65535 v) (b == 92) (is_plain b) _ _ _ _ _ e room f plain

plain_escaped : (b : ℕ) → (b == 34) ≡ false → (b == 92) ≡ false → (b == 10) ≡ false → escaped b ≡ b ∷ []
plain_escaped b e f g = rw (e, f, g) refl

value_goes_on : (b : ℕ) (bs : List ℕ) → (b == 34) ≡ false → (b == 92) ≡ false → value_of (b ∷ bs) ≡ b ∷ value_of bs
value_goes_on b bs e f = rw (e, f) refl

-- the rest of a text, of which the first byte is this one, is read to its end
abbrev Reads : List ℕ → ℕ → Type 0
Reads bs b = (v n : ℕ) (rest : List ℕ) → v + length (b ∷ bs) ≤ 65535 →
    text_at v n ((escaped b ++ all_escaped bs) ++ 34 ∷ rest) ≡ Token Text (n + length (escaped b ++ all_escaped bs) + 1)

abbrev ReadsAll : List ℕ → Type 0
ReadsAll bs = (v n : ℕ) (rest : List ℕ) → v + length bs ≤ 65535 → text_at v n (all_escaped bs ++ 34 ∷ rest) ≡ Token Text (n + length (all_escaped bs) + 1)

room : (v : ℕ) (bs : List ℕ) → v + suc (length bs) ≤ 65535 → nat_le 65535 v ≡ false
room v bs small = grind (arith, nat_tests)

reads_escape : (bs : List ℕ) (b c : ℕ) → ReadsAll bs → is_escaped c ≡ true → escaped b ≡ 92 ∷ c ∷ [] → Reads bs b
reads_escape bs b c others e is v n rest small =
    let size : n + 1 + 1 + length (all_escaped bs) + 1 ≡ n + suc (suc (length (all_escaped bs))) + 1 = omega arith in
    ap (λ z. text_at v n ((z ++ all_escaped bs) ++ 34 ∷ rest)) is ∙
    (escape_goes_on v n c (all_escaped bs ++ 34 ∷ rest) (room v bs small) e ∙
    (others (v + 1) (n + 1 + 1) rest (omega arith) ∙ (ap (λ k. Token Text k) size ∙ ap (λ z. Token Text (n + length (z ++ all_escaped bs) + 1)) (sym is))))

reads_plain : (bs : List ℕ) (b : ℕ) → ReadsAll bs → (b == 34) ≡ false → (b == 92) ≡ false → (b == 10) ≡ false → is_plain b ≡ true → Reads bs b
reads_plain bs b others e f g plain v n rest small =
    let is = plain_escaped b e f g in
    let size : n + 1 + length (all_escaped bs) + 1 ≡ n + suc (length (all_escaped bs)) + 1 = omega arith in
    ap (λ z. text_at v n ((z ++ all_escaped bs) ++ 34 ∷ rest)) is ∙
    (plain_goes_on v n b (all_escaped bs ++ 34 ∷ rest) (room v bs small) e f plain ∙
    (others (v + 1) (n + 1) rest (omega arith) ∙ (ap (λ k. Token Text k) size ∙ ap (λ z. Token Text (n + length (z ++ all_escaped bs) + 1)) (sym is))))

text_whole : (bs : List ℕ) → AllBytes is_held bs → ReadsAll bs
text_whole [] held = λ v n rest small. let size : n + 1 ≡ n + 0 + 1 = omega arith in text_ends v n rest ∙ ap (λ k. Token Text k) size
text_whole (b ∷ bs) held =
    by_test (b == 34) (λ e. reads_escape bs b 34 (text_whole bs held.1) refl (ap escaped (eqb-true b 34 e))) (λ e.
    by_test (b == 92) (λ f. reads_escape bs b 92 (text_whole bs held.1) refl (ap escaped (eqb-true b 92 f))) (λ f.
    by_test (b == 10) (λ g. reads_escape bs b 110 (text_whole bs held.1) refl (ap escaped (eqb-true b 10 g))) (λ g.
    reads_plain bs b (text_whole bs held.1) e f g (held_plain (is_plain b) (b == 34) (b == 92) (b == 10) held.0 e f g))))

value_first : (b : ℕ) (more bs : List ℕ) → value_of more ≡ bs → value_of (escaped b ++ more) ≡ b ∷ bs
value_first b more bs h =
    by_test (b == 34) (λ e. let is : b ≡ 34 = eqb-true b 34 e in subst (λ z. value_of (escaped z ++ more) ≡ z ∷ bs) (sym is) (ap (λ z. 34 ∷ z) h)) (λ e.
    by_test (b == 92) (λ f. let is : b ≡ 92 = eqb-true b 92 f in subst (λ z. value_of (escaped z ++ more) ≡ z ∷ bs) (sym is) (ap (λ z. 92 ∷ z) h)) (λ f.
    by_test (b == 10) (λ g. let is : b ≡ 10 = eqb-true b 10 g in subst (λ z. value_of (escaped z ++ more) ≡ z ∷ bs) (sym is) (ap (λ z. 10 ∷ z) h)) (λ g.
    ap (λ z. value_of (z ++ more)) (plain_escaped b e f g) ∙ (value_goes_on b more e f ∙ ap (λ z. b ∷ z) h))))

text_value : (bs : List ℕ) → value_of (all_escaped bs ++ 34 ∷ []) ≡ bs
text_value [] = refl
text_value (b ∷ bs) = ap value_of (append_assoc (escaped b) (all_escaped bs) (34 ∷ [])) ∙ value_first b (all_escaped bs ++ 34 ∷ []) bs (text_value bs)

text_piece : (bs : List ℕ) (d : ℕ) (rest : List ℕ) → AllBytes is_held bs → length bs ≤ 65535 → piece_at (quoted bs ++ d ∷ rest) ≡ Token Text (length (quoted bs))
text_piece bs d rest held small =
    let all = length-append (all_escaped bs) (34 ∷ []) in
    let size : 1 + length (all_escaped bs) + 1 ≡ length (quoted bs) = omega (arith, all) in
    ap (λ z. text_at 0 1 z) (append_assoc (all_escaped bs) (34 ∷ []) (d ∷ rest)) ∙ (text_whole bs held 0 1 (d ∷ rest) (omega arith) ∙ ap (λ k. Token Text k) size)

-- ---- signs

pub listed : (P : List ℕ → Type 0) (spelling : List ℕ) (ss : List (List ℕ)) → list_any (λ s. bytes_eq s spelling) ss ≡ true → OfEach P ss → P spelling
listed P spelling [] e each = absurd (not_false e)
listed P spelling (s ∷ ss) e each = by_test (bytes_eq s spelling)
    (λ same. subst P ((bytes_eq-Decides s spelling).0 same) each.0)
    (λ other. listed P spelling ss (skip (bytes_eq s spelling) (list_any (λ t. bytes_eq t spelling) ss) other e) each.1)
  where
    skip : (x y : Bool) → x ≡ false → (x || y) ≡ true → y ≡ true
    skip true y f e = absurd (not_false (sym f))
    skip false y f e = e

abbrev SignRead : ℕ → List ℕ → List ℕ → Type 0
SignRead d rest s = piece_at (s ++ d ∷ rest) ≡ Token Sign (length s)

sign_before : (d : ℕ) (rest s : List ℕ) → Break d → is_sign s ≡ true → SignRead d rest s
sign_before d rest s (is_space e) is = subst (λ z. SignRead z rest s) (sym e) (listed (SignRead 32 rest) s signs is
    (refl, (refl, (refl, (refl, (refl, (refl, (refl, (refl, (refl, (refl, (refl, (refl, (refl, (refl, (refl, (refl, (refl, (refl, (refl, (refl, (refl, (refl, (refl, tt))))))))))))))))))))))))
sign_before d rest s (is_line e) is = subst (λ z. SignRead z rest s) (sym e) (listed (SignRead 10 rest) s signs is
    (refl, (refl, (refl, (refl, (refl, (refl, (refl, (refl, (refl, (refl, (refl, (refl, (refl, (refl, (refl, (refl, (refl, (refl, (refl, (refl, (refl, (refl, (refl, tt))))))))))))))))))))))))

sign_some : (s : List ℕ) → is_sign s ≡ true → 0 < length s
sign_some s is = listed (λ t. 0 < length t) s signs is
    (omega arith, (omega arith, (omega arith, (omega arith, (omega arith, (omega arith, (omega arith, (omega arith, (omega arith, (omega arith, (omega arith, (omega arith, (omega arith, (omega arith, (omega arith, (omega arith, (omega arith, (omega arith, (omega arith, (omega arith, (omega arith, (omega arith, (omega arith, tt)))))))))))))))))))))))

-- ---- any symbol that a token can be

-- a symbol that some token is
abbrev pub CanStand : Symbol → Type 0
CanStand (NameAt x at) = IsNameSpelling x × (is_word x ≡ false)
CanStand (WordOf bs) = IsNameSpelling bs × (is_word bs ≡ true)
CanStand (NumberOf n) = (m : ℕ) × (n ≡ pos m) × (m ≤ 9223372036854775807)
CanStand (TextOf bs) = AllBytes is_held bs × (length bs ≤ 65535)
CanStand (SignOf bs) = is_sign bs ≡ true

-- its bytes before a space or LF are read as a token of this kind, which it is
pub record IsRead (k : Symbol) (d : ℕ) (rest : List ℕ) : Type 0 where
  pub kind : TokenKind
  pub some : 0 < length (bytes_of k)
  pub piece : piece_at (bytes_of k ++ d ∷ rest) ≡ Token kind (length (bytes_of k))
  pub same : (at : ℕ) → placeless (symbol_by kind (content_of kind (bytes_of k)) at) ≡ placeless k

name_some : (x : List ℕ) → IsNameSpelling x → 0 < length x
name_some [] is = absurd is
name_some (b ∷ x) is = omega arith

name_kind : (x : List ℕ) → is_word x ≡ false → kind_of_name x ≡ Name
name_kind x e = rw e refl

word_kind : (x : List ℕ) → is_word x ≡ true → kind_of_name x ≡ Word
word_kind x e = rw e refl

number_read : (m d : ℕ) (rest : List ℕ) → m ≤ 9223372036854775807 → Break d → IsRead (NumberOf (pos m)) d rest
number_read m d rest small ends = record {
  kind = Number (pos m);
  some = (decimal_spells m).some;
  piece = number_piece m d rest small ends;
  same = λ at. refl;
}

pub is_read : (k : Symbol) (d : ℕ) (rest : List ℕ) → CanStand k → Break d → IsRead k d rest
is_read (NameAt x at) d rest can ends = record {
  kind = Name;
  some = name_some x can.0;
  piece = name_piece x d rest can.0 ends ∙ ap (λ k. Token k (length x)) (name_kind x can.1);
  same = λ at. refl;
}
is_read (WordOf x) d rest can ends = record {
  kind = Word;
  some = name_some x can.0;
  piece = name_piece x d rest can.0 ends ∙ ap (λ k. Token k (length x)) (word_kind x can.1);
  same = λ at. refl;
}
is_read (NumberOf n) d rest can ends = subst (λ z. IsRead (NumberOf z) d rest) (sym can.1) (number_read can.0 d rest can.2 ends)
is_read (TextOf bs) d rest can ends = record {
  kind = Text;
  some = omega arith;
  piece = text_piece bs d rest can.0 can.1;
  same = λ at. ap TextOf (text_value bs);
}
is_read (SignOf bs) d rest can ends = record {
  kind = Sign;
  some = sign_some bs can;
  piece = sign_before d rest bs ends can;
  same = λ at. refl;
}
