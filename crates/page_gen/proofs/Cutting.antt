-- How the tokens of a text follow from those of its parts.
use Rattle.std.proofs.Common.{◌≡◌, ℕ, zero, suc, ◌+◌, ◌-◌, ◌*◌, ◌<◌, ◌≤◌, List, [], ◌∷◌, ◌++◌, map, length, drop, take, true, false, Ok, Err, pos, refl, sym, ap, ◌∙◌, arith, add_assoc, add-zero, le-leb}
use Rattle.std.specs.Prelude.{nat_le, ◌==◌}
use Rattle.std.specs.Char.{is_ascii_digit}
use Rattle.std.proofs.lemmas.Bool.Decides.{nat_tests}
use Rattle.page_values.specs.Names.{is_letter}
use Rattle.lang_tokens.specs.Seen.{TokenSeen}
use Rattle.lang_tokens.specs.declared.token.TokenKind.{TokenKind}
use Rattle.lang_tokens.specs.declared.token.TokenKind.TheVariants.{Number}
use Rattle.lang_tokens.specs.declared.piece.Piece.{Piece}
use Rattle.lang_tokens.specs.declared.piece.Piece.TheVariants.{Gap, Token, Bad}
use Rattle.lang_tokens.specs.Pieces.{piece_at, number_at, is_blank}
use Rattle.lang_tokens.specs.Tokens.{Lexed, content_of, token_at, with_front, with_piece, cut}
use Rattle.lang_tokens.specs.Meaning.{AllBytes, decimal_after}

-- ---- pieces in front

-- n after k more
abbrev pub and_more : ℕ → ℕ → ℕ
and_more zero n = n
and_more (suc k) n = suc (and_more k n)

pub more_enough : (k n : ℕ) → n ≤ and_more k n
more_enough zero n = omega arith
more_enough (suc k) n = let before = more_enough k n in omega arith

-- these tokens in front, one after another
abbrev pub fronts : List TokenSeen → Lexed → Lexed
fronts [] r = r
fronts (t ∷ ts) r = with_front (t ∷ []) (fronts ts r)

pub fronts_ok : (ts us : List TokenSeen) → fronts ts (Ok us) ≡ Ok (ts ++ us)
fronts_ok [] us = refl
fronts_ok (t ∷ ts) us = ap (with_front (t ∷ [])) (fronts_ok ts us)

-- ---- the same bytes further behind

abbrev pub shifted : ℕ → TokenSeen → TokenSeen
shifted k t = record { at = k + t.at; end = k + t.end; kind = t.kind; content = t.content }

abbrev pub all_shifted : ℕ → Lexed → Lexed
all_shifted k (Ok ts) = Ok (map (shifted k) ts)
all_shifted k (Err n) = Err (k + n)

front_shifts : (k : ℕ) (t : TokenSeen) (r : Lexed) → with_front (shifted k t ∷ []) (all_shifted k r) ≡ all_shifted k (with_front (t ∷ []) r)
front_shifts k t (Ok ts) = refl
front_shifts k t (Err n) = refl

abbrev token_to : ℕ → ℕ → TokenKind → List ℕ → TokenSeen
token_to at end kind content = record { at = at; end = end; kind = kind; content = content }

piece_shifts : (f : ℕ → List ℕ → Lexed) (k at : ℕ) (bs : List ℕ) → ((at' : ℕ) (cs : List ℕ) → f (k + at') cs ≡ all_shifted k (f at' cs)) → (p : Piece) →
    with_piece f (k + at) bs p ≡ all_shifted k (with_piece f at bs p)
piece_shifts f k at bs same (Gap size) = ap (λ z. f z (drop size bs)) (add_assoc k at size) ∙ same (at + size) (drop size bs)
piece_shifts f k at bs same (Token kind size) =
    ap (λ z. with_front (token_to (k + at) z kind (content_of kind (take size bs)) ∷ []) (f z (drop size bs))) (add_assoc k at size)
    ∙ ap (with_front (shifted k (token_at at bs kind size) ∷ [])) (same (at + size) (drop size bs))
    ∙ front_shifts k (token_at at bs kind size) (f (at + size) (drop size bs))
piece_shifts f k at bs same (Bad size) = ap (λ z. Err z) (add_assoc k at size)

pub cut_shifts : (n k at : ℕ) (bs : List ℕ) → cut n (k + at) bs ≡ all_shifted k (cut n at bs)
cut_shifts zero k at [] = refl
cut_shifts (suc n) k at [] = refl
cut_shifts zero k at (b ∷ bs) = refl
cut_shifts (suc n) k at (b ∷ bs) = piece_shifts (cut n) k at (b ∷ bs) (cut_shifts n k) (piece_at (b ∷ bs))

-- ---- numbers

digit_bounds : (d : ℕ) → is_ascii_digit d ≡ true → (48 ≤ d) × (d ≤ 57)
digit_bounds d h = grind (arith, nat_tests)

no_blank : (d : ℕ) → 48 ≤ d → d ≤ 57 → is_blank d ≡ false
no_blank d low high = grind (arith, nat_tests)

no_slash : (d : ℕ) → 48 ≤ d → (d == 47) ≡ false
no_slash d low = grind (arith, nat_tests)

no_letter : (d : ℕ) → 48 ≤ d → d ≤ 57 → is_letter d ≡ false
no_letter d low high = grind (arith, nat_tests)

digit_first : (d : ℕ) (bs : List ℕ) → is_ascii_digit d ≡ true → piece_at (d ∷ bs) ≡ number_at (d - 48) 1 bs
digit_first d bs digit =
    let bounds = digit_bounds d digit in
    let blank = no_blank d bounds.0 bounds.1 in
    let slash = no_slash d bounds.0 in
    let letter = no_letter d bounds.0 bounds.1 in
    rw (blank, slash, letter, digit) refl

grows : (v : ℕ) (ds : List ℕ) → v ≤ decimal_after v ds
grows v [] = omega arith
grows v (d ∷ ds) = let more = grows (v * 10 + (d - 48)) ds in omega arith

number_goes_on : (v k d : ℕ) (bs : List ℕ) → is_ascii_digit d ≡ true → nat_le (v * 10 + (d - 48)) 9223372036854775807 ≡ true →
    number_at v k (d ∷ bs) ≡ number_at (v * 10 + (d - 48)) (k + 1) bs
number_goes_on v k d bs digit small = rw (digit, small) refl

number_ends : (v k b : ℕ) (bs : List ℕ) → is_ascii_digit b ≡ false → number_at v k (b ∷ bs) ≡ Token (Number (pos v)) k
number_ends v k b bs other = rw other refl

-- digits, and behind them none
number_whole : (v k : ℕ) (ds : List ℕ) (b : ℕ) (bs : List ℕ) → AllBytes is_ascii_digit ds → is_ascii_digit b ≡ false → decimal_after v ds ≤ 9223372036854775807 →
    number_at v k (ds ++ b ∷ bs) ≡ Token (Number (pos (decimal_after v ds))) (k + length ds)
number_whole v k [] b bs all other small = number_ends v k b bs other ∙ ap (λ m. Token (Number (pos v)) m) (sym (add-zero k))
number_whole v k (d ∷ ds) b bs all other small =
    let grown = grows (v * 10 + (d - 48)) ds in
    let fits : nat_le (v * 10 + (d - 48)) 9223372036854775807 ≡ true = le-leb (v * 10 + (d - 48)) 9223372036854775807 (omega arith) in
    let size : k + 1 + length ds ≡ k + suc (length ds) = omega arith in
    number_goes_on v k d (ds ++ b ∷ bs) all.0 fits ∙ number_whole (v * 10 + (d - 48)) (k + 1) ds b bs all.1 other small
    ∙ ap (λ m. Token (Number (pos (decimal_after v (d ∷ ds)))) m) size

pub number_piece : (ds : List ℕ) (b : ℕ) (bs : List ℕ) → 0 < length ds → AllBytes is_ascii_digit ds → is_ascii_digit b ≡ false → decimal_after 0 ds ≤ 9223372036854775807 →
    piece_at (ds ++ b ∷ bs) ≡ Token (Number (pos (decimal_after 0 ds))) (length ds)
number_piece [] b bs some all other small = absurd (omega arith)
number_piece (d ∷ ds) b bs some all other small =
    let value : 0 * 10 + (d - 48) ≡ d - 48 = omega arith in
    let size : 1 + length ds ≡ suc (length ds) = omega arith in
    digit_first d (ds ++ b ∷ bs) all.0 ∙ ap (λ v. number_at v 1 (ds ++ b ∷ bs)) (sym value)
    ∙ number_whole (0 * 10 + (d - 48)) 1 ds b bs all.1 other small
    ∙ ap (λ m. Token (Number (pos (decimal_after 0 (d ∷ ds)))) m) size
