-- The tokens of a storm's script.
use Rattle.std.proofs.Common.{◌≡◌, ℕ, suc, ◌+◌, ◌<◌, ◌≤◌, List, [], ◌∷◌, ◌++◌, map, length, drop, Ok, Err, pos, codes, refl, sym, ap, ◌∙◌, arith, append_assoc, add-zero, length-append}
use Rattle.std.proofs.Math.Seq.{drop-append_seam}
use Rattle.page_parts.specs.Words.{decimal_of}
use Rattle.lang_tokens.specs.Seen.{TokenSeen}
use Rattle.lang_tokens.specs.declared.token.TokenKind.TheVariants.{Number}
use Rattle.lang_tokens.specs.declared.piece.Piece.TheVariants.{Token}
use Rattle.lang_tokens.specs.Pieces.{piece_at}
use Rattle.lang_tokens.specs.Tokens.{Lexed, with_front, with_piece, cut, tokens_of, token_at}
use Rattle.lang_tokens.proofs.CutLemmas.{cut_enough, cut_first}
use Rattle.page_gen.specs.Storm.{text_of_lines, storm_script}
use Rattle.page_gen.proofs.Decimal.{Spells, decimal_spells}
use Rattle.page_gen.proofs.Cutting.{and_more, more_enough, fronts, fronts_ok, shifted, all_shifted, cut_shifts, number_piece}

-- ---- the script in parts, which end with whole tokens

-- up to the number of turns
abbrev pub first_part : List ℕ
first_part = text_of_lines (
    codes "var i = 0;" ∷
    codes "var s = 1;" ∷
    codes "var k = 0;" ∷
    codes "var c = unit;" ∷
    codes "fn f() { return 1; }" ∷
    codes "fn g(v) { }" ∷ [])
    ++ codes "while (i < "

unfoldable pub before : List ℕ
before = first_part

-- from there up to the end of the text in it
abbrev pub second_part : List ℕ
second_part = text_of_lines (
    codes ") {" ∷
    codes "s = (s * 1103515245 + 12345) % 2147483648;" ∷
    codes "k = (s / 65536) % 4;" ∷
    codes "if (k == 0) { setTimeout(f, (s / 262144) % 1000); }" ∷
    codes "if (k == 1) { queueMicrotask(f); }" ∷ [])
    ++ codes "if (k == 2) { postTask(f, \"background\""

unfoldable pub upto_text : List ℕ
upto_text = second_part

-- what follows that
abbrev pub third_part : List ℕ
third_part = text_of_lines (
    codes ", unit, 0); }" ∷
    codes "if (k == 3) { c = controller(); then(postTask(f, unit, signal(c), 0), unit, g); abort(c, unit); }" ∷
    codes "i = i + 1;" ∷
    codes "}" ∷ [])

unfoldable pub after_text : List ℕ
after_text = third_part

pub script_parts : (n : ℕ) → storm_script n ≡ before ++ (decimal_of n ++ (upto_text ++ after_text))
unfolding storm_script before upto_text after_text
script_parts n = ap (λ z. before ++ z) (append_assoc (decimal_of n) (codes ") {") (drop 3 (upto_text ++ after_text)))

-- the parts, one put behind another
pub script_written : (n : ℕ) (first second third whole : List ℕ) → first ≡ [] → second ≡ first ++ first_part → third ≡ second ++ decimal_of n → whole ≡ third ++ (second_part ++ third_part) → whole ≡ storm_script n
unfolding before upto_text after_text
script_written n first second third whole none e f g =
    g ∙ ap (λ z. z ++ (upto_text ++ after_text)) (f ∙ ap (λ z. z ++ decimal_of n) (e ∙ ap (λ z. z ++ before) none))
    ∙ append_assoc before (decimal_of n) (upto_text ++ after_text) ∙ sym (script_parts n)

-- ---- the tokens of each part

abbrev pub items_of : Lexed → List TokenSeen
items_of (Ok ts) = ts
items_of (Err n) = []

unfoldable pub before_tokens : List TokenSeen
before_tokens = items_of (tokens_of before)

unfoldable pub upto_tokens : List TokenSeen
upto_tokens = items_of (tokens_of upto_text)

unfoldable pub after_tokens : List TokenSeen
after_tokens = items_of (tokens_of after_text)

before_cut : (n : ℕ) (rest : List ℕ) → cut (and_more 69 n) 0 (before ++ rest) ≡ fronts before_tokens (cut n 91 rest)
unfolding before before_tokens
before_cut n rest = refl

upto_cut : (n : ℕ) (rest : List ℕ) → cut (and_more 113 n) 0 (upto_text ++ rest) ≡ fronts upto_tokens (cut n 193 rest)
unfolding upto_text upto_tokens
upto_cut n rest = refl

after_cut : tokens_of after_text ≡ Ok after_tokens
unfolding after_text after_tokens
after_cut = refl

-- ---- the tokens of the script

pub before_length : length before ≡ 91
unfolding before
before_length = refl

pub upto_length : length upto_text ≡ 193
unfolding upto_text
upto_length = refl

pub after_length : length after_text ≡ 125
unfolding after_text
after_length = refl

after_there : (m : ℕ) → 125 ≤ m → cut m 193 after_text ≡ Ok (map (shifted 193) after_tokens)
after_there m h =
    let short : length after_text ≤ m = omega (arith, after_length) in
    let all : length after_text ≤ length after_text = omega arith in
    cut_shifts m 193 0 after_text ∙ ap (all_shifted 193) (cut_enough m (length after_text) 0 after_text short all ∙ after_cut)

-- what stands behind the number of turns
abbrev pub behind : List ℕ
behind = upto_text ++ after_text

abbrev pub behind_tokens : List TokenSeen
behind_tokens = upto_tokens ++ map (shifted 193) after_tokens

pub behind_length : length behind ≡ 318
behind_length = omega (arith, length-append upto_text after_text, upto_length, after_length)

behind_cut : (m : ℕ) → length behind ≤ m → cut m 0 behind ≡ Ok behind_tokens
behind_cut m h =
    let long : 125 ≤ m = omega (arith, h, behind_length) in
    cut_enough m (and_more 113 m) 0 behind h (omega (arith, h, more_enough 113 m)) ∙ upto_cut m after_text
    ∙ ap (fronts upto_tokens) (after_there m long) ∙ fronts_ok upto_tokens (map (shifted 193) after_tokens)

behind_there : (m k : ℕ) → length behind ≤ m → cut m k behind ≡ Ok (map (shifted k) behind_tokens)
behind_there m k h =
    ap (λ z. cut m z behind) (sym (add-zero k)) ∙ cut_shifts m k 0 behind ∙ ap (all_shifted k) (behind_cut m h)

-- the number is the longest token there
turns_piece : (n most : ℕ) (ds : List ℕ) → Spells n most ds → n ≤ 9223372036854775807 → piece_at (ds ++ behind) ≡ Token (Number (pos n)) (length ds)
unfolding upto_text
turns_piece n most ds s h =
    let value = s.value in
    number_piece ds 41 (drop 1 behind) s.some s.digits refl (omega arith) ∙ ap (λ v. Token (Number (pos v)) (length ds)) value

-- the number and what stands behind it, where these digits spell it
abbrev pub turns_tokens : ℕ → List ℕ → List TokenSeen
turns_tokens n ds = token_at 91 (ds ++ behind) (Number (pos n)) (length ds) ∷ map (shifted (91 + length ds)) behind_tokens

turns_cut : (n most m : ℕ) (ds : List ℕ) → Spells n most ds → n ≤ 9223372036854775807 → length (ds ++ behind) ≤ m → cut m 91 (ds ++ behind) ≡ Ok (turns_tokens n ds)
turns_cut n most m ds s h long =
    let sizes = length-append ds behind in
    let some : 0 < length (ds ++ behind) = omega (arith, sizes, s.some) in
    cut_first m 91 (ds ++ behind) long some
    ∙ ap (with_piece (cut m) 91 (ds ++ behind)) (turns_piece n most ds s h)
    ∙ ap (λ bs. with_front (token_at 91 (ds ++ behind) (Number (pos n)) (length ds) ∷ []) (cut m (91 + length ds) bs)) (drop-append_seam ds behind)
    ∙ ap (with_front (token_at 91 (ds ++ behind) (Number (pos n)) (length ds) ∷ [])) (behind_there m (91 + length ds) (omega (arith, sizes, long)))

abbrev pub script_tokens : ℕ → List TokenSeen
script_tokens n = before_tokens ++ turns_tokens n (decimal_of n)

parts_cut : (n most : ℕ) (ds : List ℕ) → Spells n most ds → n ≤ 9223372036854775807 → tokens_of (before ++ (ds ++ behind)) ≡ Ok (before_tokens ++ turns_tokens n ds)
parts_cut n most ds s h =
    let size = length (before ++ (ds ++ behind)) in
    let sizes = length-append before (ds ++ behind) in
    cut_enough size (and_more 69 size) 0 (before ++ (ds ++ behind)) (omega arith) (more_enough 69 size)
    ∙ before_cut size (ds ++ behind)
    ∙ ap (fronts before_tokens) (turns_cut n most size ds s h (omega (arith, sizes)))
    ∙ fronts_ok before_tokens (turns_tokens n ds)

pub script_cut : (n : ℕ) → n ≤ 9223372036854775807 → tokens_of (storm_script n) ≡ Ok (script_tokens n)
script_cut n h = ap tokens_of (script_parts n) ∙ parts_cut n (suc n) (decimal_of n) (decimal_spells n) h

-- a script of at most 100,000 turns is no longer than a script may be
pub script_size : (n : ℕ) → n ≤ 100000 → length (storm_script n) ≤ 1048576
script_size n h =
    let few = (decimal_spells n).few in
    omega (arith, ap length (script_parts n), length-append before (decimal_of n ++ behind), length-append (decimal_of n) behind, before_length, behind_length, few)
