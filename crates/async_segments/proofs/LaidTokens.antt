-- The tokens of a text that is laid out are those that were laid out.
use Rattle.std.proofs.Common.{◌≡◌, ℕ, ◌+◌, ◌≤◌, List, [], ◌∷◌, ◌++◌, length, take, map, Ok, refl, sym, ap, subst, ◌∙◌, arith, length-append}
use Rattle.std.proofs.Math.Seq.{drop-append_seam}
use Rattle.lang_tokens.specs.Seen.{TokenSeen}
use Rattle.lang_tokens.specs.declared.token.TokenKind.{TokenKind}
use Rattle.lang_tokens.specs.declared.token.TokenKind.TheVariants.{Name, Word, Number, Text, Sign}
use Rattle.lang_tokens.specs.Tokens.{content_of, token_at, with_front, with_piece, cut, tokens_of}
use Rattle.lang_tokens.specs.Meaning.{IsNameSpelling, IsToken, decimal_after, is_sign, Reading, ended, blank, comment, token}
use Rattle.lang_tokens.specs.Pieces.{is_word}
use Rattle.lang_tokens.proofs.CutLemmas.{cut_first, nothing_left}
use Rattle.lang_tokens.proofs.ReadingLemmas.{reading_of}
use Rattle.lang_parse.specs.Symbols.{Symbol, symbol_by, symbols_of}
use Rattle.async_segments.specs.Layout.{bytes_of, further, laid_out, placeless}
use Rattle.async_segments.specs.Script.{Each}
use Rattle.async_segments.proofs.TokenPieces.{Break, is_space, is_line, CanStand, is_read, take_front}

-- ---- the symbols of a script can stand

stands : (kind : TokenKind) (content spelling : List ℕ) (at : ℕ) → IsToken kind content spelling → CanStand (symbol_by kind content at)
stands Name content spelling at t = (subst IsNameSpelling (sym t.2) t.0, ap is_word t.2 ∙ t.1)
stands Word content spelling at t = (subst IsNameSpelling (sym t.2) t.0, ap is_word t.2 ∙ t.1)
stands (Number n) content spelling at t = (decimal_after 0 spelling, t.2, t.3)
stands Text content spelling at t = (t.1, t.2)
stands Sign content spelling at t = ap is_sign t.1 ∙ t.0

reading_stands : {at : ℕ} {bs : List ℕ} {ts : List TokenSeen} → Reading at bs ts → Each CanStand (symbols_of ts)
reading_stands (ended at) = tt
reading_stands (blank at b bs ts e rest) = reading_stands rest
reading_stands (comment at size bs ts is rest) = reading_stands rest
reading_stands (token at size kind content bs ts first rest) = (stands kind content (take size bs) at first.spelled, reading_stands rest)

pub source_stands : (bytes : List ℕ) (tokens : List TokenSeen) → tokens_of bytes ≡ Ok tokens → Each CanStand (symbols_of tokens)
source_stands bytes tokens e = reading_stands (reading_of bytes tokens e)

-- ---- a text that is laid out

-- bytes with these symbols, their places left aside, read at an offset with so many pieces at most
record Laid (m at : ℕ) (bs : List ℕ) (ks : List Symbol) : Type 0 where
  tokens : List TokenSeen
  lexed : cut m at bs ≡ Ok tokens
  same : map placeless (symbols_of tokens) ≡ map placeless ks

-- a token in front of a break
in_front : (m at d : ℕ) (rest : List ℕ) (k : Symbol) (ks : List Symbol) → CanStand k → Break d → length (bytes_of k ++ d ∷ rest) ≤ m →
    Laid m (at + length (bytes_of k)) (d ∷ rest) ks → Laid m at (bytes_of k ++ d ∷ rest) (k ∷ ks)
in_front m at d rest k ks can ends small l =
    let r = is_read k d rest can ends in
    let spelled = bytes_of k in
    let bs = spelled ++ d ∷ rest in
    let all = length-append spelled (d ∷ rest) in
    let t = token_at at bs r.kind (length spelled) in record {
      tokens = t ∷ l.tokens;
      lexed = cut_first m at bs small (omega (arith, all)) ∙ (ap (with_piece (cut m) at bs) r.piece ∙
          (ap (λ z. with_front (t ∷ []) (cut m (at + length spelled) z)) (drop-append_seam spelled (d ∷ rest)) ∙ ap (with_front (t ∷ [])) l.lexed));
      same = ap (λ z. placeless (symbol_by r.kind (content_of r.kind z) at) ∷ map placeless (symbols_of l.tokens)) (take_front spelled (d ∷ rest)) ∙
          (ap (λ z. z ∷ map placeless (symbols_of l.tokens)) (r.same at) ∙ ap (λ z. placeless k ∷ z) l.same);
    }

-- a space in front
behind_space : (m at : ℕ) (bs : List ℕ) (ks : List Symbol) → length (32 ∷ bs) ≤ m → Laid m (at + 1) bs ks → Laid m at (32 ∷ bs) ks
behind_space m at bs ks small l = record {
  tokens = l.tokens;
  lexed = cut_first m at (32 ∷ bs) small (omega arith) ∙ l.lexed;
  same = l.same;
}

last_line : (m at : ℕ) → 1 ≤ m → Laid m at (10 ∷ []) []
last_line m at small = record {
  tokens = [];
  lexed = cut_first m at (10 ∷ []) small (omega arith) ∙ nothing_left m (at + 1) [] refl;
  same = refl;
}

-- what stands behind a token begins with a space or LF
record Begins (bs : List ℕ) : Type 0 where
  first : ℕ
  rest : List ℕ
  is : bs ≡ first ∷ rest
  ends : Break first

begins : (ks : List Symbol) → Begins (further ks)
begins [] = record { first = 10; rest = []; is = refl; ends = is_line refl }
begins (k ∷ ks) = record { first = 32; rest = bytes_of k ++ further ks; is = refl; ends = is_space refl }

token_laid : (m at : ℕ) (k : Symbol) (ks : List Symbol) → CanStand k → length (bytes_of k ++ further ks) ≤ m → Laid m (at + length (bytes_of k)) (further ks) ks →
    Laid m at (bytes_of k ++ further ks) (k ∷ ks)
token_laid m at k ks can small l =
    let b = begins ks in
    subst (λ z. Laid m at (bytes_of k ++ z) (k ∷ ks)) (sym b.is)
    (in_front m at b.first b.rest k ks can b.ends (subst (λ z. length (bytes_of k ++ z) ≤ m) b.is small) (subst (λ z. Laid m (at + length (bytes_of k)) z ks) b.is l))

further_laid : (m at : ℕ) (ks : List Symbol) → Each CanStand ks → length (further ks) ≤ m → Laid m at (further ks) ks
further_laid m at [] can small = last_line m at small
further_laid m at (k ∷ ks) can small =
    let all = length-append (bytes_of k) (further ks) in
    behind_space m at (bytes_of k ++ further ks) (k ∷ ks) small
    (token_laid m (at + 1) k ks can.0 (omega (arith, small)) (further_laid m (at + 1 + length (bytes_of k)) ks can.1 (omega (arith, all, small))))

laid : (m : ℕ) (ks : List Symbol) → Each CanStand ks → length (laid_out ks) ≤ m → Laid m 0 (laid_out ks) ks
laid m [] can small = last_line m 0 small
laid m (k ∷ ks) can small =
    let all = length-append (bytes_of k) (further ks) in
    token_laid m 0 k ks can.0 small (further_laid m (0 + length (bytes_of k)) ks can.1 (omega (arith, all, small)))

-- the tokens of the text are these
pub record ReadsBack (bytes : List ℕ) (ks : List Symbol) : Type 0 where
  pub tokens : List TokenSeen
  pub lexed : tokens_of bytes ≡ Ok tokens
  pub same : map placeless (symbols_of tokens) ≡ map placeless ks

pub reads_back : (ks : List Symbol) → Each CanStand ks → ReadsBack (laid_out ks) ks
reads_back ks can =
    let l = laid (length (laid_out ks)) ks can (omega arith) in
    record { tokens = l.tokens; lexed = l.lexed; same = l.same }
