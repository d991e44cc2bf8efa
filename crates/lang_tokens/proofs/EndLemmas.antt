-- What stands before the first bad byte goes on: some script that begins with it has tokens.
use Rattle.std.proofs.Common.{◌≡◌, ℕ, zero, suc, subst, ◌+◌, ◌-◌, ◌*◌, ◌<◌, ◌≤◌, List, [], ◌∷◌, ◌++◌, length, take, drop, Bool, true, false, Ok, Err, arith, refl, sym, ap, ◌∙◌, length-drop, length-append}
use Rattle.std.specs.Prelude.{if◌then◌else◌, ◌==◌, ◌&&◌, ◌||◌, nat_le, nat_lt}
use Rattle.std.specs.Char.{is_ascii_digit}
use Rattle.std.proofs.lemmas.Bool.{eqb-true, eq-eqb, ltb-true, ltb-false}
use Rattle.std.proofs.lemmas.List.{length-take-le, drop-append-le, take-append-drop, append-nil}
use Rattle.lang_tokens.specs.Seen.{TokenSeen}
use Rattle.lang_tokens.specs.declared.token.TokenKind.{TokenKind}
use Rattle.lang_tokens.specs.declared.token.TokenKind.TheVariants.{Sign, Text}
use Rattle.lang_tokens.specs.declared.piece.Piece.{Piece}
use Rattle.lang_tokens.specs.declared.piece.Piece.TheVariants.{Gap, Token, Bad}
use Rattle.lang_tokens.specs.Pieces.{piece_at, sign_at, first, is_byte, is_blank, is_plain, is_escaped, is_lone_sign, is_comparing_sign, comment_at, name_at, number_at, text_at, escape_at}
use Rattle.page_values.specs.Names.{is_letter, is_name_byte}
use Rattle.lang_tokens.specs.Tokens.{Lexed, token_at, with_front, with_piece, cut, tokens_of}
use Rattle.lang_tokens.specs.Meaning.{GoesOnBefore}
use Rattle.lang_tokens.proofs.PieceLemmas.{Within, piece_within, either}
use Rattle.lang_tokens.proofs.CutLemmas.{cut_enough, nothing_left}
use Rattle.lang_tokens.proofs.MeaningLemmas.{by_test}
use Rattle.lang_tokens.proofs.BadLemmas.{size_of, piece_local, front_bad, bad_same, bad_stays}

-- where the piece is bad behind its m bytes, some bytes make it a token of them all
abbrev Ends : ℕ → Piece → (List ℕ → Piece) → Type 0
Ends m p q = p ≡ Bad m → (more : List ℕ) × (kind : TokenKind) × (q more ≡ Token kind (m + length more))

ends_if : (m : ℕ) (b : Bool) (p p' : Piece) (q q' : List ℕ → Piece) → Ends m p q → Ends m p' q' → Ends m (if b then p else p') (λ more. if b then q more else q' more)
ends_if m true p p' q q' f g = f
ends_if m false p p' q q' f g = g

-- a bad piece has fewer than m bytes
abbrev Short : ℕ → Piece → Type 0
Short m (Gap size) = Unit {0}
Short m (Token kind size) = Unit {0}
Short m (Bad size) = size < m

bad_is : (n m : ℕ) → Bad n ≡ Bad m → n ≡ m
bad_is n m e = cc

short_ends : (m : ℕ) (p : Piece) (q : List ℕ → Piece) → Short m p → Ends m p q
short_ends m (Gap size) q h = λ e. absurd (cc)
short_ends m (Token kind size) q h = λ e. absurd (cc)
short_ends m (Bad size) q h = λ e. absurd (let s = bad_is size m e in omega arith)

comment_short : (m n : ℕ) (bs : List ℕ) → Short m (comment_at n bs)
comment_short m n [] = tt
comment_short m n (b ∷ bs) = either (Short m) (b == 10) _ _ tt (comment_short m (n + 1) bs)

name_short : (w : List ℕ) (m n : ℕ) (bs : List ℕ) → m ≡ n + length bs → Short m (name_at w n bs)
name_short w m n [] e = tt
name_short w m n (b ∷ bs) e = either (Short m) (is_name_byte b) _ _ (either (Short m) (nat_lt n 64) _ _ (name_short w m (n + 1) bs (omega arith)) (omega arith)) tt

number_short : (m v n : ℕ) (bs : List ℕ) → m ≡ n + length bs → Short m (number_at v n bs)
number_short m v n [] e = tt
number_short m v n (b ∷ bs) e = either (Short m) (is_ascii_digit b) _ _
    (either (Short m) (nat_le (v * 10 + (b - 48)) 9223372036854775807) _ _ (number_short m (v * 10 + (b - 48)) (n + 1) bs (omega arith)) (omega arith)) tt

-- a text that is still open is closed by `"`, and behind `\` by `""`
mutual
  text_ends : (m v n : ℕ) (bs : List ℕ) → m ≡ n + length bs → Ends m (text_at v n bs) (λ more. text_at v n (bs ++ more))
  text_ends m v n [] e = λ _. (34 ∷ [], Text, ap (Token Text) (omega arith))
  text_ends m v n (b ∷ bs) e = ends_if m (b == 34) _ _ _ _ (short_ends m (Token Text (n + 1)) _ tt)
      (ends_if m (nat_le 65535 v) _ _ _ _ (short_ends m (Bad n) _ (omega arith))
      (ends_if m (b == 92) _ _ _ _ (escape_ends m v (n + 1) bs (omega arith))
      (ends_if m (is_plain b) _ _ _ _ (text_ends m (v + 1) (n + 1) bs (omega arith)) (short_ends m (Bad n) _ (omega arith)))))

  escape_ends : (m v n : ℕ) (bs : List ℕ) → m ≡ n + length bs → Ends m (escape_at v n bs) (λ more. escape_at v n (bs ++ more))
  escape_ends m v n [] e = λ _. (34 ∷ 34 ∷ [], Text, ap (Token Text) (omega arith))
  escape_ends m v n (b ∷ bs) e = ends_if m (is_escaped b) _ _ _ _ (text_ends m (v + 1) (n + 1) bs (omega arith)) (short_ends m (Bad n) _ (omega arith))

-- a `&` or `|` alone is completed by another one
alone_ends : (b : ℕ) → Ends 1 (sign_at b (first [])) (λ more. sign_at b (first more))
alone_ends b = ends_if 1 (is_lone_sign b) _ _ _ _ (short_ends 1 (Token Sign 1) _ tt)
    (ends_if 1 (is_comparing_sign b) _ _ (λ more. if is_byte (first more) 61 then Token Sign 2 else Token Sign 1) _ (short_ends 1 (Token Sign 1) _ tt)
    (ends_if 1 (b == 38 || b == 124) _ _ (λ more. if is_byte (first more) b then Token Sign 2 else Bad 1) _
    (λ _. (b ∷ [], Sign, doubled (b == b) (eq-eqb b b refl))) (short_ends 1 (Bad 0) _ (omega arith))))
  where
    doubled : (t : Bool) → t ≡ true → (if t then Token Sign 2 else Bad 1) ≡ Token Sign 2
    doubled t e = rw e refl

sign_short : (m b : ℕ) (next : _) → 2 ≤ m → Short m (sign_at b next)
sign_short m b next h = either (Short m) (is_lone_sign b) _ _ tt (either (Short m) (is_comparing_sign b) _ _ (either (Short m) (is_byte next 61) _ _ tt tt)
    (either (Short m) (b == 38 || b == 124) _ _ (either (Short m) (is_byte next b) _ _ tt (omega arith)) (omega arith)))

-- the piece at a byte that begins no comment
abbrev lexed_at : ℕ → List ℕ → Piece
lexed_at b bs = if is_letter b then name_at (b ∷ bs) 0 (b ∷ bs) else (if is_ascii_digit b then number_at (b - 48) 1 bs else (if b == 34 then text_at 0 1 bs else sign_at b (first bs)))

abbrev solid_at : ℕ → List ℕ → Piece
solid_at b bs = if b == 47 && is_byte (first bs) 47 then comment_at 1 bs else lexed_at b bs

solid_lexed : (b : ℕ) (x : List ℕ) → (b == 47) ≡ false → solid_at b x ≡ lexed_at b x
solid_lexed b x e = rw e refl

one_ends : (b : ℕ) → Ends 1 (solid_at b []) (λ more. solid_at b more)
one_ends b = by_test (b == 47)
    (λ e. subst (λ z. Ends 1 (solid_at z []) (λ more. solid_at z more)) (sym (eqb-true b 47 e)) (short_ends 1 (Token Sign 1) _ tt))
    (λ e bad.
    let found = lexed_ends b (sym (solid_lexed b [] e) ∙ bad) in
    (found.0, found.1, solid_lexed b found.0 e ∙ found.2))
  where
    lexed_ends : (b : ℕ) → Ends 1 (lexed_at b []) (λ more. lexed_at b more)
    lexed_ends b = ends_if 1 (is_letter b) _ _ _ _ (short_ends 1 (name_at (b ∷ []) 0 (b ∷ [])) _ (name_short (b ∷ []) 1 0 (b ∷ []) (omega arith)))
        (ends_if 1 (is_ascii_digit b) _ _ _ _ (short_ends 1 (number_at (b - 48) 1 []) _ tt)
        (ends_if 1 (b == 34) _ _ _ _ (text_ends 1 0 1 [] (omega arith)) (alone_ends b)))

piece_ends : (b : ℕ) (bs : List ℕ) → Ends (length (b ∷ bs)) (piece_at (b ∷ bs)) (λ more. piece_at (b ∷ (bs ++ more)))
piece_ends b [] = ends_if 1 (is_blank b) _ _ _ _ (short_ends 1 (Gap 1) _ tt) (one_ends b)
piece_ends b (d ∷ bs) = let m = length (b ∷ d ∷ bs) in
    ends_if m (is_blank b) _ _ _ _ (short_ends m (Gap 1) _ tt)
    (ends_if m (b == 47 && d == 47) _ _ _ _ (short_ends m (comment_at 1 (d ∷ bs)) _ (comment_short m 1 (d ∷ bs)))
    (ends_if m (is_letter b) _ _ (λ more. name_at (b ∷ d ∷ (bs ++ more)) 0 (b ∷ d ∷ (bs ++ more))) _
    (short_ends m (name_at (b ∷ d ∷ bs) 0 (b ∷ d ∷ bs)) _ (name_short (b ∷ d ∷ bs) m 0 (b ∷ d ∷ bs) (omega arith)))
    (ends_if m (is_ascii_digit b) _ _ _ _ (short_ends m (number_at (b - 48) 1 (d ∷ bs)) _ (number_short m (b - 48) 1 (d ∷ bs) (omega arith)))
    (ends_if m (b == 34) _ _ _ _ (text_ends m 0 1 (d ∷ bs) (omega arith))
    (short_ends m (sign_at b (first (d ∷ bs))) _ (sign_short m b (first (d ∷ bs)) (omega arith)))))))

-- some bytes behind these make tokens of them
abbrev Completes : ℕ → List ℕ → Type 0
Completes at bs = (more : List ℕ) × (ts : List TokenSeen) × (cut (length (bs ++ more)) at (bs ++ more) ≡ Ok ts)

abbrev OpenCompletes : ℕ → Type 0
OpenCompletes n = (at : ℕ) (bs : List ℕ) → length bs ≤ n → cut n at bs ≡ Err (at + length bs) → Completes at bs

module _ (n : ℕ) (others : OpenCompletes n) (at b : ℕ) (bs : List ℕ) (small : length bs ≤ n) where
  -- the rest behind a piece is completed, and the piece stays
  behind : (size : ℕ) → 1 ≤ size → size ≤ length (b ∷ bs) → cut n (at + size) (drop size (b ∷ bs)) ≡ Err (at + length (b ∷ bs)) →
      (size < length (b ∷ bs)) × (more : List ℕ) × (ts : List TokenSeen) × (cut (length (bs ++ more)) (at + size) (drop size (b ∷ (bs ++ more))) ≡ Ok ts)
  behind size some within e =
      let len = length-drop size (b ∷ bs) in
      let inside : size < length (b ∷ bs) = more_left size within e in
      let sum : at + length (b ∷ bs) ≡ at + size + length (drop size (b ∷ bs)) = omega (arith, len) in
      let found = others (at + size) (drop size (b ∷ bs)) (omega (arith, len)) (e ∙ ap Err sum) in (
        inside,
        found.0,
        found.1,
        subst (λ z. cut (length (bs ++ found.0)) (at + size) z ≡ Ok found.1) (sym (drop-append-le size (b ∷ bs) found.0 within))
            (cut_enough (length (bs ++ found.0)) (length (drop size (b ∷ bs) ++ found.0)) (at + size) (drop size (b ∷ bs) ++ found.0)
            (omega (arith, len, length-append bs found.0, length-append (drop size (b ∷ bs)) found.0)) (omega arith) ∙ found.2),
      )
    where
      more_left : (size : ℕ) → size ≤ length (b ∷ bs) → cut n (at + size) (drop size (b ∷ bs)) ≡ Err (at + length (b ∷ bs)) → size < length (b ∷ bs)
      more_left size within e = by_test (nat_lt size (length (b ∷ bs))) (λ t. ltb-true size (length (b ∷ bs)) t)
          (λ f. let over = ltb-false size (length (b ∷ bs)) f in
          let none = nothing_left n (at + size) (drop size (b ∷ bs)) (omega (arith, length-drop size (b ∷ bs))) in
          absurd (neither (at + length (b ∷ bs)) (sym e ∙ none)))
        where
          neither : (place : ℕ) → ◌≡◌ {A = Lexed} (Err place) (Ok []) → ⊥
          neither place f = cc

  same_piece : (size : ℕ) (p : Piece) (more : List ℕ) → p ≡ piece_at (b ∷ bs) → size_of p < length (b ∷ bs) → piece_at (b ∷ (bs ++ more)) ≡ p
  same_piece size p more e less =
      let whole = append-nil (b ∷ bs) in
      let here : p ≡ piece_at ((b ∷ bs) ++ []) = e ∙ ap piece_at (sym whole) in
      piece_local (b ∷ bs) [] more (subst (λ q. size_of q < length (b ∷ bs)) here less) ∙ sym here

  open_step : (p : Piece) → p ≡ piece_at (b ∷ bs) → Within 1 (length (b ∷ bs)) p → with_piece (cut n) at (b ∷ bs) p ≡ Err (at + length (b ∷ bs)) → Completes at (b ∷ bs)
  open_step (Gap size) is w e =
      let found = behind size w.0 w.1 e in (
        found.1,
        found.2,
        subst (λ p. with_piece (cut (length (bs ++ found.1))) at (b ∷ (bs ++ found.1)) p ≡ Ok found.2)
            (sym (same_piece size (Gap size) found.1 is found.0)) found.3,
      )
  open_step (Token kind size) is w e =
      let found = behind size w.0 w.1 (front_bad (token_at at (b ∷ bs) kind size ∷ []) _ (at + length (b ∷ bs)) e) in
      let t = token_at at (b ∷ (bs ++ found.1)) kind size in (
        found.1,
        t ∷ found.2,
        subst (λ p. with_piece (cut (length (bs ++ found.1))) at (b ∷ (bs ++ found.1)) p ≡ Ok (t ∷ found.2))
            (sym (same_piece size (Token kind size) found.1 is found.0)) (ap (with_front (t ∷ [])) found.3),
      )
  open_step (Bad size) is w e =
      let all : size ≡ length (b ∷ bs) = let s = bad_same (at + size) (at + length (b ∷ bs)) e in omega arith in
      let found = piece_ends b bs (sym is ∙ ap Bad all) in
      let whole = b ∷ (bs ++ found.0) in
      let sized : length (b ∷ bs) + length found.0 ≡ length whole = omega (arith, length-append bs found.0) in
      let t = token_at at whole found.1 (length whole) in (
        found.0,
        t ∷ [],
        subst (λ p. with_piece (cut (length (bs ++ found.0))) at whole p ≡ Ok (t ∷ [])) (sym (found.2 ∙ ap (Token found.1) sized))
            (ap (with_front (t ∷ [])) (nothing_left (length (bs ++ found.0)) (at + length whole) (drop (length whole) whole) (omega (arith, length-drop (length whole) whole)))),
      )

open_completes : (n : ℕ) → OpenCompletes n
open_completes zero at [] small e = absurd (cc)
open_completes (suc n) at [] small e = absurd (cc)
open_completes zero at (b ∷ bs) small e = absurd (omega arith)
open_completes (suc n) at (b ∷ bs) small e = open_step n (open_completes n) at b bs (omega arith) (piece_at (b ∷ bs)) refl (piece_within (b ∷ bs) (omega arith)) e

-- no bad byte lies behind the end
most_by : (after : ℕ → List ℕ → Lexed) (at b : ℕ) (bs : List ℕ) (place : ℕ) →
    ((at : ℕ) (cs : List ℕ) → length cs < length (b ∷ bs) → after at cs ≡ Err place → place ≤ at + length cs) →
    (p : Piece) → Within 1 (length (b ∷ bs)) p → with_piece after at (b ∷ bs) p ≡ Err place → place ≤ at + length (b ∷ bs)
most_by after at b bs place others (Gap size) w e =
    let len = length-drop size (b ∷ bs) in
    let le = others (at + size) (drop size (b ∷ bs)) (omega (arith, len, w.0)) e in omega (arith, len, w.0, w.1)
most_by after at b bs place others (Token kind size) w e =
    let len = length-drop size (b ∷ bs) in
    let le = others (at + size) (drop size (b ∷ bs)) (omega (arith, len, w.0)) (front_bad (token_at at (b ∷ bs) kind size ∷ []) _ place e) in omega (arith, len, w.0, w.1)
most_by after at b bs place others (Bad size) w e = let s = bad_same (at + size) place e in omega arith

cut_most : (n at : ℕ) (bs : List ℕ) (place : ℕ) → length bs ≤ n → cut n at bs ≡ Err place → place ≤ at + length bs
cut_most zero at [] place small e = absurd (cc)
cut_most (suc n) at [] place small e = absurd (cc)
cut_most zero at (b ∷ bs) place small e = absurd (omega arith)
cut_most (suc n) at (b ∷ bs) place small e = most_by (cut n) at b bs place (λ at' cs less f. cut_most n at' cs place (omega arith) f) (piece_at (b ∷ bs)) (piece_within (b ∷ bs) (omega arith)) e

pub goes_on_before : (bs : List ℕ) (at : ℕ) → tokens_of bs ≡ Err at → GoesOnBefore at bs
goes_on_before bs at e = record { within = within; goes_on = by_result (tokens_of (take at bs)) refl }
  where
    within : at ≤ length bs
    within = let most = cut_most (length bs) 0 bs at (omega arith) e in omega arith

    front : length (take at bs) ≡ at
    front = length-take-le at bs within

    by_result : (r : Lexed) → r ≡ tokens_of (take at bs) → (more : List ℕ) × (ts : List TokenSeen) × (tokens_of (take at bs ++ more) ≡ Ok ts)
    by_result (Ok ts) is = ([], ts, ap tokens_of (append-nil (take at bs)) ∙ sym is)
    by_result (Err place) is =
        let most = cut_most (length (take at bs)) 0 (take at bs) place (omega arith) (sym is) in
        by_test (nat_lt place at)
        (λ early. absurd (let less = ltb-true place at early in let same = bad_same place at (sym (earlier place is less) ∙ e) in omega arith))
        (λ late. let over = ltb-false place at late in
        let there : place ≡ 0 + length (take at bs) = omega (arith, front) in
        open_completes (length (take at bs)) 0 (take at bs) (omega arith) (sym is ∙ ap Err there))
      where
        earlier : (place : ℕ) → Err place ≡ tokens_of (take at bs) → place < at → tokens_of bs ≡ Err place
        earlier place is less =
            let whole = take-append-drop at bs in
            let enough = length bs + length (take at bs) in
            let none = append-nil (take at bs) in
            let len = ap length whole in
            let given : cut enough 0 (take at bs ++ []) ≡ Err place = ap (cut enough 0) none ∙ cut_enough enough (length (take at bs)) 0 (take at bs) (omega arith) (omega arith) ∙ sym is in
            let stays = bad_stays enough 0 (take at bs) [] (drop at bs) place (omega (arith, ap length none)) (omega (arith, len)) given (omega (arith, front)) in
            cut_enough (length bs) enough 0 bs (omega arith) (omega arith) ∙ subst (λ z. cut enough 0 z ≡ Err place) whole stays
