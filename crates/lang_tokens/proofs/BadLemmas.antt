-- A bad byte stays bad, whatever follows it.
use Rattle.std.proofs.Common.{◌≡◌, ℕ, zero, suc, subst, ◌+◌, ◌-◌, ◌*◌, ◌<◌, ◌≤◌, List, [], ◌∷◌, ◌++◌, length, take, drop, Bool, true, false, Ok, Err, arith, refl, sym, ap, ◌∙◌, length-drop, length-append}
use Rattle.std.specs.Prelude.{if◌then◌else◌, ◌==◌, ◌&&◌, ◌||◌, nat_le, nat_lt}
use Rattle.std.specs.Char.{is_ascii_digit}
use Rattle.std.proofs.lemmas.Bool.{eqb-true}
use Rattle.std.proofs.lemmas.List.{length-take-le, take-append-le, drop-append-le, take-append-drop}
use Rattle.lang_tokens.specs.Seen.{TokenSeen}
use Rattle.lang_tokens.specs.declared.token.TokenKind.TheVariants.{Sign}
use Rattle.lang_tokens.specs.declared.piece.Piece.{Piece}
use Rattle.lang_tokens.specs.declared.piece.Piece.TheVariants.{Gap, Token, Bad}
use Rattle.lang_tokens.specs.Pieces.{piece_at, sign_at, first, is_byte, is_blank, kind_of_name, is_plain, is_escaped, is_lone_sign, is_comparing_sign, comment_at, name_at, number_at, text_at, escape_at}
use Rattle.page_values.specs.Names.{is_letter, is_name_byte}
use Rattle.lang_tokens.specs.Tokens.{Lexed, token_at, with_front, with_piece, cut, tokens_of}
use Rattle.lang_tokens.specs.Meaning.{NoneGoesOn}
use Rattle.lang_tokens.proofs.PieceLemmas.{Within, piece_within, either}
use Rattle.lang_tokens.proofs.CutLemmas.{cut_enough}
use Rattle.lang_tokens.proofs.MeaningLemmas.{by_test}

abbrev pub size_of : Piece → ℕ
size_of (Gap size) = size
size_of (Token kind size) = size
size_of (Bad size) = size

abbrev AtLeast : ℕ → Piece → Type 0
AtLeast n p = n ≤ size_of p

comment_least : (n : ℕ) (bs : List ℕ) → AtLeast n (comment_at n bs)
comment_least n [] = omega arith
comment_least n (b ∷ bs) = either (AtLeast n) (b == 10) _ _ (omega arith) (let h = comment_least (n + 1) bs in omega arith)

name_least : (whole : List ℕ) (n : ℕ) (bs : List ℕ) → AtLeast n (name_at whole n bs)
name_least whole n [] = omega arith
name_least whole n (b ∷ bs) = either (AtLeast n) (is_name_byte b) _ _ (either (AtLeast n) (nat_lt n 64) _ _ (let h = name_least whole (n + 1) bs in omega arith) (omega arith)) (omega arith)

number_least : (v n : ℕ) (bs : List ℕ) → AtLeast n (number_at v n bs)
number_least v n [] = omega arith
number_least v n (b ∷ bs) = either (AtLeast n) (is_ascii_digit b) _ _ (either (AtLeast n) (nat_le (v * 10 + (b - 48)) 9223372036854775807) _ _ (let h = number_least (v * 10 + (b - 48)) (n + 1) bs in omega arith) (omega arith)) (omega arith)

mutual
  text_least : (v n : ℕ) (bs : List ℕ) → AtLeast n (text_at v n bs)
  text_least v n [] = omega arith
  text_least v n (b ∷ bs) = either (AtLeast n) (b == 34) _ _ (omega arith) (either (AtLeast n) (nat_le 65535 v) _ _ (omega arith)
      (either (AtLeast n) (b == 92) _ _ (let h = escape_least v (n + 1) bs in omega arith)
      (either (AtLeast n) (is_plain b) _ _ (let h = text_least (v + 1) (n + 1) bs in omega arith) (omega arith))))

  escape_least : (v n : ℕ) (bs : List ℕ) → AtLeast n (escape_at v n bs)
  escape_least v n [] = omega arith
  escape_least v n (b ∷ bs) = either (AtLeast n) (is_escaped b) _ _ (let h = text_least (v + 1) (n + 1) bs in omega arith) (omega arith)

-- where the first is shorter than m, the second is the same
abbrev pub Local : ℕ → Piece → Piece → Type 0
Local m p q = size_of p < m → q ≡ p

local_if : (m : ℕ) (b : Bool) (p q p' q' : Piece) → Local m p p' → Local m q q' → Local m (if b then p else q) (if b then p' else q')
local_if m true p q p' q' f g = f
local_if m false p q p' q' f g = g

Local-along : (m : ℕ) (p q p' q' : Piece) → p ≡ q → p' ≡ q' → Local m q q' → Local m p p'
Local-along m p q p' q' e e' f h = e' ∙ (f (subst (λ z. size_of z < m) e h) ∙ sym e)

comment_local : (n : ℕ) (c x y : List ℕ) → Local (n + length c) (comment_at n (c ++ x)) (comment_at n (c ++ y))
comment_local n [] x y = λ h. let l = comment_least n x in absurd (omega arith)
comment_local n (b ∷ c) x y = local_if (n + length (b ∷ c)) (b == 10) _ _ _ _ (λ _. refl) (λ h. comment_local (n + 1) c x y (omega arith))

take_same : (n : ℕ) (w x y : List ℕ) → n ≤ length w → take n (w ++ y) ≡ take n (w ++ x)
take_same n w x y h = take-append-le n w y h ∙ sym (take-append-le n w x h)

name_local : (w x y : List ℕ) (n : ℕ) (c : List ℕ) → n + length c ≤ length w → Local (n + length c) (name_at (w ++ x) n (c ++ x)) (name_at (w ++ y) n (c ++ y))
name_local w x y n [] within = λ h. let l = name_least (w ++ x) n x in absurd (omega arith)
name_local w x y n (b ∷ c) within = local_if (n + length (b ∷ c)) (is_name_byte b) _ _ _ _
    (local_if (n + length (b ∷ c)) (nat_lt n 64) _ _ _ _ (λ h. name_local w x y (n + 1) c (omega arith) (omega arith)) (λ _. refl))
    (λ _. ap (λ s. Token (kind_of_name s) n) (take_same n w x y (omega arith)))

number_local : (v n : ℕ) (c x y : List ℕ) → Local (n + length c) (number_at v n (c ++ x)) (number_at v n (c ++ y))
number_local v n [] x y = λ h. let l = number_least v n x in absurd (omega arith)
number_local v n (b ∷ c) x y = local_if (n + length (b ∷ c)) (is_ascii_digit b) _ _ _ _
    (local_if (n + length (b ∷ c)) (nat_le (v * 10 + (b - 48)) 9223372036854775807) _ _ _ _ (λ h. number_local (v * 10 + (b - 48)) (n + 1) c x y (omega arith)) (λ _. refl))
    (λ _. refl)

mutual
  text_local : (v n : ℕ) (c x y : List ℕ) → Local (n + length c) (text_at v n (c ++ x)) (text_at v n (c ++ y))
  text_local v n [] x y = λ h. let l = text_least v n x in absurd (omega arith)
  text_local v n (b ∷ c) x y = local_if (n + length (b ∷ c)) (b == 34) _ _ _ _ (λ _. refl)
      (local_if (n + length (b ∷ c)) (nat_le 65535 v) _ _ _ _ (λ _. refl)
      (local_if (n + length (b ∷ c)) (b == 92) _ _ _ _ (λ h. escape_local v (n + 1) c x y (omega arith))
      (local_if (n + length (b ∷ c)) (is_plain b) _ _ _ _ (λ h. text_local (v + 1) (n + 1) c x y (omega arith)) (λ _. refl))))

  escape_local : (v n : ℕ) (c x y : List ℕ) → Local (n + length c) (escape_at v n (c ++ x)) (escape_at v n (c ++ y))
  escape_local v n [] x y = λ h. let l = escape_least v n x in absurd (omega arith)
  escape_local v n (b ∷ c) x y = local_if (n + length (b ∷ c)) (is_escaped b) _ _ _ _ (λ h. text_local (v + 1) (n + 1) c x y (omega arith)) (λ _. refl)

two_least : (t : Bool) → AtLeast 1 (if t then Token Sign 2 else Token Sign 1)
two_least true = omega arith
two_least false = omega arith

one_least : (t : Bool) → AtLeast 1 (if t then Token Sign 2 else Bad 1)
one_least true = omega arith
one_least false = omega arith

sign_local : (b : ℕ) (x y : List ℕ) → Local 1 (sign_at b (first x)) (sign_at b (first y))
sign_local b x y = local_if 1 (is_lone_sign b) _ _ _ _ (λ _. refl)
    (local_if 1 (is_comparing_sign b) _ _ _ _ (λ h. absurd (let l = two_least (is_byte (first x) 61) in omega arith))
    (local_if 1 (b == 38 || b == 124) _ _ _ _ (λ h. absurd (let l = one_least (is_byte (first x) b) in omega arith)) (λ _. refl)))

-- the piece at a byte that is not blank, and the same at one that begins no comment
abbrev solid_at : ℕ → List ℕ → Piece
solid_at b bs = if b == 47 && is_byte (first bs) 47 then comment_at 1 bs else (if is_letter b then name_at (b ∷ bs) 0 (b ∷ bs) else (if is_ascii_digit b then number_at (b - 48) 1 bs else (if b == 34 then text_at 0 1 bs else sign_at b (first bs))))

abbrev lexed_at : ℕ → List ℕ → Piece
lexed_at b bs = if is_letter b then name_at (b ∷ bs) 0 (b ∷ bs) else (if is_ascii_digit b then number_at (b - 48) 1 bs else (if b == 34 then text_at 0 1 bs else sign_at b (first bs)))

slash_least : (x : List ℕ) → AtLeast 1 (solid_at 47 x)
slash_least x = either (AtLeast 1) (is_byte (first x) 47) _ _ (comment_least 1 x) (omega arith)

solid_lexed : (b : ℕ) (x : List ℕ) → (b == 47) ≡ false → solid_at b x ≡ lexed_at b x
solid_lexed b x e = rw e refl

lexed_local : (b : ℕ) (x y : List ℕ) → Local 1 (lexed_at b x) (lexed_at b y)
lexed_local b x y = local_if 1 (is_letter b) _ _ _ _ (λ h. name_local (b ∷ []) x y 0 (b ∷ []) (omega arith) (omega arith))
    (local_if 1 (is_ascii_digit b) _ _ _ _ (λ h. number_local (b - 48) 1 [] x y (omega arith))
    (local_if 1 (b == 34) _ _ _ _ (λ h. text_local 0 1 [] x y (omega arith)) (sign_local b x y)))

pub piece_local : (c x y : List ℕ) → Local (length c) (piece_at (c ++ x)) (piece_at (c ++ y))
piece_local [] x y = λ h. absurd (omega arith)
piece_local (b ∷ []) x y = local_if 1 (is_blank b) _ _ _ _ (λ _. refl) (by_test (b == 47)
    (λ e h. absurd (let l = subst (λ z. AtLeast 1 (solid_at z x)) (sym (eqb-true b 47 e)) (slash_least x) in omega arith))
    (λ e. Local-along 1 (solid_at b x) (lexed_at b x) (solid_at b y) (lexed_at b y) (solid_lexed b x e) (solid_lexed b y e) (lexed_local b x y)))
piece_local (b ∷ d ∷ c) x y = local_if (length (b ∷ d ∷ c)) (is_blank b) _ _ _ _ (λ _. refl)
    (local_if (length (b ∷ d ∷ c)) (b == 47 && d == 47) _ _ _ _ (λ h. comment_local 1 (d ∷ c) x y (omega arith))
    (local_if (length (b ∷ d ∷ c)) (is_letter b) _ _ _ _ (λ h. name_local (b ∷ d ∷ c) x y 0 (b ∷ d ∷ c) (omega arith) (omega arith))
    (local_if (length (b ∷ d ∷ c)) (is_ascii_digit b) _ _ _ _ (λ h. number_local (b - 48) 1 (d ∷ c) x y (omega arith))
    (local_if (length (b ∷ d ∷ c)) (b == 34) _ _ _ _ (λ h. text_local 0 1 (d ∷ c) x y (omega arith)) (λ _. refl)))))

pub front_bad : (front : List TokenSeen) (r : Lexed) (place : ℕ) → with_front front r ≡ Err place → r ≡ Err place
front_bad front (Ok ts) place e = absurd (cc)
front_bad front (Err n) place e = e

pub bad_same : (n m : ℕ) → ◌≡◌ {A = Lexed} (Err n) (Err m) → n ≡ m
bad_same n m e = cc

piece_bad_later : (after : ℕ → List ℕ → Lexed) (at : ℕ) (bs : List ℕ) (place : ℕ) → ((at : ℕ) (cs : List ℕ) → after at cs ≡ Err place → at ≤ place) → (p : Piece) → with_piece after at bs p ≡ Err place → at ≤ place
piece_bad_later after at bs place others (Gap size) e = let l = others (at + size) (drop size bs) e in omega arith
piece_bad_later after at bs place others (Token kind size) e = let l = others (at + size) (drop size bs) (front_bad (token_at at bs kind size ∷ []) (after (at + size) (drop size bs)) place e) in omega arith
piece_bad_later after at bs place others (Bad size) e = let l = bad_same (at + size) place e in omega arith

pub cut_least : (n at : ℕ) (bs : List ℕ) (place : ℕ) → cut n at bs ≡ Err place → at ≤ place
cut_least zero at [] place e = absurd (cc)
cut_least (suc n) at [] place e = absurd (cc)
cut_least zero at (b ∷ bs) place e = absurd (cc)
cut_least (suc n) at (b ∷ bs) place e = piece_bad_later (cut n) at (b ∷ bs) place (λ at' cs f. cut_least n at' cs place f) (piece_at (b ∷ bs)) e

-- a bad byte among the first bytes is bad also where others follow these
abbrev pub BadStays : ℕ → Type 0
BadStays n = (at : ℕ) (c x y : List ℕ) (place : ℕ) → length (c ++ x) ≤ n → length (c ++ y) ≤ n → cut n at (c ++ x) ≡ Err place → place < at + length c → cut n at (c ++ y) ≡ Err place

stay : (n : ℕ) → BadStays n → (at b : ℕ) (c x y : List ℕ) (place : ℕ) → length (b ∷ (c ++ x)) ≤ suc n → length (b ∷ (c ++ y)) ≤ suc n → (p : Piece) → Within 1 (length (b ∷ (c ++ x))) p →
    with_piece (cut n) at (b ∷ (c ++ x)) p ≡ Err place → place < at + length (b ∷ c) → (with_piece (cut n) at (b ∷ (c ++ y)) p ≡ Err place) × (size_of p < length (b ∷ c))
stay n others at b c x y place lx ly (Gap size) w e less =
    let l = cut_least n (at + size) (drop size (b ∷ (c ++ x))) place e in
    let some : 1 ≤ size = w.0 in
    let small : size < length (b ∷ c) = omega arith in (
      subst (λ z. cut n (at + size) z ≡ Err place) (sym (drop-append-le size (b ∷ c) y (omega arith)))
          (others (at + size) (drop size (b ∷ c)) x y place
          (omega (arith, length-append (drop size (b ∷ c)) x, length-drop size (b ∷ c), length-append c x))
          (omega (arith, length-append (drop size (b ∷ c)) y, length-drop size (b ∷ c), length-append c y))
          (subst (λ z. cut n (at + size) z ≡ Err place) (drop-append-le size (b ∷ c) x (omega arith)) e)
          (omega (arith, length-drop size (b ∷ c)))),
      small,
    )
stay n others at b c x y place lx ly (Token kind size) w e less =
    let after = front_bad (token_at at (b ∷ (c ++ x)) kind size ∷ []) (cut n (at + size) (drop size (b ∷ (c ++ x)))) place e in
    let l = cut_least n (at + size) (drop size (b ∷ (c ++ x))) place after in
    let some : 1 ≤ size = w.0 in
    let small : size < length (b ∷ c) = omega arith in (
      ap (with_front (token_at at (b ∷ (c ++ y)) kind size ∷ [])) (subst (λ z. cut n (at + size) z ≡ Err place) (sym (drop-append-le size (b ∷ c) y (omega arith)))
          (others (at + size) (drop size (b ∷ c)) x y place
          (omega (arith, length-append (drop size (b ∷ c)) x, length-drop size (b ∷ c), length-append c x))
          (omega (arith, length-append (drop size (b ∷ c)) y, length-drop size (b ∷ c), length-append c y))
          (subst (λ z. cut n (at + size) z ≡ Err place) (drop-append-le size (b ∷ c) x (omega arith)) after)
          (omega (arith, length-drop size (b ∷ c))))),
      small,
    )
stay n others at b c x y place lx ly (Bad size) w e less = (e, let l = bad_same (at + size) place e in omega arith)

pub bad_stays : (n : ℕ) → BadStays n
bad_stays zero at [] x y place lx ly e less = absurd (let l = cut_least zero at x place e in omega arith)
bad_stays (suc n) at [] x y place lx ly e less = absurd (let l = cut_least (suc n) at x place e in omega arith)
bad_stays zero at (b ∷ c) x y place lx ly e less = absurd (omega arith)
bad_stays (suc n) at (b ∷ c) x y place lx ly e less =
    let s = stay n (bad_stays n) at b c x y place lx ly (piece_at (b ∷ (c ++ x))) (piece_within (b ∷ (c ++ x)) (omega arith)) e less in
    subst (λ p. with_piece (cut n) at (b ∷ (c ++ y)) p ≡ Err place) (sym (piece_local (b ∷ c) x y s.1)) s.0

pub none_goes_on : (bs : List ℕ) (at : ℕ) → tokens_of bs ≡ Err at → NoneGoesOn at bs
none_goes_on bs at e less more ts found =
    let whole = take-append-drop (at + 1) bs in
    let enough = length bs + length (take (at + 1) bs ++ more) in
    let given : cut enough 0 (take (at + 1) bs ++ drop (at + 1) bs) ≡ Err at = subst (λ z. cut enough 0 z ≡ Err at) (sym whole) (cut_enough enough (length bs) 0 bs (omega arith) (omega arith) ∙ e) in
    let stays = bad_stays enough 0 (take (at + 1) bs) (drop (at + 1) bs) more at (let l = ap length whole in omega arith) (omega arith) given
    (let l = length-take-le (at + 1) bs (omega arith) in omega arith) in
    neither at ts (sym stays ∙ (cut_enough enough (length (take (at + 1) bs ++ more)) 0 (take (at + 1) bs ++ more) (omega arith) (omega arith) ∙ found))
  where
    neither : (n : ℕ) (ts : List TokenSeen) → ◌≡◌ {A = Lexed} (Err n) (Ok ts) → ⊥
    neither n ts e = cc
