-- A piece lies in the bytes, and has one at least.
use Rattle.std.proofs.Common.{◌≡◌, ℕ, suc, subst, ◌+◌, ◌-◌, ◌*◌, ◌<◌, ◌≤◌, List, [], ◌∷◌, length, Bool, true, false, arith, refl}
use Rattle.std.specs.Prelude.{if◌then◌else◌, ◌==◌, ◌&&◌, ◌||◌, nat_lt, nat_le}
use Rattle.std.specs.Char.{is_ascii_digit}
use Rattle.lang_tokens.specs.declared.piece.Piece.{Piece}
use Rattle.lang_tokens.specs.declared.piece.Piece.TheVariants.{Gap, Token, Bad}
use Rattle.lang_tokens.specs.Pieces.{piece_at, sign_at, first, is_byte, is_blank, is_plain, is_escaped, is_lone_sign, is_comparing_sign, comment_at, name_at, number_at, text_at, escape_at}
use Rattle.page_values.specs.Names.{is_letter, is_name_byte}

-- the size is from n to m
abbrev pub Within : ℕ → ℕ → Piece → Type 0
Within n m (Gap size) = (n ≤ size) × (size ≤ m)
Within n m (Token kind size) = (n ≤ size) × (size ≤ m)
Within n m (Bad size) = size ≤ m

pub either : (P : Piece → Type 0) (b : Bool) (x y : Piece) → P x → P y → P (if b then x else y)
either P true x y p q = p
either P false x y p q = q

pub either_by : (P : Piece → Type 0) (b : Bool) (x y : Piece) → (b ≡ true → P x) → (b ≡ false → P y) → P (if b then x else y)
either_by P true x y p q = p refl
either_by P false x y p q = q refl

or_not : (a b : Bool) → a ≡ true → (a || b) ≡ false → ⊥
or_not true b e f = cc
or_not false b e f = cc

Within-suc : (n m : ℕ) (x : Piece) → Within (n + 1) (n + 1 + m) x → Within n (n + suc m) x
Within-suc n m (Gap size) h = (omega arith, omega arith)
Within-suc n m (Token kind size) h = (omega arith, omega arith)
Within-suc n m (Bad size) h = omega arith

comment_within : (n : ℕ) (bs : List ℕ) → Within n (n + length bs) (comment_at n bs)
comment_within n [] = (omega arith, omega arith)
comment_within n (b ∷ bs) = either (Within n (n + length (b ∷ bs))) (b == 10) _ _ (omega arith, omega arith) (Within-suc n (length bs) _ (comment_within (n + 1) bs))

pub name_within : (whole : List ℕ) (n : ℕ) (bs : List ℕ) → Within n (n + length bs) (name_at whole n bs)
name_within whole n [] = (omega arith, omega arith)
name_within whole n (b ∷ bs) = either (Within n (n + length (b ∷ bs))) (is_name_byte b) _ _
    (either (Within n (n + length (b ∷ bs))) (nat_lt n 64) _ _ (Within-suc n (length bs) _ (name_within whole (n + 1) bs)) (omega arith)) (omega arith, omega arith)

first_name_within : (b : ℕ) (bs : List ℕ) → is_letter b ≡ true → Within 1 (1 + length bs) (name_at (b ∷ bs) 0 (b ∷ bs))
first_name_within b bs letter = either_by (Within 1 (1 + length bs)) (is_name_byte b) _ _
    (λ _. name_within (b ∷ bs) 1 bs) (λ other. absurd (or_not (is_letter b) (is_ascii_digit b) letter other))

pub number_within : (v n : ℕ) (bs : List ℕ) → Within n (n + length bs) (number_at v n bs)
number_within v n [] = (omega arith, omega arith)
number_within v n (b ∷ bs) = either (Within n (n + length (b ∷ bs))) (is_ascii_digit b) _ _
    (either (Within n (n + length (b ∷ bs))) (nat_le (v * 10 + (b - 48)) 9223372036854775807) _ _ (Within-suc n (length bs) _ (number_within (v * 10 + (b - 48)) (n + 1) bs)) (omega arith)) (omega arith, omega arith)

mutual
  pub text_within : (v n : ℕ) (bs : List ℕ) → Within n (n + length bs) (text_at v n bs)
  text_within v n [] = omega arith
  text_within v n (b ∷ bs) = either (Within n (n + length (b ∷ bs))) (b == 34) _ _ (omega arith, omega arith)
      (either (Within n (n + length (b ∷ bs))) (nat_le 65535 v) _ _ (omega arith)
      (either (Within n (n + length (b ∷ bs))) (b == 92) _ _ (Within-suc n (length bs) _ (escape_within v (n + 1) bs))
      (either (Within n (n + length (b ∷ bs))) (is_plain b) _ _ (Within-suc n (length bs) _ (text_within (v + 1) (n + 1) bs)) (omega arith))))

  escape_within : (v n : ℕ) (bs : List ℕ) → Within n (n + length bs) (escape_at v n bs)
  escape_within v n [] = omega arith
  escape_within v n (b ∷ bs) = either (Within n (n + length (b ∷ bs))) (is_escaped b) _ _ (Within-suc n (length bs) _ (text_within (v + 1) (n + 1) bs)) (omega arith)

-- a sign of two bytes has two
sign_within : (b : ℕ) (bs : List ℕ) → Within 1 (1 + length bs) (sign_at b (first bs))
sign_within b [] =
    either (Within 1 1) (is_lone_sign b) _ _ (omega arith, omega arith) (either (Within 1 1) (is_comparing_sign b) _ _ (omega arith, omega arith)
    (either (Within 1 1) (b == 38 || b == 124) _ _ (omega arith) (omega arith)))
sign_within b (c ∷ bs) =
    either (Within 1 (1 + suc (length bs))) (is_lone_sign b) _ _ (omega arith, omega arith) (either (Within 1 (1 + suc (length bs))) (is_comparing_sign b) _ _
    (either (Within 1 (1 + suc (length bs))) (c == 61) _ _ (omega arith, omega arith) (omega arith, omega arith))
    (either (Within 1 (1 + suc (length bs))) (b == 38 || b == 124) _ _ (either (Within 1 (1 + suc (length bs))) (c == b) _ _ (omega arith, omega arith) (omega arith)) (omega arith)))

pub piece_within : (bs : List ℕ) → 0 < length bs → Within 1 (length bs) (piece_at bs)
piece_within [] h = absurd (omega arith)
piece_within (b ∷ bs) h = subst (λ m. Within 1 m (piece_at (b ∷ bs))) (one bs)
    (either (Within 1 (1 + length bs)) (is_blank b) _ _ (omega arith, omega arith)
    (either (Within 1 (1 + length bs)) (b == 47 && is_byte (first bs) 47) _ _ (comment_within 1 bs)
    (either_by (Within 1 (1 + length bs)) (is_letter b) _ _ (first_name_within b bs) (λ _.
    either (Within 1 (1 + length bs)) (is_ascii_digit b) _ _ (number_within (b - 48) 1 bs)
    (either (Within 1 (1 + length bs)) (b == 34) _ _ (text_within 0 1 bs) (sign_within b bs))))))
  where
    one : (bs : List ℕ) → 1 + length bs ≡ suc (length bs)
    one bs = omega arith
