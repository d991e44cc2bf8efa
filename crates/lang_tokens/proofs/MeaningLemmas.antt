-- The piece at the front is what it is called.
use Rattle.std.proofs.Common.{◌≡◌, ℕ, zero, suc, subst, ◌+◌, ◌-◌, ◌*◌, ◌<◌, ◌≤◌, List, [], ◌∷◌, ◌++◌, length, take, drop, Bool, true, false, arith, refl, sym, ap, ◌∙◌, pos}
use Rattle.std.specs.Prelude.{◌==◌, ◌||◌, nat_lt, nat_le}
use Rattle.std.specs.Char.{is_ascii_digit}
use Rattle.std.specs.List.{list_any}
use Rattle.std.specs.Str.{bytes_eq}
use Rattle.std.proofs.lemmas.Bool.{eqb-true, eqb-false, leb-true, leb-false}
use Rattle.std.proofs.lemmas.List.{length-take-le}
use Rattle.std.proofs.lemmas.Slice.Eq.{bytes_eq-Decides}
use borrow.Author.Tests.{ltb-true}
use Rattle.lang_tokens.specs.declared.token.TokenKind.TheVariants.{Number, Text}
use Rattle.lang_tokens.specs.declared.piece.Piece.{Piece}
use Rattle.lang_tokens.specs.declared.piece.Piece.TheVariants.{Gap, Token, Bad}
use Rattle.lang_tokens.specs.Pieces.{kind_of_name, is_plain, is_escaped, is_lone_sign, is_comparing_sign, comment_at, name_at, number_at, text_at, escape_at}
use Rattle.page_values.specs.Names.{is_letter, is_name_byte}
use Rattle.lang_tokens.specs.Tokens.{value_of, value_of_escape}
use Rattle.lang_tokens.specs.Meaning.{AllBytes, decimal_after, is_held, parts_of, signs, is_sign, EndsLine, is_in_line}
use Rattle.lang_tokens.proofs.PieceLemmas.{Within, either, either_by, name_within, number_within}

pub not_false : false ≡ true → ⊥
not_false e = cc

pub clash : (b : Bool) → b ≡ true → b ≡ false → ⊥
clash b e f = not_false (sym f ∙ e)

pub by_test : {X : Type 0} (b : Bool) → (b ≡ true → X) → (b ≡ false → X) → X
by_test true p q = p refl
by_test false p q = q refl

-- at least so long, where it is a token
abbrev pub Reaches : ℕ → Piece → Type 0
Reaches k (Gap size) = Unit {0}
Reaches k (Token kind size) = k ≤ size
Reaches k (Bad size) = Unit {0}

pub Reaches-less : (k l : ℕ) (p : Piece) → l ≤ k → Reaches k p → Reaches l p
Reaches-less k l (Gap size) less h = tt
Reaches-less k l (Token kind size) less h = omega arith
Reaches-less k l (Bad size) less h = tt

pub Within-Reaches : (n m k : ℕ) (p : Piece) → k ≤ n → Within n m p → Reaches k p
Within-Reaches n m k (Gap size) less w = tt
Within-Reaches n m k (Token kind size) less w = let v : n ≤ size = w.0 in omega arith
Within-Reaches n m k (Bad size) less w = tt

-- names
abbrev pub NameMeans : List ℕ → ℕ → List ℕ → Piece → Type 0
NameMeans whole n bs (Gap size) = ⊥
NameMeans whole n bs (Token kind size) = (k : ℕ) × (size ≡ n + k) × (kind ≡ kind_of_name (take size whole)) × AllBytes is_name_byte (take k bs) × (k ≤ length bs) × (n ≤ 64 → size ≤ 64)
NameMeans whole n bs (Bad size) = Unit {0}

name_more : (whole : List ℕ) (n b : ℕ) (bs : List ℕ) → is_name_byte b ≡ true → n < 64 → (p : Piece) → NameMeans whole (n + 1) bs p → NameMeans whole n (b ∷ bs) p
name_more whole n b bs e less (Gap size) m = m
name_more whole n b bs e less (Token kind size) m = (suc m.0, omega arith, m.2, (e, m.3), omega arith, λ _. m.5 (omega arith))
name_more whole n b bs e less (Bad size) m = tt

pub name_means : (whole : List ℕ) (n : ℕ) (bs : List ℕ) → NameMeans whole n bs (name_at whole n bs)
name_means whole n [] = (0, omega arith, refl, tt, omega arith, λ h. h)
name_means whole n (b ∷ bs) = either_by (NameMeans whole n (b ∷ bs)) (is_name_byte b) _ _
    (λ e. either_by (NameMeans whole n (b ∷ bs)) (nat_lt n 64) _ _ (λ less. name_more whole n b bs e (ltb-true n 64 less) _ (name_means whole (n + 1) bs)) (λ _. tt))
    (λ _. (0, omega arith, refl, tt, omega arith, λ h. h))

pub name_reaches : (whole : List ℕ) (m : ℕ) (bs : List ℕ) (n : ℕ) → AllBytes is_name_byte (take n bs) → n ≤ length bs → Reaches (m + n) (name_at whole m bs)
name_reaches whole m [] n all within = omega arith
name_reaches whole m (b ∷ bs) zero all within = Within-Reaches m (m + length (b ∷ bs)) (m + 0) _ (omega arith) (name_within whole m (b ∷ bs))
name_reaches whole m (b ∷ bs) (suc n) all within = either_by (Reaches (m + suc n)) (is_name_byte b) _ _
    (λ _. either (Reaches (m + suc n)) (nat_lt m 64) _ _ (Reaches-less (m + 1 + n) (m + suc n) _ (omega arith) (name_reaches whole (m + 1) bs n all.1 (omega arith))) tt)
    (λ other. absurd (clash (is_name_byte b) all.0 other))

-- numbers
abbrev pub NumberMeans : ℕ → ℕ → List ℕ → Piece → Type 0
NumberMeans v n bs (Gap size) = ⊥
NumberMeans v n bs (Token kind size) = (k : ℕ) × (size ≡ n + k) × (kind ≡ Number (pos (decimal_after v (take k bs)))) × AllBytes is_ascii_digit (take k bs) × (k ≤ length bs) × (v ≤ 9223372036854775807 → decimal_after v (take k bs) ≤ 9223372036854775807)
NumberMeans v n bs (Bad size) = Unit {0}

number_more : (v n b : ℕ) (bs : List ℕ) → is_ascii_digit b ≡ true → v * 10 + (b - 48) ≤ 9223372036854775807 → (p : Piece) → NumberMeans (v * 10 + (b - 48)) (n + 1) bs p → NumberMeans v n (b ∷ bs) p
number_more v n b bs e less (Gap size) m = m
number_more v n b bs e less (Token kind size) m = (suc m.0, omega arith, m.2, (e, m.3), omega arith, λ _. m.5 less)
number_more v n b bs e less (Bad size) m = tt

pub number_means : (v n : ℕ) (bs : List ℕ) → NumberMeans v n bs (number_at v n bs)
number_means v n [] = (0, omega arith, refl, tt, omega arith, λ h. h)
number_means v n (b ∷ bs) = either_by (NumberMeans v n (b ∷ bs)) (is_ascii_digit b) _ _
    (λ e. either_by (NumberMeans v n (b ∷ bs)) (nat_le (v * 10 + (b - 48)) 9223372036854775807) _ _
    (λ less. number_more v n b bs e (leb-true (v * 10 + (b - 48)) 9223372036854775807 less) _ (number_means (v * 10 + (b - 48)) (n + 1) bs)) (λ _. tt))
    (λ _. (0, omega arith, refl, tt, omega arith, λ h. h))

pub number_reaches : (v m : ℕ) (bs : List ℕ) (n : ℕ) → AllBytes is_ascii_digit (take n bs) → n ≤ length bs → Reaches (m + n) (number_at v m bs)
number_reaches v m [] n all within = omega arith
number_reaches v m (b ∷ bs) zero all within = Within-Reaches m (m + length (b ∷ bs)) (m + 0) _ (omega arith) (number_within v m (b ∷ bs))
number_reaches v m (b ∷ bs) (suc n) all within = either_by (Reaches (m + suc n)) (is_ascii_digit b) _ _
    (λ _. either (Reaches (m + suc n)) (nat_le (v * 10 + (b - 48)) 9223372036854775807) _ _
    (Reaches-less (m + 1 + n) (m + suc n) _ (omega arith) (number_reaches (v * 10 + (b - 48)) (m + 1) bs n all.1 (omega arith))) tt)
    (λ other. absurd (clash (is_ascii_digit b) all.0 other))

-- texts
escaped_cases : (P : ℕ → Type 0) (b : ℕ) → is_escaped b ≡ true → P 34 → P 92 → P 110 → P b
escaped_cases P b e p q r = by_test (b == 34) (λ f. subst P (sym (eqb-true b 34 f)) p) (λ f.
    by_test (b == 92) (λ g. subst P (sym (eqb-true b 92 g)) q) (λ g.
    by_test (b == 110) (λ h. subst P (sym (eqb-true b 110 h)) r) (λ h. absurd (none (b == 34) (b == 92) (b == 110) f g h e))))
  where
    none : (x y z : Bool) → x ≡ false → y ≡ false → z ≡ false → (x || y || z) ≡ true → ⊥
    none true y z f g h e = not_false (sym f)
    none false true z f g h e = not_false (sym g)
    none false false z f g h e = clash z e h

value_plain : (b : ℕ) (bs : List ℕ) → (b == 34) ≡ false → (b == 92) ≡ false → value_of (b ∷ bs) ≡ b ∷ value_of bs
value_plain b bs e f = rw (e, f) refl

parts_quote : (b : ℕ) (bs : List ℕ) → (b == 34) ≡ true → parts_of (b ∷ bs) ≡ 92 ∷ 34 ∷ parts_of bs
parts_quote b bs e = rw e refl

parts_backslash : (b : ℕ) (bs : List ℕ) → (b == 34) ≡ false → (b == 92) ≡ true → parts_of (b ∷ bs) ≡ 92 ∷ 92 ∷ parts_of bs
parts_backslash b bs e f = rw (e, f) refl

parts_line : (b : ℕ) (bs : List ℕ) → (b == 34) ≡ false → (b == 92) ≡ false → (b == 10) ≡ true → parts_of (b ∷ bs) ≡ 92 ∷ 110 ∷ parts_of bs
parts_line b bs e f g = rw (e, f, g) refl

parts_plain : (b : ℕ) (bs : List ℕ) → (b == 34) ≡ false → (b == 92) ≡ false → (b == 10) ≡ false → parts_of (b ∷ bs) ≡ b ∷ parts_of bs
parts_plain b bs e f g = rw (e, f, g) refl

plain_no_line : (b : ℕ) → is_plain b ≡ true → (b == 10) ≡ false
plain_no_line b e = by_test (b == 10) (λ f. absurd (not_false (subst (λ x. is_plain x ≡ true) (eqb-true b 10 f) e))) (λ f. f)

plain_held : (b : ℕ) → is_plain b ≡ true → is_held b ≡ true
plain_held b e = from (is_plain b) (b == 34) (b == 92) (b == 10) e
  where
    from : (x y z w : Bool) → x ≡ true → (x || y || z || w) ≡ true
    from true y z w e = refl
    from false y z w e = absurd (not_false e)

-- the rest of a text is these parts and `"`
pub record Parts (bs : List ℕ) (value : List ℕ) (k : ℕ) (v : ℕ) : Type 0 where
  pub spelled : take k bs ≡ parts_of value ++ 34 ∷ []
  pub held : AllBytes is_held value
  pub within : k ≤ length bs
  pub small : v ≤ 65535 → v + length value ≤ 65535

abbrev pub TextMeans : ℕ → ℕ → List ℕ → Piece → Type 0
TextMeans v n bs (Gap size) = ⊥
TextMeans v n bs (Token kind size) = (k : ℕ) × (size ≡ n + k) × (kind ≡ Text) × Parts bs (value_of (take k bs)) k v
TextMeans v n bs (Bad size) = Unit {0}

-- the same after a `\`
pub record PartsBehind (bs : List ℕ) (value : List ℕ) (k : ℕ) (v : ℕ) : Type 0 where
  pub spelled : 92 ∷ take k bs ≡ parts_of value ++ 34 ∷ []
  pub held : AllBytes is_held value
  pub within : k ≤ length bs
  pub small : v < 65535 → v + length value ≤ 65535

abbrev pub EscapeMeans : ℕ → ℕ → List ℕ → Piece → Type 0
EscapeMeans v n bs (Gap size) = ⊥
EscapeMeans v n bs (Token kind size) = (k : ℕ) × (size ≡ n + k) × (kind ≡ Text) × PartsBehind bs (value_of_escape (take k bs)) k v
EscapeMeans v n bs (Bad size) = Unit {0}

text_end : (v n : ℕ) (bs : List ℕ) → TextMeans v n (34 ∷ bs) (Token Text (n + 1))
text_end v n bs = (1, refl, refl, record { spelled = refl; held = tt; within = omega arith; small = λ h. omega arith })

text_plain : (v n b : ℕ) (bs : List ℕ) → (b == 34) ≡ false → (b == 92) ≡ false → is_plain b ≡ true → v < 65535 → (p : Piece) → TextMeans (v + 1) (n + 1) bs p → TextMeans v n (b ∷ bs) p
text_plain v n b bs e f plain less (Gap size) m = m
text_plain v n b bs e f plain less (Token kind size) m = (
  suc m.0,
  omega arith,
  m.2,
  subst (λ value. Parts (b ∷ bs) value (suc m.0) v) (sym (value_plain b (take m.0 bs) e f)) (record {
    spelled = ap (λ z. b ∷ z) m.3.spelled ∙ ap (λ z. z ++ 34 ∷ []) (sym (parts_plain b (value_of (take m.0 bs)) e f (plain_no_line b plain)));
    held = (plain_held b plain, m.3.held);
    within = let w = m.3.within in omega arith;
    small = λ _. let s = m.3.small (omega arith) in omega arith;
  }),
)
text_plain v n b bs e f plain less (Bad size) m = tt

text_escape : (v n : ℕ) (bs : List ℕ) → v < 65535 → (p : Piece) → EscapeMeans v (n + 1) bs p → TextMeans v n (92 ∷ bs) p
text_escape v n bs less (Gap size) m = m
text_escape v n bs less (Token kind size) m = (
  suc m.0,
  omega arith,
  m.2,
  record {
    spelled = m.3.spelled;
    held = m.3.held;
    within = let w = m.3.within in omega arith;
    small = λ _. m.3.small less;
  },
)
text_escape v n bs less (Bad size) m = tt

abbrev pub EscapeOf : ℕ → ℕ → List ℕ → Piece → ℕ → Type 0
EscapeOf v n bs p b = EscapeMeans v n (b ∷ bs) p

escape_more : (v n b : ℕ) (bs : List ℕ) → is_escaped b ≡ true → (p : Piece) → TextMeans (v + 1) (n + 1) bs p → EscapeMeans v n (b ∷ bs) p
escape_more v n b bs e (Gap size) m = m
escape_more v n b bs e (Token kind size) m = escaped_cases (EscapeOf v n bs (Token kind size)) b e (
  suc m.0,
  omega arith,
  m.2,
  record {
    spelled = ap (λ z. 92 ∷ 34 ∷ z) m.3.spelled;
    held = (refl, m.3.held);
    within = let w = m.3.within in omega arith;
    small = λ less. let s = m.3.small (omega arith) in omega arith;
  },
) (
  suc m.0,
  omega arith,
  m.2,
  record {
    spelled = ap (λ z. 92 ∷ 92 ∷ z) m.3.spelled;
    held = (refl, m.3.held);
    within = let w = m.3.within in omega arith;
    small = λ less. let s = m.3.small (omega arith) in omega arith;
  },
) (
  suc m.0,
  omega arith,
  m.2,
  record {
    spelled = ap (λ z. 92 ∷ 110 ∷ z) m.3.spelled;
    held = (refl, m.3.held);
    within = let w = m.3.within in omega arith;
    small = λ less. let s = m.3.small (omega arith) in omega arith;
  },
)
escape_more v n b bs e (Bad size) m = tt

mutual
  pub text_means : (v n : ℕ) (bs : List ℕ) → TextMeans v n bs (text_at v n bs)
  text_means v n [] = tt
  text_means v n (b ∷ bs) = either_by (TextMeans v n (b ∷ bs)) (b == 34) _ _
      (λ e. subst (λ x. TextMeans v n (x ∷ bs) (Token Text (n + 1))) (sym (eqb-true b 34 e)) (text_end v n bs)) (λ e.
      either_by (TextMeans v n (b ∷ bs)) (nat_le 65535 v) _ _ (λ _. tt) (λ full.
      either_by (TextMeans v n (b ∷ bs)) (b == 92) _ _
      (λ f. subst (λ x. TextMeans v n (x ∷ bs) (escape_at v (n + 1) bs)) (sym (eqb-true b 92 f)) (text_escape v n bs (leb-false 65535 v full) _ (escape_means v (n + 1) bs))) (λ f.
      either_by (TextMeans v n (b ∷ bs)) (is_plain b) _ _ (λ plain. text_plain v n b bs e f plain (leb-false 65535 v full) _ (text_means (v + 1) (n + 1) bs)) (λ _. tt))))

  escape_means : (v n : ℕ) (bs : List ℕ) → EscapeMeans v n bs (escape_at v n bs)
  escape_means v n [] = tt
  escape_means v n (b ∷ bs) = either_by (EscapeMeans v n (b ∷ bs)) (is_escaped b) _ _ (λ e. escape_more v n b bs e _ (text_means (v + 1) (n + 1) bs)) (λ _. tt)

-- a text of this value has been read where there is one
abbrev pub ReadTo : List ℕ → Type 0
ReadTo value = (v m : ℕ) (bs : List ℕ) (n : ℕ) → take n bs ≡ parts_of value ++ 34 ∷ [] → n ≤ length bs → Reaches (m + n) (text_at v m bs)

end_reaches : (v m : ℕ) (bs : List ℕ) (n : ℕ) → take n bs ≡ 34 ∷ [] → n ≤ length bs → Reaches (m + n) (text_at v m bs)
end_reaches v m bs zero e within = absurd (cc)
end_reaches v m [] (suc n) e within = absurd (omega arith)
end_reaches v m (b ∷ bs) (suc n) e within =
    let front : b ≡ 34 = cc in let rest : take n bs ≡ [] = cc in let none : n ≡ 0 = omega (arith, length-take-le n bs (omega arith), ap length rest) in
    either_by (Reaches (m + suc n)) (b == 34) _ _ (λ _. omega arith) (λ other. absurd (eqb-false b 34 other front))

escape_reaches : (value : List ℕ) → ReadTo value → (x : ℕ) → is_escaped x ≡ true → (v m : ℕ) (bs : List ℕ) (n : ℕ) →
    take n bs ≡ 92 ∷ x ∷ (parts_of value ++ 34 ∷ []) → n ≤ length bs → Reaches (m + n) (text_at v m bs)
escape_reaches value rest x escaped v m bs zero e within = absurd (cc)
escape_reaches value rest x escaped v m [] (suc n) e within = absurd (omega arith)
escape_reaches value rest x escaped v m (b ∷ bs) (suc zero) e within = absurd (cc)
escape_reaches value rest x escaped v m (b ∷ []) (suc (suc n)) e within = absurd (omega arith)
escape_reaches value rest x escaped v m (b ∷ c ∷ bs) (suc (suc n)) e within =
    let front : b ≡ 92 = cc in let next : c ≡ x = cc in let others : take n bs ≡ parts_of value ++ 34 ∷ [] = cc in
    either_by (Reaches (m + suc (suc n))) (b == 34) _ _ (λ quote. absurd (not_false (subst (λ z. (z == 34) ≡ true) front quote))) (λ _.
    either (Reaches (m + suc (suc n))) (nat_le 65535 v) _ _ tt
    (either_by (Reaches (m + suc (suc n))) (b == 92) _ _ (λ _.
    either_by (Reaches (m + suc (suc n))) (is_escaped c) _ _
    (λ _. Reaches-less (m + 1 + 1 + n) (m + suc (suc n)) _ (omega arith) (rest (v + 1) (m + 1 + 1) bs n others (omega arith)))
    (λ other. absurd (clash (is_escaped c) (subst (λ z. is_escaped z ≡ true) (sym next) escaped) other)))
    (λ other. absurd (eqb-false b 92 other front))))

plain_reaches : (value : List ℕ) → ReadTo value → (x : ℕ) → (x == 34) ≡ false → (x == 92) ≡ false → is_plain x ≡ true → (v m : ℕ) (bs : List ℕ) (n : ℕ) →
    take n bs ≡ x ∷ (parts_of value ++ 34 ∷ []) → n ≤ length bs → Reaches (m + n) (text_at v m bs)
plain_reaches value rest x no_quote no_backslash plain v m bs zero e within = absurd (cc)
plain_reaches value rest x no_quote no_backslash plain v m [] (suc n) e within = absurd (omega arith)
plain_reaches value rest x no_quote no_backslash plain v m (b ∷ bs) (suc n) e within =
    let front : b ≡ x = cc in let others : take n bs ≡ parts_of value ++ 34 ∷ [] = cc in
    either_by (Reaches (m + suc n)) (b == 34) _ _ (λ quote. absurd (clash (x == 34) (subst (λ z. (z == 34) ≡ true) front quote) no_quote)) (λ _.
    either (Reaches (m + suc n)) (nat_le 65535 v) _ _ tt
    (either_by (Reaches (m + suc n)) (b == 92) _ _ (λ backslash. absurd (clash (x == 92) (subst (λ z. (z == 92) ≡ true) front backslash) no_backslash)) (λ _.
    either_by (Reaches (m + suc n)) (is_plain b) _ _
    (λ _. Reaches-less (m + 1 + n) (m + suc n) _ (omega arith) (rest (v + 1) (m + 1) bs n others (omega arith)))
    (λ other. absurd (clash (is_plain b) (subst (λ z. is_plain z ≡ true) (sym front) plain) other)))))

pub held_plain : (x y z w : Bool) → (x || y || z || w) ≡ true → y ≡ false → z ≡ false → w ≡ false → x ≡ true
held_plain true y z w e f g h = refl
held_plain false true z w e f g h = sym f
held_plain false false true w e f g h = sym g
held_plain false false false w e f g h = absurd (clash w e h)

pub text_reaches : (value : List ℕ) → AllBytes is_held value → ReadTo value
text_reaches [] held v m bs n e within = end_reaches v m bs n e within
text_reaches (x ∷ value) held v m bs n e within =
    by_test (x == 34) (λ quote. escape_reaches value (text_reaches value held.1) 34 refl v m bs n (e ∙ ap (λ z. z ++ 34 ∷ []) (parts_quote x value quote)) within) (λ no_quote.
    by_test (x == 92) (λ backslash. escape_reaches value (text_reaches value held.1) 92 refl v m bs n (e ∙ ap (λ z. z ++ 34 ∷ []) (parts_backslash x value no_quote backslash)) within) (λ no_backslash.
    by_test (x == 10) (λ line. escape_reaches value (text_reaches value held.1) 110 refl v m bs n (e ∙ ap (λ z. z ++ 34 ∷ []) (parts_line x value no_quote no_backslash line)) within) (λ no_line.
    plain_reaches value (text_reaches value held.1) x no_quote no_backslash (held_plain (is_plain x) (x == 34) (x == 92) (x == 10) held.0 no_quote no_backslash no_line) v m bs n
    (e ∙ ap (λ z. z ++ 34 ∷ []) (parts_plain x value no_quote no_backslash no_line)) within)))

-- comments
abbrev pub CommentMeans : ℕ → List ℕ → Piece → Type 0
CommentMeans n bs (Gap size) = (k : ℕ) × (size ≡ n + k) × AllBytes is_in_line (take k bs) × (k ≤ length bs) × EndsLine (drop k bs)
CommentMeans n bs (Token kind size) = ⊥
CommentMeans n bs (Bad size) = ⊥

comment_more : (n b : ℕ) (bs : List ℕ) → is_in_line b ≡ true → (p : Piece) → CommentMeans (n + 1) bs p → CommentMeans n (b ∷ bs) p
comment_more n b bs e (Gap size) m = (suc m.0, omega arith, (e, m.2), omega arith, m.4)
comment_more n b bs e (Token kind size) m = m
comment_more n b bs e (Bad size) m = m

pub comment_means : (n : ℕ) (bs : List ℕ) → CommentMeans n bs (comment_at n bs)
comment_means n [] = (0, omega arith, tt, omega arith, tt)
comment_means n (b ∷ bs) = either_by (CommentMeans n (b ∷ bs)) (b == 10) _ _ (λ e. (0, omega arith, tt, omega arith, eqb-true b 10 e))
    (λ e. comment_more n b bs (rw e refl) _ (comment_means (n + 1) bs))

-- what holds of each item holds of one that is listed
abbrev pub OfEach : (List ℕ → Type 0) → List (List ℕ) → Type 0
OfEach P [] = Unit {0}
OfEach P (s ∷ ss) = P s × OfEach P ss

listed : (P : List ℕ → Type 0) (spelling : List ℕ) (ss : List (List ℕ)) → list_any (λ s. bytes_eq s spelling) ss ≡ true → OfEach P ss → P spelling
listed P spelling [] e each = absurd (not_false e)
listed P spelling (s ∷ ss) e each = by_test (bytes_eq s spelling)
    (λ same. subst P ((bytes_eq-Decides s spelling).0 same) each.0)
    (λ other. listed P spelling ss (skip (bytes_eq s spelling) (list_any (λ t. bytes_eq t spelling) ss) other e) each.1)
  where
    skip : (x y : Bool) → x ≡ false → (x || y) ≡ true → y ≡ true
    skip true y f e = absurd (not_false (sym f))
    skip false y f e = e

abbrev pub OfEachByte : (ℕ → Type 0) → List ℕ → Type 0
OfEachByte P [] = Unit {0}
OfEachByte P (b ∷ bs) = P b × OfEachByte P bs

pub listed_byte : (P : ℕ → Type 0) (b : ℕ) (bs : List ℕ) → list_any (λ c. c == b) bs ≡ true → OfEachByte P bs → P b
listed_byte P b [] e each = absurd (not_false e)
listed_byte P b (c ∷ bs) e each = by_test (c == b)
    (λ same. subst P (eqb-true c b same) each.0)
    (λ other. listed_byte P b bs (skip (c == b) (list_any (λ d. d == b) bs) other e) each.1)
  where
    skip : (x y : Bool) → x ≡ false → (x || y) ≡ true → y ≡ true
    skip true y f e = absurd (not_false (sym f))
    skip false y f e = e

abbrev pub front_of : List ℕ → ℕ
front_of [] = 0
front_of (b ∷ bs) = b

abbrev pub second_of : List ℕ → ℕ
second_of [] = 0
second_of (b ∷ []) = 0
second_of (b ∷ c ∷ bs) = c

pub sign_no_letter : (s : List ℕ) → is_sign s ≡ true → is_letter (front_of s) ≡ false
sign_no_letter s e = listed (λ t. is_letter (front_of t) ≡ false) s signs e (refl, (refl, (refl, (refl, (refl, (refl, (refl, (refl, (refl, (refl, (refl, (refl, (refl, (refl, (refl, (refl, (refl, (refl, (refl, (refl, (refl, (refl, (refl, tt)))))))))))))))))))))))

pub sign_no_digit : (s : List ℕ) → is_sign s ≡ true → is_ascii_digit (front_of s) ≡ false
sign_no_digit s e = listed (λ t. is_ascii_digit (front_of t) ≡ false) s signs e (refl, (refl, (refl, (refl, (refl, (refl, (refl, (refl, (refl, (refl, (refl, (refl, (refl, (refl, (refl, (refl, (refl, (refl, (refl, (refl, (refl, (refl, (refl, tt)))))))))))))))))))))))

pub sign_no_quote : (s : List ℕ) → is_sign s ≡ true → (front_of s == 34) ≡ false
sign_no_quote s e = listed (λ t. (front_of t == 34) ≡ false) s signs e (refl, (refl, (refl, (refl, (refl, (refl, (refl, (refl, (refl, (refl, (refl, (refl, (refl, (refl, (refl, (refl, (refl, (refl, (refl, (refl, (refl, (refl, (refl, tt)))))))))))))))))))))))

pub sign_short : (s : List ℕ) → is_sign s ≡ true → length s ≤ 2
sign_short s e = listed (λ t. length t ≤ 2) s signs e (omega arith, (omega arith, (omega arith, (omega arith, (omega arith, (omega arith, (omega arith, (omega arith, (omega arith, (omega arith, (omega arith, (omega arith, (omega arith, (omega arith, (omega arith, (omega arith, (omega arith, (omega arith, (omega arith, (omega arith, (omega arith, (omega arith, (omega arith, tt)))))))))))))))))))))))

pub lone_sign_short : (s : List ℕ) → is_sign s ≡ true → is_lone_sign (front_of s) ≡ true → length s ≤ 1
lone_sign_short s e = listed (λ t. is_lone_sign (front_of t) ≡ true → length t ≤ 1) s signs e (λ e. omega arith, (λ e. omega arith, (λ e. omega arith, (λ e. omega arith, (λ e. omega arith, (λ e. omega arith, (λ e. omega arith, (λ e. omega arith, (λ e. absurd (not_false e), (λ e. absurd (not_false e), (λ e. absurd (not_false e), (λ e. absurd (not_false e), (λ e. absurd (not_false e), (λ e. absurd (not_false e), (λ e. absurd (not_false e), (λ e. omega arith, (λ e. omega arith, (λ e. omega arith, (λ e. omega arith, (λ e. omega arith, (λ e. absurd (not_false e), (λ e. absurd (not_false e), (λ e. absurd (not_false e), tt)))))))))))))))))))))))

pub comparing_sign_short : (s : List ℕ) → is_sign s ≡ true → is_comparing_sign (front_of s) ≡ true → (second_of s == 61) ≡ false → length s ≤ 1
comparing_sign_short s e = listed (λ t. is_comparing_sign (front_of t) ≡ true → (second_of t == 61) ≡ false → length t ≤ 1) s signs e (λ e f. omega arith, (λ e f. omega arith, (λ e f. omega arith, (λ e f. omega arith, (λ e f. omega arith, (λ e f. omega arith, (λ e f. omega arith, (λ e f. omega arith, (λ e f. omega arith, (λ e f. absurd (not_false (sym f)), (λ e f. absurd (not_false (sym f)), (λ e f. omega arith, (λ e f. absurd (not_false (sym f)), (λ e f. omega arith, (λ e f. absurd (not_false (sym f)), (λ e f. omega arith, (λ e f. omega arith, (λ e f. omega arith, (λ e f. omega arith, (λ e f. omega arith, (λ e f. omega arith, (λ e f. absurd (not_false e), (λ e f. absurd (not_false e), tt)))))))))))))))))))))))
