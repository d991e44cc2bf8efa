-- A script with tokens is read as these, with gaps between them.
use Rattle.std.proofs.Common.{◌≡◌, ℕ, zero, suc, subst, ◌+◌, ◌-◌, ◌*◌, ◌<◌, ◌≤◌, List, [], ◌∷◌, ◌++◌, length, take, drop, Bool, true, false, Ok, Err, arith, refl, sym, ap, ◌∙◌, inl, inr, ◌⊎◌, pos, length-drop}
use Rattle.std.specs.Prelude.{if◌then◌else◌, ◌==◌, ◌&&◌, ◌||◌, nat_le, codes}
use Rattle.std.specs.Char.{is_ascii_digit}
use Rattle.std.proofs.lemmas.Bool.{eqb-true, eqb-false, leb-true}
use Rattle.std.proofs.lemmas.List.{length-take-le}
use Rattle.lang_tokens.specs.Seen.{TokenSeen}
use Rattle.lang_tokens.specs.declared.token.TokenKind.{TokenKind}
use Rattle.lang_tokens.specs.declared.token.TokenKind.TheVariants.{Name, Word, Number, Text, Sign}
use Rattle.lang_tokens.specs.declared.piece.Piece.{Piece}
use Rattle.lang_tokens.specs.declared.piece.Piece.TheVariants.{Gap, Token, Bad}
use Rattle.lang_tokens.specs.Pieces.{piece_at, sign_at, first, is_byte, is_blank, is_word, kind_of_name, is_lone_sign, is_comparing_sign, comment_at, name_at}
use Rattle.page_values.specs.Names.{is_letter, is_name_byte}
use Rattle.lang_tokens.specs.Tokens.{Lexed, content_of, value_of, token_at, with_front, with_piece, cut, tokens_of}
use Rattle.lang_tokens.specs.Meaning.{AllBytes, IsNameSpelling, decimal_after, is_held, parts_of, is_sign, IsToken, BeginsComment, IsComment, BeginsBlank, IsFirstToken, Reading, ended, blank, comment, token}
use Rattle.lang_tokens.proofs.PieceLemmas.{Within, piece_within, either, either_by}
use Rattle.lang_tokens.proofs.MeaningLemmas.{not_false, clash, by_test, Reaches, NameMeans, name_means, name_reaches, NumberMeans, number_means, number_reaches, TextMeans, text_means, text_reaches, CommentMeans, comment_means, listed_byte, sign_no_letter, sign_no_digit, sign_no_quote, sign_short, lone_sign_short, comparing_sign_short}

-- the piece is what stands at the front
abbrev pub FirstOf : List ℕ → Piece → Type 0
FirstOf bs (Gap size) = ((size ≡ 1) × BeginsBlank bs) ⊎ IsComment size bs
FirstOf bs (Token kind size) = IsFirstToken kind (content_of kind (take size bs)) size bs
FirstOf bs (Bad size) = Unit {0}

or_left : (x y : Bool) → x ≡ true → (x || y) ≡ true
or_left true y e = refl
or_left false y e = absurd (not_false e)

or_right : (x y : Bool) → y ≡ true → (x || y) ≡ true
or_right true y e = refl
or_right false y e = e

and_left : (x y : Bool) → (x && y) ≡ true → x ≡ true
and_left true y e = refl
and_left false y e = e

and_right : (x y : Bool) → (x && y) ≡ true → y ≡ true
and_right true y e = e
and_right false y e = absurd (not_false e)

names_from_digits : (s : List ℕ) → AllBytes is_ascii_digit s → AllBytes is_name_byte s
names_from_digits [] all = tt
names_from_digits (b ∷ bs) all = (or_right (is_letter b) (is_ascii_digit b) all.0, names_from_digits bs all.1)

no_comment_by : (b : ℕ) (bs : List ℕ) → (b == 47 && is_byte (first bs) 47) ≡ false → BeginsComment (b ∷ bs) → ⊥
no_comment_by b [] e begins = cc
no_comment_by b (c ∷ bs) e begins =
    let front : b ≡ 47 = cc in let next : c ≡ 47 = cc in
    not_false (sym (subst (λ y. (47 == 47 && y == 47) ≡ false) next (subst (λ x. (x == 47 && c == 47) ≡ false) front e)))

comment_first : (bs : List ℕ) (p : Piece) → CommentMeans 1 (47 ∷ bs) p → FirstOf (47 ∷ 47 ∷ bs) p
comment_first bs (Gap size) m =
    let e : size ≡ suc m.0 = omega arith in
    inr (subst (λ s. IsComment s (47 ∷ 47 ∷ bs)) (sym e) (record { within = omega arith; begins = refl; in_line = (refl, m.2); ends = m.4 }))
comment_first bs (Token kind size) m = absurd m
comment_first bs (Bad size) m = tt

first_comment : (b : ℕ) (bs : List ℕ) → (b == 47 && is_byte (first bs) 47) ≡ true → FirstOf (b ∷ bs) (comment_at 1 bs)
first_comment b [] e = absurd (not_false (and_right (b == 47) false e))
first_comment b (c ∷ bs) e =
    subst (λ x. FirstOf (x ∷ c ∷ bs) (comment_at 1 (c ∷ bs))) (sym (eqb-true b 47 (and_left (b == 47) (c == 47) e)))
    (subst (λ y. FirstOf (47 ∷ y ∷ bs) (comment_at 1 (y ∷ bs))) (sym (eqb-true c 47 (and_right (b == 47) (c == 47) e)))
    (comment_first bs _ (comment_means 1 (47 ∷ bs))))

-- no token is longer, given this of each kind
first_longest : (b : ℕ) (bs : List ℕ) (size : ℕ) →
    ((n : ℕ) → is_letter b ≡ true → AllBytes is_name_byte (take n bs) → n ≤ length bs → suc n ≤ size) →
    ((n : ℕ) → is_ascii_digit b ≡ true → AllBytes is_ascii_digit (take n bs) → n ≤ length bs → suc n ≤ size) →
    ((n : ℕ) (value : List ℕ) → b ≡ 34 → take n bs ≡ parts_of value ++ 34 ∷ [] → AllBytes is_held value → n ≤ length bs → suc n ≤ size) →
    ((n : ℕ) → is_sign (b ∷ take n bs) ≡ true → n ≤ length bs → suc n ≤ size) →
    (n : ℕ) (other : TokenKind) (held : List ℕ) → n ≤ length (b ∷ bs) → IsToken other held (take n (b ∷ bs)) → n ≤ size
first_longest b bs size names numbers texts signs zero other held within t = omega arith
first_longest b bs size names numbers texts signs (suc n) Name held within t = names n t.0.0 t.0.1 (omega arith)
first_longest b bs size names numbers texts signs (suc n) Word held within t = names n t.0.0 t.0.1 (omega arith)
first_longest b bs size names numbers texts signs (suc n) (Number v) held within t = numbers n t.1.0 t.1.1 (omega arith)
first_longest b bs size names numbers texts signs (suc n) Text held within t = let e = t.0 in let front : b ≡ 34 = cc in let rest : take n bs ≡ parts_of held ++ 34 ∷ [] = cc in texts n held front rest t.1 (omega arith)
first_longest b bs size names numbers texts signs (suc n) Sign held within t = signs n t.0 (omega arith)

-- names and words
kind_by : (P : TokenKind → Type 0) (x : Bool) → (x ≡ true → P Word) → (x ≡ false → P Name) → P (if x then Word else Name)
kind_by P true p q = p refl
kind_by P false p q = q refl

name_token : (s : List ℕ) → IsNameSpelling s → IsToken (kind_of_name s) (content_of (kind_of_name s) s) s
name_token s spelled = kind_by (λ kind. IsToken kind (content_of kind s) s) (is_word s) (λ e. (spelled, e, refl)) (λ e. (spelled, e, refl))

name_spelling : (b : ℕ) (bs : List ℕ) (size : ℕ) → is_letter b ≡ true → AllBytes is_name_byte (take size (b ∷ bs)) → 0 < size → size ≤ 64 → size ≤ length (b ∷ bs) → IsNameSpelling (take size (b ∷ bs))
name_spelling b bs zero letter all some small within = absurd (omega arith)
name_spelling b bs (suc n) letter all some small within = (letter, all.1, let e = length-take-le n bs (omega arith) in omega arith)

letter_no_quote : (b : ℕ) → is_letter b ≡ true → b ≡ 34 → ⊥
letter_no_quote b letter e = not_false (subst (λ x. is_letter x ≡ true) e letter)

name_first : (b : ℕ) (bs : List ℕ) → (BeginsBlank (b ∷ bs) → ⊥) → (BeginsComment (b ∷ bs) → ⊥) → is_letter b ≡ true → (p : Piece) → NameMeans (b ∷ bs) 0 (b ∷ bs) p →
    ((n : ℕ) → AllBytes is_name_byte (take n (b ∷ bs)) → n ≤ length (b ∷ bs) → Reaches n p) → FirstOf (b ∷ bs) p
name_first b bs no_blank no_comment letter (Gap size) m reaches = absurd m
name_first b bs no_blank no_comment letter (Token kind size) m reaches =
    let here : is_name_byte b ≡ true = or_left (is_letter b) (is_ascii_digit b) letter in
    let e : m.0 ≡ size = omega arith in
    let some : 1 ≤ size = reaches 1 (here, tt) (omega arith) in
    record {
      within = omega arith;
      spelled = subst (λ k. IsToken k (content_of k (take size (b ∷ bs))) (take size (b ∷ bs))) (sym m.2)
          (name_token (take size (b ∷ bs)) (name_spelling b bs size letter (subst (λ s. AllBytes is_name_byte (take s (b ∷ bs))) e m.3) (omega arith) (m.5 (omega arith)) (omega arith)));
      longest = first_longest b bs size
          (λ n l all within. reaches (suc n) (here, all) (omega arith))
          (λ n d all within. reaches (suc n) (here, names_from_digits (take n bs) all) (omega arith))
          (λ n value quote spelled held within. absurd (letter_no_quote b letter quote))
          (λ n s within. absurd (clash (is_letter b) letter (sign_no_letter (b ∷ take n bs) s)));
      no_blank = no_blank;
      no_comment = no_comment;
    }
name_first b bs no_blank no_comment letter (Bad size) m reaches = tt

-- numbers
digit_small : (b : ℕ) → is_ascii_digit b ≡ true → b ≤ 57
digit_small b e = leb-true b 57 (and_right (nat_le 48 b) (nat_le b 57) e)

digit_no_quote : (b : ℕ) → is_ascii_digit b ≡ true → b ≡ 34 → ⊥
digit_no_quote b digit e = not_false (subst (λ x. is_ascii_digit x ≡ true) e digit)

number_first : (b : ℕ) (bs : List ℕ) → (BeginsBlank (b ∷ bs) → ⊥) → (BeginsComment (b ∷ bs) → ⊥) → is_letter b ≡ false → is_ascii_digit b ≡ true → (p : Piece) → NumberMeans (b - 48) 1 bs p →
    ((n : ℕ) → AllBytes is_ascii_digit (take n bs) → n ≤ length bs → Reaches (1 + n) p) → FirstOf (b ∷ bs) p
number_first b bs no_blank no_comment no_letter digit (Gap size) m reaches = absurd m
number_first b bs no_blank no_comment no_letter digit (Token kind size) m reaches =
    let e : size ≡ suc m.0 = omega arith in
    let lead : b - 48 ≡ 0 * 10 + (b - 48) = omega arith in
    let small : b ≤ 57 = digit_small b digit in
    subst (λ s. IsFirstToken kind (content_of kind (take s (b ∷ bs))) s (b ∷ bs)) (sym e) (record {
      within = omega arith;
      spelled = subst (λ k. IsToken k (content_of k (b ∷ take m.0 bs)) (b ∷ take m.0 bs)) (sym m.2) (
        omega arith,
        (digit, m.3),
        ap (λ v. pos (decimal_after v (take m.0 bs))) lead,
        subst (λ v. decimal_after v (take m.0 bs) ≤ 9223372036854775807) lead (m.5 (omega arith)),
        refl,
      );
      longest = first_longest b bs (suc m.0)
          (λ n l all within. absurd (clash (is_letter b) l no_letter))
          (λ n d all within. let long : 1 + n ≤ size = reaches n all within in omega arith)
          (λ n value quote spelled held within. absurd (digit_no_quote b digit quote))
          (λ n s within. absurd (clash (is_ascii_digit b) digit (sign_no_digit (b ∷ take n bs) s)));
      no_blank = no_blank;
      no_comment = no_comment;
    })
number_first b bs no_blank no_comment no_letter digit (Bad size) m reaches = tt

-- texts
text_small : (v n : ℕ) → v + n ≤ 65535 → n ≤ 65535
text_small v n h = omega arith

none_small : 0 ≤ 65535
none_small = omega arith

text_first : (b v : ℕ) (bs : List ℕ) → (BeginsBlank (b ∷ bs) → ⊥) → (BeginsComment (b ∷ bs) → ⊥) → is_letter b ≡ false → is_ascii_digit b ≡ false → b ≡ 34 → v ≤ 65535 → (p : Piece) → TextMeans v 1 bs p →
    ((n : ℕ) (value : List ℕ) → take n bs ≡ parts_of value ++ 34 ∷ [] → AllBytes is_held value → n ≤ length bs → Reaches (1 + n) p) → FirstOf (b ∷ bs) p
text_first b v bs no_blank no_comment no_letter no_digit quote few (Gap size) m reaches = absurd m
text_first b v bs no_blank no_comment no_letter no_digit quote few (Token kind size) m reaches =
    let e : size ≡ suc m.0 = omega arith in
    let within : m.0 ≤ length bs = m.3.within in
    subst (λ s. IsFirstToken kind (content_of kind (take s (b ∷ bs))) s (b ∷ bs)) (sym e) (record {
      within = omega arith;
      spelled = subst (λ k. IsToken k (content_of k (b ∷ take m.0 bs)) (b ∷ take m.0 bs)) (sym m.2) (
        ap (λ z. b ∷ z) m.3.spelled ∙ ap (λ x. x ∷ (parts_of (value_of (take m.0 bs)) ++ 34 ∷ [])) quote,
        m.3.held,
        text_small v (length (value_of (take m.0 bs))) (m.3.small few),
      );
      longest = first_longest b bs (suc m.0)
          (λ n l all w. absurd (clash (is_letter b) l no_letter))
          (λ n d all w. absurd (clash (is_ascii_digit b) d no_digit))
          (λ n value q spelled held w. let long : 1 + n ≤ size = reaches n value spelled held w in omega arith)
          (λ n s w. absurd (eqb-false b 34 (sign_no_quote (b ∷ take n bs) s) quote));
      no_blank = no_blank;
      no_comment = no_comment;
    })
text_first b v bs no_blank no_comment no_letter no_digit quote few (Bad size) m reaches = tt

-- signs
record SignBegins (b : ℕ) (bs : List ℕ) : Type 0 where
  no_blank : BeginsBlank (b ∷ bs) → ⊥
  no_comment : BeginsComment (b ∷ bs) → ⊥
  no_letter : is_letter b ≡ false
  no_digit : is_ascii_digit b ≡ false
  no_quote : (b == 34) ≡ false

sign_piece : (b : ℕ) (bs : List ℕ) (more : ℕ) → SignBegins b bs → is_sign (b ∷ take more bs) ≡ true → more ≤ length bs →
    ((n : ℕ) → is_sign (b ∷ take n bs) ≡ true → n ≤ length bs → n ≤ more) → FirstOf (b ∷ bs) (Token Sign (suc more))
sign_piece b bs more f spelled within longest = record {
  within = omega arith;
  spelled = (spelled, refl);
  longest = first_longest b bs (suc more)
      (λ n l all w. absurd (clash (is_letter b) l f.no_letter))
      (λ n d all w. absurd (clash (is_ascii_digit b) d f.no_digit))
      (λ n value quote s held w. absurd (eqb-false b 34 f.no_quote quote))
      (λ n s w. let long : n ≤ more = longest n s w in omega arith);
  no_blank = f.no_blank;
  no_comment = f.no_comment;
}

lone_is_sign : (b : ℕ) → is_lone_sign b ≡ true → is_sign (b ∷ []) ≡ true
lone_is_sign b e = listed_byte (λ c. is_sign (c ∷ []) ≡ true) b (codes "(){}[],;+-*/%") e (refl, (refl, (refl, (refl, (refl, (refl, (refl, (refl, (refl, (refl, (refl, (refl, (refl, tt)))))))))))))

comparing_is_sign : (b : ℕ) → is_comparing_sign b ≡ true → is_sign (b ∷ []) ≡ true
comparing_is_sign b e = listed_byte (λ c. is_sign (c ∷ []) ≡ true) b (codes "=!<>") e (refl, (refl, (refl, (refl, tt))))

comparing_equals_is_sign : (b : ℕ) → is_comparing_sign b ≡ true → is_sign (b ∷ 61 ∷ []) ≡ true
comparing_equals_is_sign b e = listed_byte (λ c. is_sign (c ∷ 61 ∷ []) ≡ true) b (codes "=!<>") e (refl, (refl, (refl, (refl, tt))))

doubled_is_sign : (b : ℕ) → (b == 38 || b == 124) ≡ true → is_sign (b ∷ b ∷ []) ≡ true
doubled_is_sign b e = by_test (b == 38) (λ f. subst (λ c. is_sign (c ∷ c ∷ []) ≡ true) (sym (eqb-true b 38 f)) refl)
    (λ f. subst (λ c. is_sign (c ∷ c ∷ []) ≡ true) (sym (eqb-true b 124 (second (b == 38) (b == 124) f e))) refl)
  where
    second : (x y : Bool) → x ≡ false → (x || y) ≡ true → y ≡ true
    second true y f e = absurd (not_false (sym f))
    second false y f e = e

lone_longest : (b : ℕ) (bs : List ℕ) → is_lone_sign b ≡ true → (n : ℕ) → is_sign (b ∷ take n bs) ≡ true → n ≤ length bs → n ≤ 0
lone_longest b bs lone n s within = let short = lone_sign_short (b ∷ take n bs) s lone in let e = length-take-le n bs within in omega arith

two_longest : (b : ℕ) (bs : List ℕ) (n : ℕ) → is_sign (b ∷ take n bs) ≡ true → n ≤ length bs → n ≤ 1
two_longest b bs n s within = let short = sign_short (b ∷ take n bs) s in let e = length-take-le n bs within in omega arith

comparing_longest : (b c : ℕ) (bs : List ℕ) → is_comparing_sign b ≡ true → (c == 61) ≡ false → (n : ℕ) → is_sign (b ∷ take n (c ∷ bs)) ≡ true → n ≤ length (c ∷ bs) → n ≤ 0
comparing_longest b c bs comparing other zero s within = omega arith
comparing_longest b c bs comparing other (suc n) s within =
    let short = comparing_sign_short (b ∷ c ∷ take n bs) s comparing other in omega arith

sign_first : (b : ℕ) (bs : List ℕ) → SignBegins b bs → FirstOf (b ∷ bs) (sign_at b (first bs))
sign_first b [] f = either_by (FirstOf (b ∷ [])) (is_lone_sign b) _ _ (λ lone. sign_piece b [] 0 f (lone_is_sign b lone) (omega arith) (lone_longest b [] lone)) (λ _.
    either_by (FirstOf (b ∷ [])) (is_comparing_sign b) _ _ (λ comparing. sign_piece b [] 0 f (comparing_is_sign b comparing) (omega arith) (λ n s within. omega arith)) (λ _.
    either (FirstOf (b ∷ [])) (b == 38 || b == 124) _ _ tt tt))
sign_first b (c ∷ bs) f = either_by (FirstOf (b ∷ c ∷ bs)) (is_lone_sign b) _ _ (λ lone. sign_piece b (c ∷ bs) 0 f (lone_is_sign b lone) (omega arith) (lone_longest b (c ∷ bs) lone)) (λ _.
    either_by (FirstOf (b ∷ c ∷ bs)) (is_comparing_sign b) _ _ (λ comparing. either_by (FirstOf (b ∷ c ∷ bs)) (c == 61) _ _
    (λ e. sign_piece b (c ∷ bs) 1 f (subst (λ x. is_sign (b ∷ x ∷ []) ≡ true) (sym (eqb-true c 61 e)) (comparing_equals_is_sign b comparing)) (omega arith) (two_longest b (c ∷ bs)))
    (λ e. sign_piece b (c ∷ bs) 0 f (comparing_is_sign b comparing) (omega arith) (comparing_longest b c bs comparing e))) (λ _.
    either_by (FirstOf (b ∷ c ∷ bs)) (b == 38 || b == 124) _ _ (λ double. either_by (FirstOf (b ∷ c ∷ bs)) (c == b) _ _
    (λ e. sign_piece b (c ∷ bs) 1 f (subst (λ x. is_sign (b ∷ x ∷ []) ≡ true) (sym (eqb-true c b e)) (doubled_is_sign b double)) (omega arith) (two_longest b (c ∷ bs)))
    (λ _. tt)) (λ _. tt)))

pub first_of : (b : ℕ) (bs : List ℕ) → FirstOf (b ∷ bs) (piece_at (b ∷ bs))
first_of b bs = either_by (FirstOf (b ∷ bs)) (is_blank b) _ _ (λ e. inl (refl, e)) (λ solid.
    either_by (FirstOf (b ∷ bs)) (b == 47 && is_byte (first bs) 47) _ _ (first_comment b bs) (λ no_comment.
    either_by (FirstOf (b ∷ bs)) (is_letter b) _ _
    (λ letter. name_first b bs (λ h. clash (is_blank b) h solid) (no_comment_by b bs no_comment) letter _ (name_means (b ∷ bs) 0 (b ∷ bs)) (name_reaches_all b bs)) (λ no_letter.
    either_by (FirstOf (b ∷ bs)) (is_ascii_digit b) _ _
    (λ digit. number_first b bs (λ h. clash (is_blank b) h solid) (no_comment_by b bs no_comment) no_letter digit _ (number_means (b - 48) 1 bs) (number_reaches (b - 48) 1 bs)) (λ no_digit.
    either_by (FirstOf (b ∷ bs)) (b == 34) _ _
    (λ quote. text_first b 0 bs (λ h. clash (is_blank b) h solid) (no_comment_by b bs no_comment) no_letter no_digit (eqb-true b 34 quote) none_small _ (text_means 0 1 bs) (λ n value spelled held within. text_reaches value held 0 1 bs n spelled within))
    (λ no_quote. sign_first b bs (record { no_blank = λ h. clash (is_blank b) h solid; no_comment = no_comment_by b bs no_comment; no_letter = no_letter; no_digit = no_digit; no_quote = no_quote }))))))
  where
    name_reaches_all : (b : ℕ) (bs : List ℕ) (n : ℕ) → AllBytes is_name_byte (take n (b ∷ bs)) → n ≤ length (b ∷ bs) → Reaches n (name_at (b ∷ bs) 0 (b ∷ bs))
    name_reaches_all b bs n all within = let e : 0 + n ≡ n = omega arith in subst (λ k. Reaches k (name_at (b ∷ bs) 0 (b ∷ bs))) e (name_reaches (b ∷ bs) 0 (b ∷ bs) n all within)

front_split : (t : TokenSeen) (r : Lexed) (ts : List TokenSeen) → with_front (t ∷ []) r ≡ Ok ts → (rest : List TokenSeen) × (r ≡ Ok rest) × (t ∷ rest ≡ ts)
front_split t (Ok rest) ts e = (rest, refl, cc)
front_split t (Err n) ts e = absurd (cc)

step : (after : ℕ → List ℕ → Lexed) (at b : ℕ) (bs : List ℕ) (ts : List TokenSeen) (p : Piece) →
    ((at : ℕ) (cs : List ℕ) (us : List TokenSeen) → length cs < length (b ∷ bs) → after at cs ≡ Ok us → Reading at cs us) →
    Within 1 (length (b ∷ bs)) p → FirstOf (b ∷ bs) p → with_piece after at (b ∷ bs) p ≡ Ok ts → Reading at (b ∷ bs) ts
step after at b bs ts (Gap size) rest w f e = elim f [
  | inl g ↦ blank at b bs ts g.1 (rest (at + 1) bs ts (omega arith) (subst (λ s. after (at + s) (drop s (b ∷ bs)) ≡ Ok ts) g.0 e))
  | inr c ↦ comment at size (b ∷ bs) ts c (rest (at + size) (drop size (b ∷ bs)) ts (omega (arith, length-drop size (b ∷ bs), w.0)) e)
]
step after at b bs ts (Token kind size) rest w f e =
    let s = front_split (token_at at (b ∷ bs) kind size) (after (at + size) (drop size (b ∷ bs))) ts e in
    subst (Reading at (b ∷ bs)) s.2 (token at size kind (content_of kind (take size (b ∷ bs))) (b ∷ bs) s.0 f
    (rest (at + size) (drop size (b ∷ bs)) s.0 (omega (arith, length-drop size (b ∷ bs), w.0)) s.1))
step after at b bs ts (Bad size) rest w f e = absurd (cc)

reading_of_cut : (n at : ℕ) (bs : List ℕ) (ts : List TokenSeen) → length bs ≤ n → cut n at bs ≡ Ok ts → Reading at bs ts
reading_of_cut zero at [] ts less e = let none : [] ≡ ts = cc in subst (Reading at []) none (ended at)
reading_of_cut (suc n) at [] ts less e = let none : [] ≡ ts = cc in subst (Reading at []) none (ended at)
reading_of_cut zero at (b ∷ bs) ts less e = absurd (omega arith)
reading_of_cut (suc n) at (b ∷ bs) ts less e = step (cut n) at b bs ts (piece_at (b ∷ bs))
    (λ at' cs us shorter found. reading_of_cut n at' cs us (omega arith) found) (piece_within (b ∷ bs) (omega arith)) (first_of b bs) e

pub reading_of : (bs : List ℕ) (ts : List TokenSeen) → tokens_of bs ≡ Ok ts → Reading 0 bs ts
reading_of bs ts e = reading_of_cut (length bs) 0 bs ts (omega arith) e
