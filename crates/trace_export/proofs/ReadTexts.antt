-- Texts between quotation marks, read.
use Rattle.std.proofs.Common.{◌≡◌, ℕ, Bool, true, false, List, [], ◌∷◌, ◌++◌, Option, Some, None, refl, sym, ap, ◌∙◌, subst, arith, append_assoc}
use Rattle.std.specs.Prelude.{◌==◌, IsTrue, if◌then◌else◌}
use Rattle.std.specs.Option.{option_map}
use Rattle.std.proofs.lemmas.Bool.{eqb-true}
use Rattle.std.proofs.lemmas.Bool.Decides.{nat_tests}
use Rattle.page_parts.specs.Spelling.{escaped, all_escaped}
use Rattle.page_values.specs.Texts.{is_text, is_text_byte}
use Rattle.page_base.specs.Fields.{◌>>=◌}
use Rattle.trace_text.proofs.Behind.{left, right, both}
use Rattle.trace_export.specs.Reading.{is_plain, with_byte, text_at, escape_at}

-- ---- bytes read so far, before those still to be read

abbrev pub behind_bytes : List ℕ → Option (List ℕ × List ℕ) → Option (List ℕ × List ℕ)
behind_bytes front read = option_map (λ r. (front ++ r.0, r.1)) read

pub behind_none : (read : Option (List ℕ × List ℕ)) → behind_bytes [] read ≡ read
behind_none None = refl
behind_none (Some r) = refl

pub behind_more : (front : List ℕ) (b : ℕ) (read : Option (List ℕ × List ℕ)) → behind_bytes (front ++ b ∷ []) read ≡ behind_bytes front (with_byte b read)
behind_more front b None = refl
behind_more front b (Some r) = ap (λ xs. Some (xs, r.1)) (append_assoc front (b ∷ []) r.0)

-- what is read by the tests of the first byte
abbrev by_first : ℕ → List ℕ → Bool → Bool → Bool → Option (List ℕ × List ℕ)
by_first b bytes quote backslash plain =
    if quote then Some ([], bytes) else if backslash then escape_at bytes else if plain then with_byte b (text_at bytes) else None

-- ---- what is spelled is read

is_read : (b : ℕ) (bytes : List ℕ) (quote backslash newline : Bool) → (b == 34) ≡ quote → (b == 92) ≡ backslash → (b == 10) ≡ newline → IsTrue (is_text_byte b)
    → text_at (escaped b ++ bytes) ≡ with_byte b (text_at bytes)
is_read b bytes true y z e f g p = let same : b ≡ 34 = eqb-true b 34 e in rw same refl
is_read b bytes false true z e f g p = let same : b ≡ 92 = eqb-true b 92 f in rw same refl
is_read b bytes false false true e f g p = let same : b ≡ 10 = eqb-true b 10 g in rw same refl
is_read b bytes false false false e f g p =
    let plain : is_plain b ≡ true = grind (arith, nat_tests) in
    let itself : escaped b ≡ b ∷ [] = rw (e, f, g) refl in
    ap (λ xs. text_at (xs ++ bytes)) itself
    ∙ ap (λ t. by_first b bytes t (b == 92) (is_plain b)) e
    ∙ ap (λ t. by_first b bytes false t (is_plain b)) f
    ∙ ap (λ t. by_first b bytes false false t) plain

pub text_read : (name rest : List ℕ) → IsTrue (is_text name) → text_at (all_escaped name ++ 34 ∷ rest) ≡ Some (name, rest)
text_read [] rest p = refl
text_read (b ∷ name) rest p =
    ap text_at (append_assoc (escaped b) (all_escaped name) (34 ∷ rest))
    ∙ is_read b (all_escaped name ++ 34 ∷ rest) (b == 34) (b == 92) (b == 10) refl refl refl (left (is_text_byte b) (is_text name) p)
    ∙ ap (with_byte b) (text_read name rest (right (is_text_byte b) (is_text name) p))

-- ---- what is read is spelled

pub record TextAt (bytes name rest : List ℕ) : Type 0 where
  pub text : IsTrue (is_text name)
  pub whole : bytes ≡ all_escaped name ++ 34 ∷ rest

abbrev the_pair : List ℕ → List ℕ → List ℕ × List ℕ
the_pair a b = (a, b)

same_pair : (a b c d : List ℕ) → Some (the_pair a b) ≡ Some (the_pair c d) → (a ≡ c) × (b ≡ d)
same_pair a b c d is = let pair : the_pair a b ≡ the_pair c d = cc in (ap (λ p. p.0) pair, ap (λ p. p.1) pair)

with_first : (b : ℕ) (spelling bytes name rest : List ℕ) (read : Option (List ℕ × List ℕ)) → with_byte b read ≡ Some (name, rest) → IsTrue (is_text_byte b) → spelling ≡ escaped b
    → ((more after : List ℕ) → read ≡ Some (more, after) → TextAt bytes more after) → TextAt (spelling ++ bytes) name rest
with_first b spelling bytes name rest None is p q found = absurd cc
with_first b spelling bytes name rest (Some r) is p q found =
    let at = found r.0 r.1 refl in
    let same = same_pair (b ∷ r.0) r.1 name rest is in
    subst (λ n. TextAt (spelling ++ bytes) n rest) same.0
    (subst (λ a. TextAt (spelling ++ bytes) (b ∷ r.0) a) same.1
    (record {
      text = both (is_text_byte b) (is_text r.0) p at.text;
      whole = ap (λ xs. xs ++ bytes) q ∙ ap (λ xs. escaped b ++ xs) at.whole ∙ sym (append_assoc (escaped b) (all_escaped r.0) (34 ∷ r.1));
    }))

plain_escaped : (b : ℕ) → is_plain b ≡ true → b ∷ [] ≡ escaped b
plain_escaped b p =
    let e : (b == 34) ≡ false = grind (arith, nat_tests) in
    let f : (b == 92) ≡ false = grind (arith, nat_tests) in
    let g : (b == 10) ≡ false = grind (arith, nat_tests) in
    rw (e, f, g) refl

plain_text : (b : ℕ) → is_plain b ≡ true → IsTrue (is_text_byte b)
plain_text b p = grind (arith, nat_tests)

-- the tests of a first byte, and what they lead to
text_by : (b : ℕ) (bytes name rest : List ℕ) (quote backslash plain : Bool) → (b == 34) ≡ quote → (b == 92) ≡ backslash → is_plain b ≡ plain
    → by_first b bytes quote backslash plain ≡ Some (name, rest)
    → ((more after : List ℕ) → text_at bytes ≡ Some (more, after) → TextAt bytes more after) → (escape_at bytes ≡ Some (name, rest) → TextAt (92 ∷ bytes) name rest)
    → TextAt (b ∷ bytes) name rest
text_by b bytes name rest true y z e f g is found escape =
    let same = same_pair [] bytes name rest is in
    subst (λ n. TextAt (b ∷ bytes) n rest) same.0 (subst (λ a. TextAt (b ∷ bytes) [] a) same.1 (record { text = refl; whole = ap (λ c. c ∷ bytes) (eqb-true b 34 e) }))
text_by b bytes name rest false true z e f g is found escape = subst (λ c. TextAt (c ∷ bytes) name rest) (sym (eqb-true b 92 f)) (escape is)
text_by b bytes name rest false false true e f g is found escape = with_first b (b ∷ []) bytes name rest (text_at bytes) is (plain_text b g) (plain_escaped b g) found
text_by b bytes name rest false false false e f g is found escape = absurd cc

escape_by : (b : ℕ) (bytes name rest : List ℕ) (quote backslash newline : Bool) → (b == 34) ≡ quote → (b == 92) ≡ backslash → (b == 110) ≡ newline
    → ((if quote then Some 34 else if backslash then Some 92 else if newline then Some 10 else None) >>= λ c. with_byte c (text_at bytes)) ≡ Some (name, rest)
    → ((more after : List ℕ) → text_at bytes ≡ Some (more, after) → TextAt bytes more after) → TextAt (92 ∷ b ∷ bytes) name rest
escape_by b bytes name rest true y z e f g is found = with_first 34 (92 ∷ b ∷ []) bytes name rest (text_at bytes) is refl (ap (λ c. 92 ∷ c ∷ []) (eqb-true b 34 e)) found
escape_by b bytes name rest false true z e f g is found = with_first 92 (92 ∷ b ∷ []) bytes name rest (text_at bytes) is refl (ap (λ c. 92 ∷ c ∷ []) (eqb-true b 92 f)) found
escape_by b bytes name rest false false true e f g is found = with_first 10 (92 ∷ b ∷ []) bytes name rest (text_at bytes) is refl (ap (λ c. 92 ∷ c ∷ []) (eqb-true b 110 g)) found
escape_by b bytes name rest false false false e f g is found = absurd cc

mutual
  pub text_found : (bytes name rest : List ℕ) → text_at bytes ≡ Some (name, rest) → TextAt bytes name rest
  text_found [] name rest is = absurd cc
  text_found (b ∷ bytes) name rest is =
      text_by b bytes name rest (b == 34) (b == 92) (is_plain b) refl refl refl is (text_found bytes) (escape_found bytes name rest)

  escape_found : (bytes name rest : List ℕ) → escape_at bytes ≡ Some (name, rest) → TextAt (92 ∷ bytes) name rest
  escape_found [] name rest is = absurd cc
  escape_found (b ∷ bytes) name rest is = escape_by b bytes name rest (b == 34) (b == 92) (b == 110) refl refl refl is (text_found bytes)
