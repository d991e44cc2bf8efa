-- Cutting bytes at a byte.
use Rattle.std.proofs.Common.{◌≡◌, ℕ, suc, ◌≤◌, Bool, true, false, cond, List, [], ◌∷◌, length, Option, Some, None, refl, ap, sym, ◌∙◌, arith, eqb, leb}
use Rattle.std.specs.List.{slice_split, onto_first}
use Rattle.std.specs.Option.{option_map}
use Rattle.page_parts.specs.Words.{is_empty}
use Rattle.std.proofs.lemmas.Bool.Decides.{nat_tests}
use borrow.Author.Tests.{eqb-true}
use Rattle.page_base.specs.Decimals.{number_at, after_digits}
use Rattle.page_base.specs.Fields.{cut_at}
use Rattle.arrivals_text.specs.Fields.{words_of, number_in}
use Rattle.arrivals_text.specs.Arrivals.{but_empty_last, lines_of}

-- the first part, and the others
abbrev pub parts_by : ℕ → List ℕ → Option (List ℕ × List ℕ) → List (List ℕ)
parts_by byte xs None = xs ∷ []
parts_by byte xs (Some c) = c.0 ∷ slice_split (λ b. eqb b byte) c.1

onto_parts : (byte x : ℕ) (xs : List ℕ) (o : Option (List ℕ × List ℕ)) → onto_first x (parts_by byte xs o) ≡ parts_by byte (x ∷ xs) (option_map (λ c. (x ∷ c.0, c.1)) o)
onto_parts byte x xs None = refl
onto_parts byte x xs (Some c) = refl

split_step : (byte x : ℕ) (xs : List ℕ) (t : Bool) → eqb x byte ≡ t → slice_split (λ b. eqb b byte) xs ≡ parts_by byte xs (cut_at byte xs)
    → cond t ([] ∷ slice_split (λ b. eqb b byte) xs) (onto_first x (slice_split (λ b. eqb b byte) xs)) ≡ parts_by byte (x ∷ xs) (cond t (Some ([], xs)) (option_map (λ c. (x ∷ c.0, c.1)) (cut_at byte xs)))
split_step byte x xs true same more = refl
split_step byte x xs false same more = ap (onto_first x) more ∙ onto_parts byte x xs (cut_at byte xs)

pub split_cut : (byte : ℕ) (xs : List ℕ) → slice_split (λ b. eqb b byte) xs ≡ parts_by byte xs (cut_at byte xs)
split_cut byte [] = refl
split_cut byte (x ∷ xs) = split_step byte x xs (eqb x byte) refl (split_cut byte xs)

-- ---- lines

some_part : (byte : ℕ) (xs : List ℕ) (o : Option (List ℕ × List ℕ)) (line : List ℕ) → but_empty_last (line ∷ parts_by byte xs o) ≡ line ∷ but_empty_last (parts_by byte xs o)
some_part byte xs None line = refl
some_part byte xs (Some c) line = refl

lines_cut : (xs : List ℕ) (o : Option (List ℕ × List ℕ)) → cut_at 10 xs ≡ o → lines_of xs ≡ but_empty_last (parts_by 10 xs o)
unfolding lines_of
lines_cut xs o e = ap but_empty_last (split_cut 10 xs ∙ ap (parts_by 10 xs) e)

pub first_is : (xs line after : List ℕ) → cut_at 10 xs ≡ Some (line, after) → lines_of xs ≡ line ∷ lines_of after
first_is xs line after e =
    lines_cut xs (Some (line, after)) e ∙ ap (λ parts. but_empty_last (line ∷ parts)) (split_cut 10 after)
    ∙ some_part 10 after (cut_at 10 after) line ∙ ap (λ lines. line ∷ lines) (sym (lines_cut after (cut_at 10 after) refl))

pub last_is : (xs : List ℕ) → cut_at 10 xs ≡ None → is_empty xs ≡ false → lines_of xs ≡ xs ∷ []
last_is xs e some = lines_cut xs None e ∙ ap (λ b. cond b [] (xs ∷ [])) some

pub no_lines : lines_of [] ≡ []
unfolding lines_of
no_lines = refl

-- ---- words

pub words_first : (xs word after : List ℕ) → cut_at 32 xs ≡ Some (word, after) → words_of xs ≡ word ∷ words_of after
words_first xs word after e = split_cut 32 xs ∙ ap (parts_by 32 xs) e

pub words_last : (xs : List ℕ) → cut_at 32 xs ≡ None → words_of xs ≡ xs ∷ []
words_last xs e = split_cut 32 xs ∙ ap (parts_by 32 xs) e

-- ---- numbers

empty_is : (xs : List ℕ) → eqb (length xs) 0 ≡ true → is_empty xs ≡ true
empty_is [] h = refl
empty_is (x ∷ xs) h = absurd (omega (arith, eqb-true (suc (length xs)) 0 h))

pub number_read : (low high n : ℕ) (bytes rest : List ℕ) → number_at high bytes ≡ Some n → rest ≡ after_digits bytes → eqb (length rest) 0 ≡ true → low ≤ n → number_in low high bytes ≡ Some n
unfolding number_in
number_read low high n bytes rest is behind empty le =
    let none : is_empty (after_digits bytes) ≡ true = ap is_empty (sym behind) ∙ empty_is rest empty in
    let small : leb low n ≡ true = grind (arith, nat_tests) in
    rw (is, none, small) refl

-- ---- no line, and the last one

pub none_left : (xs : List ℕ) → eqb (length xs) 0 ≡ true → lines_of xs ≡ []
none_left [] h = no_lines
none_left (x ∷ xs) h = absurd (omega (arith, eqb-true (suc (length xs)) 0 h))

some_byte : (xs : List ℕ) → eqb (length xs) 0 ≡ false → is_empty xs ≡ false
some_byte [] h = h
some_byte (x ∷ xs) h = refl

pub last_line : (xs : List ℕ) → cut_at 10 xs ≡ None → eqb (length xs) 0 ≡ false → lines_of xs ≡ xs ∷ lines_of []
last_line xs cut some = last_is xs cut (some_byte xs some) ∙ ap (λ lines. xs ∷ lines) (sym no_lines)
