-- What was read, before what is read of the rest.
use Rattle.std.proofs.Common.{◌≡◌, ℕ, true, ◌&&◌, List, [], ◌∷◌, ◌++◌, map, Option, Some, None, refl, ap, sym, ◌∙◌, append_assoc, arith, length, get_or, nat_eq, append-nil}
use Rattle.std.specs.Option.{option_map}
use Rattle.std.specs.List.{list_any, list_all}
use Rattle.page_types.specs.declared.Source.{Source}
use Rattle.page_parts.specs.Setup.{Rank}
use Rattle.page_parts.specs.Sources.{default_list, same_source}
use Rattle.loop_policy.specs.Policies.{lists_each}
use Rattle.page_values.specs.Names.{is_name, is_name_byte}
use Rattle.arrivals_text.proofs.Parts.{words_first, words_last}
use Rattle.std.proofs.lemmas.Bool.Decides.{nat_tests}
use Rattle.page_values.specs.Texts.{is_text, is_text_byte}
use Rattle.page_base.specs.Fields.{cut_at, where_true}
use Rattle.arrivals_text.specs.Fields.{all_of, words_of, parts_at}

abbrev pub with_front : {X : Type 0} → List X → Option (List X) → Option (List X)
with_front front rest = option_map (λ xs. front ++ xs) rest

pub front_grows : {X : Type 0} (front : List X) (x : X) (o : Option (List X)) → with_front front (option_map (λ xs. x ∷ xs) o) ≡ with_front (front ++ x ∷ []) o
front_grows front x None = refl
front_grows front x (Some xs) = ap Some (sym (append_assoc front (x ∷ []) xs))

pub no_front : {X : Type 0} (o : Option (List X)) → with_front [] o ≡ o
no_front None = refl
no_front (Some xs) = refl

-- one more answer
pub all_more : {X : Type 0} (read : List ℕ → Option X) (front : List X) (word : List ℕ) (words : List (List ℕ)) (x : X) → read word ≡ Some x
    → with_front front (all_of (map read (word ∷ words))) ≡ with_front (front ++ x ∷ []) (all_of (map read words))
all_more read front word words x is = rw is (front_grows front x (all_of (map read words)))

pub all_none : {X : Type 0} (read : List ℕ → Option X) (front : List X) (word : List ℕ) (words : List (List ℕ)) → read word ≡ None → with_front front (all_of (map read (word ∷ words))) ≡ None
all_none read front word words is = rw is refl

pub text_grows : (bytes : List ℕ) (b : ℕ) → is_text bytes ≡ true → is_text_byte b ≡ true → is_text (bytes ++ b ∷ []) ≡ true
text_grows [] b all one = rw one refl
text_grows (x ∷ bytes) b all one = grind (arith, text_grows bytes b)

-- ---- words, one after another

pub words_refused : {X : Type 0} (read : List ℕ → Option X) (front : List X) (text rest word after : List ℕ)
    → with_front front (all_of (map read (words_of rest))) ≡ all_of (map read (words_of text)) → cut_at 32 rest ≡ Some (word, after) → None ≡ read word
    → None ≡ all_of (map read (words_of text))
words_refused read front text rest word after so_far cut is =
    sym (all_none read front word (words_of after) (sym is)) ∙ ap (λ words. with_front front (all_of (map read words))) (sym (words_first rest word after cut)) ∙ so_far

pub words_go_on : {X : Type 0} (read : List ℕ → Option X) (front new : List X) (x : X) (text rest word after : List ℕ)
    → with_front front (all_of (map read (words_of rest))) ≡ all_of (map read (words_of text)) → cut_at 32 rest ≡ Some (word, after) → Some x ≡ read word → new ≡ front ++ x ∷ []
    → with_front new (all_of (map read (words_of after))) ≡ all_of (map read (words_of text))
words_go_on read front new x text rest word after so_far cut is pushed =
    ap (λ xs. with_front xs (all_of (map read (words_of after)))) pushed
    ∙ sym (all_more read front word (words_of after) x (sym is)) ∙ ap (λ words. with_front front (all_of (map read words))) (sym (words_first rest word after cut)) ∙ so_far

pub words_end_refused : {X : Type 0} (read : List ℕ → Option X) (front : List X) (text rest : List ℕ)
    → with_front front (all_of (map read (words_of rest))) ≡ all_of (map read (words_of text)) → cut_at 32 rest ≡ None → None ≡ read rest
    → None ≡ all_of (map read (words_of text))
words_end_refused read front text rest so_far cut is =
    sym (all_none read front rest [] (sym is)) ∙ ap (λ words. with_front front (all_of (map read words))) (sym (words_last rest cut)) ∙ so_far

end_is : {X : Type 0} (front : List X) → with_front front (Some []) ≡ Some front
end_is front = ap Some (append-nil front)

pub words_end : {X : Type 0} (read : List ℕ → Option X) (front new : List X) (x : X) (text rest : List ℕ)
    → with_front front (all_of (map read (words_of rest))) ≡ all_of (map read (words_of text)) → cut_at 32 rest ≡ None → Some x ≡ read rest → new ≡ front ++ x ∷ []
    → Some new ≡ all_of (map read (words_of text))
words_end read front new x text rest so_far cut is pushed =
    ap Some pushed ∙ sym (end_is (front ++ x ∷ []))
    ∙ sym (all_more read front rest [] x (sym is)) ∙ ap (λ words. with_front front (all_of (map read words))) (sym (words_last rest cut)) ∙ so_far

-- ---- ranks

seven : (xs : List Source) (d : Source) → length xs ≡ 7
    → get_or xs 0 d ∷ get_or xs 1 d ∷ get_or xs 2 d ∷ get_or xs 3 d ∷ get_or xs 4 d ∷ get_or xs 5 d ∷ get_or xs 6 d ∷ [] ≡ xs
seven [] d h = absurd (omega arith)
seven (a ∷ []) d h = absurd (omega arith)
seven (a ∷ b ∷ []) d h = absurd (omega arith)
seven (a ∷ b ∷ c ∷ []) d h = absurd (omega arith)
seven (a ∷ b ∷ c ∷ e ∷ []) d h = absurd (omega arith)
seven (a ∷ b ∷ c ∷ e ∷ f ∷ []) d h = absurd (omega arith)
seven (a ∷ b ∷ c ∷ e ∷ f ∷ g ∷ []) d h = absurd (omega arith)
seven (a ∷ b ∷ c ∷ e ∷ f ∷ g ∷ i ∷ []) d h = refl
seven (a ∷ b ∷ c ∷ e ∷ f ∷ g ∷ i ∷ j ∷ xs) d h = absurd (omega arith)

pub rank_is : (xs : List Source) (d : Source) → length xs ≡ 7 → list_all (λ s. list_any (same_source s) xs) default_list ≡ true
    → Some (Rank (get_or xs 0 d ∷ get_or xs 1 d ∷ get_or xs 2 d ∷ get_or xs 3 d ∷ get_or xs 4 d ∷ get_or xs 5 d ∷ get_or xs 6 d ∷ [])) ≡ where_true (lists_each xs) (Rank xs)
rank_is xs d long each =
    let all : lists_each xs ≡ true = ap (λ n. nat_eq n 7 && list_all (λ s. list_any (same_source s) xs) default_list) long ∙ each in
    ap (λ xs. Some (Rank xs)) (seven xs d long) ∙ ap (λ b. where_true b (Rank xs)) (sym all)

-- ---- names

name_bytes_are_text : (bytes : List ℕ) → list_all is_name_byte bytes ≡ true → is_text bytes ≡ true
name_bytes_are_text [] all = refl
name_bytes_are_text (b ∷ bytes) all = grind (arith, nat_tests, name_bytes_are_text bytes)

pub name_is_text : (bytes : List ℕ) → is_name bytes ≡ true → is_text bytes ≡ true
name_is_text [] h = cc
name_is_text (b ∷ bytes) h = grind (arith, nat_tests, name_bytes_are_text bytes)

-- ---- texts

pub parts_go_on : (bytes new : List ℕ) (held byte : ℕ) (rest after next parts : List ℕ) → with_front bytes (parts_at rest) ≡ parts_at parts → rest ≡ byte ∷ after
    → parts_at (byte ∷ after) ≡ option_map (λ text. held ∷ text) (parts_at next) → new ≡ bytes ++ held ∷ [] → with_front new (parts_at next) ≡ parts_at parts
parts_go_on bytes new held byte rest after next parts so_far is part pushed =
    ap (λ xs. with_front xs (parts_at next)) pushed ∙ sym (front_grows bytes held (parts_at next)) ∙ ap (with_front bytes) (sym part)
    ∙ ap (λ xs. with_front bytes (parts_at xs)) (sym is) ∙ so_far
