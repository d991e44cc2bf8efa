-- One more dependent signal is marked, or left out since it is aborted.
use Rattle.std.proofs.Common.{◌≡◌, ℕ, ◌+◌, ◌<◌, Bool, true, false, cond, not, List, [], ◌∷◌, ◌++◌, length, drop, filter, get_or, Option, None, Some, refl, sym, ap, ◌∙◌}
use Rattle.std.specs.Borrow.{Bor}
use Rattle.std.specs.Option.{is_some, option_copied}
use Rattle.std.proofs.lemmas.List.{append_assoc, at_drop_more}
use Rattle.page_parts.specs.Words.{is_there}

twice : (b : Bool) → not (not b) ≡ b
twice true = refl
twice false = refl

not_there : {R : Type 0} (o : Option (Bor R)) → not (is_there (option_copied o)) ≡ not (is_some o)
not_there None = refl
not_there (Some r) = refl

-- whether a signal is marked, by the test of its reason
pub is_marked : {R : Type 0} (o : Option (Bor R)) (reason : Option R) (none b : Bool) → option_copied o ≡ reason → is_some o ≡ not none → none ≡ b → not (is_there reason) ≡ b
is_marked o reason none b copied some same = ap (λ r. not (is_there r)) (sym copied) ∙ not_there o ∙ ap not some ∙ twice none ∙ same

-- one more number passes the test, or fails it
pub filter_more : (f : ℕ → Bool) (b : Bool) (i : ℕ) (ns before new whole : List ℕ) → i < length ns → f (get_or ns i 0) ≡ b
    → new ≡ cond b (before ++ (get_or ns i 0 ∷ [])) before → before ++ filter f (drop i ns) ≡ whole → new ++ filter f (drop (i + 1) ns) ≡ whole
filter_more f b i ns before new whole within tested is all =
    ap (λ xs. xs ++ rest) is ∙ by b ∙ ap (λ t. before ++ cond t (n ∷ rest) rest) (sym tested) ∙ ap (λ xs. before ++ xs) (sym (at_drop_more (filter f) ns i 0 within)) ∙ all
  where
    n : ℕ
    n = get_or ns i 0

    rest : List ℕ
    rest = filter f (drop (i + 1) ns)

    by : (b : Bool) → cond b (before ++ (n ∷ [])) before ++ rest ≡ before ++ cond b (n ∷ rest) rest
    by true = append_assoc before (n ∷ []) rest
    by false = refl
