-- Lists of calls, read call by call.
use Rattle.std.proofs.Common.{◌≡◌, ℕ, ◌<◌, true, false, List, [], ◌∷◌, ◌++◌, length, Option, Some, None, All, refl, sym, ap, ◌∙◌, arith, append_assoc, append-nil, length-append}
use Rattle.std.specs.Prelude.{codes}
use Rattle.std.proofs.lemmas.List.Elements.{All-nil, All-cons, All-head, All-tail, All-append}
use Rattle.page_base.specs.Fields.{behind, is_word}
use Rattle.trace_text.proofs.Cutting.{behind_whole, word_whole}
use Rattle.trace_export.specs.Export.{Span, IsSpan, span_text, spans_text, more_spans_text, export_text, IsExport}
use Rattle.trace_export.specs.Reading.{span_at}
use Rattle.trace_export.proofs.ReadSpans.{the_read, span_read, span_found, behind_comma, behind_head}

-- what stands behind the last call
abbrev pub closing : List ℕ
closing = codes "]}\n"

head_left : (bytes : List ℕ) (spans : List Span) → bytes ≡ export_text spans → behind (codes "{\"traceEvents\":[") bytes ≡ Some (spans_text spans ++ closing)
head_left bytes spans spelled = ap (behind (codes "{\"traceEvents\":[")) spelled ∙ behind_head (spans_text spans ++ closing)

same_some : (a b : List ℕ) → Some a ≡ Some b → a ≡ b
same_some a b is = cc

no_none : (o : Option (List ℕ)) (a : List ℕ) → o ≡ None → o ≡ Some a → ⊥
no_none o a e f = cc

is_closing : is_word closing closing ≡ true
unfolding is_word
is_closing = refl

not_closing : (bytes : List ℕ) → is_word closing bytes ≡ false → bytes ≡ closing → ⊥
not_closing bytes is same = let e = sym (ap (is_word closing) same ∙ is_closing) ∙ is in cc

behind_commas : (a b : List ℕ) → codes "," ++ a ≡ codes "," ++ b → a ≡ b
behind_commas a b same = same_some a b (sym (behind_comma a) ∙ ap (behind (codes ",")) same ∙ behind_comma b)

-- the first call of some, and what stands behind it
first_read : (s : Span) (more : List Span) → IsSpan s → span_at (spans_text (s ∷ more) ++ closing) ≡ Some (the_read s (more_spans_text more ++ closing))
first_read s more fit = ap span_at (append_assoc (span_text s) (more_spans_text more) closing) ∙ span_read s (more_spans_text more ++ closing) fit

same_read : (s t : Span) (a b : List ℕ) → Some (the_read s a) ≡ Some (the_read t b) → (s ≡ t) × (a ≡ b)
same_read s t a b is = let pair : the_read s a ≡ the_read t b = cc in (ap (λ p. p.0) pair, ap (λ p. p.1) pair)

-- ---- before a call

pub record PartLeft (good : List Span) (rest : List ℕ) (all : List Span) : Type 0 where
  pub next : Span
  pub more : List Span
  pub whole : all ≡ good ++ next ∷ more
  pub fit : All IsSpan (next ∷ more)
  pub spelled : rest ≡ spans_text (next ∷ more) ++ closing

-- these calls were read, and further ones are left, one at least
pub record IsPart (bytes : List ℕ) (good : List Span) (rest : List ℕ) : Type 0 where
  pub fit : All IsSpan good
  pub forth : (next : Span) (more : List Span) → rest ≡ spans_text (next ∷ more) ++ closing → bytes ≡ export_text (good ++ next ∷ more)
  pub back : (all : List Span) → IsExport bytes all → PartLeft good rest all

-- ---- behind a call

pub record AfterLeft (good : List Span) (rest : List ℕ) (all : List Span) : Type 0 where
  pub more : List Span
  pub whole : all ≡ good ++ more
  pub fit : All IsSpan more
  pub spelled : rest ≡ more_spans_text more ++ closing

-- these calls were read, and further ones are left, if any
pub record IsAfter (bytes : List ℕ) (good : List Span) (rest : List ℕ) : Type 0 where
  pub fit : All IsSpan good
  pub forth : (more : List Span) → rest ≡ more_spans_text more ++ closing → bytes ≡ export_text (good ++ more)
  pub back : (all : List Span) → IsExport bytes all → AfterLeft good rest all

-- ---- the head

pub no_head : (bytes : List ℕ) → behind (codes "{\"traceEvents\":[") bytes ≡ None → (all : List Span) → IsExport bytes all → ⊥
no_head bytes none all export = no_none _ _ none (head_left bytes all export.spelled)

pub no_calls : (bytes list : List ℕ) → behind (codes "{\"traceEvents\":[") bytes ≡ Some list → is_word closing list ≡ true → IsExport bytes []
no_calls bytes list head ends = record {
  spelled = behind_whole (codes "{\"traceEvents\":[") bytes list head ∙ ap (λ xs. codes "{\"traceEvents\":[" ++ xs) (word_whole closing list ends);
  fit = All-nil IsSpan;
}

first_left : (list : List ℕ) (all : List Span) → is_word closing list ≡ false → list ≡ spans_text all ++ closing → All IsSpan all → PartLeft [] list all
first_left list [] not spelled fit = absurd (not_closing list not spelled)
first_left list (s ∷ more) not spelled fit = record { next = s; more = more; whole = refl; fit = fit; spelled = spelled }

pub part_first : (bytes list : List ℕ) → behind (codes "{\"traceEvents\":[") bytes ≡ Some list → is_word closing list ≡ false → IsPart bytes [] list
part_first bytes list head not = record {
  fit = All-nil IsSpan;
  forth = λ next more is. behind_whole (codes "{\"traceEvents\":[") bytes list head ∙ ap (λ xs. codes "{\"traceEvents\":[" ++ xs) is;
  back = λ all export.
      first_left list all not (same_some list (spans_text all ++ closing) (sym head ∙ head_left bytes all export.spelled)) export.fit;
}

-- ---- a call

left_read : (good : List Span) (rest : List ℕ) (all : List Span) → (left : PartLeft good rest all) → span_at rest ≡ Some (the_read left.next (more_spans_text left.more ++ closing))
left_read good rest all left = ap span_at left.spelled ∙ first_read left.next left.more (All-head IsSpan left.next left.more left.fit)

pub part_refused : (bytes : List ℕ) (good : List Span) (rest : List ℕ) → IsPart bytes good rest → None ≡ span_at rest → (all : List Span) → IsExport bytes all → ⊥
part_refused bytes good rest part none all export = let read = none ∙ left_read good rest all (part.back all export) in cc

after_by : (good : List Span) (rest : List ℕ) (all : List Span) (s : Span) (after : List ℕ) → (left : PartLeft good rest all) → Some (the_read s after) ≡ span_at rest → AfterLeft (good ++ s ∷ []) after all
after_by good rest all s after left is =
    let same = same_read s left.next after (more_spans_text left.more ++ closing) (is ∙ left_read good rest all left) in
    record {
      more = left.more;
      whole = left.whole ∙ ap (λ t. good ++ t ∷ left.more) (sym same.0) ∙ sym (append_assoc good (s ∷ []) left.more);
      fit = All-tail IsSpan left.next left.more left.fit;
      spelled = same.1;
    }

pub part_read : (bytes : List ℕ) (good : List Span) (rest : List ℕ) (s : Span) (after : List ℕ) → IsPart bytes good rest → Some (the_read s after) ≡ span_at rest → IsAfter bytes (good ++ s ∷ []) after
part_read bytes good rest s after part is =
    let at = span_found rest (s, after) (sym is) in
    record {
      fit = All-append IsSpan good (s ∷ []) part.fit (All-cons IsSpan s [] at.fit (All-nil IsSpan));
      forth = λ more same.
          part.forth s more (at.whole ∙ ap (λ xs. span_text s ++ xs) same ∙ sym (append_assoc (span_text s) (more_spans_text more) closing)) ∙ ap export_text (sym (append_assoc good (s ∷ []) more));
      back = λ all export. after_by good rest all s after (part.back all export) is;
    }

-- ---- the end, or a comma

pub after_ends : (bytes : List ℕ) (good : List Span) (after : List ℕ) → IsAfter bytes good after → is_word closing after ≡ true → IsExport bytes good
after_ends bytes good after part is = record { spelled = part.forth [] (word_whole closing after is) ∙ ap export_text (append-nil good); fit = part.fit }

refused_by : (after : List ℕ) (more : List Span) → is_word closing after ≡ false → behind (codes ",") after ≡ None → after ≡ more_spans_text more ++ closing → ⊥
refused_by after [] not none spelled = not_closing after not spelled
refused_by after (s ∷ more) not none spelled = no_none _ _ none (ap (behind (codes ",")) spelled ∙ behind_comma (spans_text (s ∷ more) ++ closing))

pub after_refused : (bytes : List ℕ) (good : List Span) (after : List ℕ) → IsAfter bytes good after → is_word closing after ≡ false → behind (codes ",") after ≡ None → (all : List Span)
    → IsExport bytes all → ⊥
after_refused bytes good after part not none all export = let left = part.back all export in refused_by after left.more not none left.spelled

no_comma : (next : List ℕ) → codes "," ++ next ≡ closing → ⊥
no_comma next same = cc

comma_by : (good : List Span) (all : List Span) (next : List ℕ) (more : List Span) → all ≡ good ++ more → All IsSpan more → codes "," ++ next ≡ more_spans_text more ++ closing → PartLeft good next all
comma_by good all next [] whole fit spelled = absurd (no_comma next spelled)
comma_by good all next (s ∷ more) whole fit spelled =
    record { next = s; more = more; whole = whole; fit = fit; spelled = behind_commas next (spans_text (s ∷ more) ++ closing) spelled }

pub after_more : (bytes : List ℕ) (good : List Span) (after next : List ℕ) → IsAfter bytes good after → behind (codes ",") after ≡ Some next → IsPart bytes good next
after_more bytes good after next part is =
    let whole = behind_whole (codes ",") after next is in
    record {
      fit = part.fit;
      forth = λ s more same. part.forth (s ∷ more) (whole ∙ ap (λ xs. codes "," ++ xs) same);
      back = λ all export. let left = part.back all export in comma_by good all next left.more left.whole left.fit (sym whole ∙ left.spelled);
    }

pub shorter : (rest after next : List ℕ) (s : Span) → Some (the_read s after) ≡ span_at rest → behind (codes ",") after ≡ Some next → length next < length rest
shorter rest after next s is comma =
    let whole = (span_found rest (s, after) (sym is)).whole in
    let left = behind_whole (codes ",") after next comma in
    omega (arith, ap length whole, ap length left, length-append (span_text s) after)

-- ---- one reading

read_again : (s t : Span) (more others : List Span) → IsSpan s → IsSpan t → spans_text (s ∷ more) ++ closing ≡ spans_text (t ∷ others) ++ closing
    → (s ≡ t) × (more_spans_text more ++ closing ≡ more_spans_text others ++ closing)
read_again s t more others fit other same =
    same_read s t (more_spans_text more ++ closing) (more_spans_text others ++ closing) (sym (first_read s more fit) ∙ ap span_at same ∙ first_read t others other)

more_same : (a b : List Span) → All IsSpan a → All IsSpan b → more_spans_text a ++ closing ≡ more_spans_text b ++ closing → a ≡ b
more_same [] [] f g same = refl
more_same [] (t ∷ b) f g same = absurd (no_comma (spans_text (t ∷ b) ++ closing) (sym same))
more_same (s ∷ a) [] f g same = absurd (no_comma (spans_text (s ∷ a) ++ closing) same)
more_same (s ∷ a) (t ∷ b) f g same =
    let again = read_again s t a b (All-head IsSpan s a f) (All-head IsSpan t b g) (behind_commas (spans_text (s ∷ a) ++ closing) (spans_text (t ∷ b) ++ closing) same) in
    ap (λ x. x ∷ a) again.0 ∙ ap (λ xs. t ∷ xs) (more_same a b (All-tail IsSpan s a f) (All-tail IsSpan t b g) again.1)

closing_no_call : (s : Span) (more : List Span) → closing ≡ spans_text (s ∷ more) ++ closing → ⊥
closing_no_call s more same = cc

all_same : (a b : List Span) → All IsSpan a → All IsSpan b → spans_text a ++ closing ≡ spans_text b ++ closing → a ≡ b
all_same [] [] f g same = refl
all_same [] (t ∷ b) f g same = absurd (closing_no_call t b same)
all_same (s ∷ a) [] f g same = absurd (closing_no_call s a (sym same))
all_same (s ∷ a) (t ∷ b) f g same =
    let again = read_again s t a b (All-head IsSpan s a f) (All-head IsSpan t b g) same in
    ap (λ x. x ∷ a) again.0 ∙ ap (λ xs. t ∷ xs) (more_same a b (All-tail IsSpan s a f) (All-tail IsSpan t b g) again.1)

pub one_reading : (bytes : List ℕ) (spans others : List Span) → IsExport bytes spans → IsExport bytes others → spans ≡ others
one_reading bytes a b f g =
    all_same a b f.fit g.fit (same_some (spans_text a ++ closing) (spans_text b ++ closing) (sym (head_left bytes a f.spelled) ∙ head_left bytes b g.spelled))
