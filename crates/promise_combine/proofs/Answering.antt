-- The answer that a report brings, by the outcome alone or by the list of all outcomes.
use Rattle.std.proofs.Common.{◌≡◌, ℕ, ◌+◌, ◌<◌, arith, List, [], ◌∷◌, length, Bool, true, false, cond, not, ◌||◌, refl, ap, sym, ◌∙◌, inl, inr}
use Rattle.std.specs.Prelude.{Option, Some, None, is_some, ◌==◌, find}
use Rattle.std.specs.Option.{option_map, option_or}
use Rattle.std.proofs.lemmas.Bool.Decides.{eqb_tells}
use Rattle.std.proofs.lemmas.List.{length-append}
use Rattle.std.proofs.lemmas.List.Folds.{find-append}
use Rattle.page_parts.specs.Words.{and_last}
use Rattle.page_parts.specs.Promises.{Settled, Fulfilled, Failed, has_failed}
use Rattle.page_parts.specs.Combinators.{CombinatorKind, All, AnyOf, AllSettled, Pass, Report, Combine, with_report, by_place, or_answer, first_failed, first_fulfilled, answer_of, report_answer}
use Rattle.promise_combine.specs.Answers.{answer_at_once, listed_answer}

-- ---- Options

nothing : {X : Type 0} (o : Option X) → is_some o ≡ false → o ≡ None
nothing None h = refl
nothing (Some x) h = cc

pub is_some-map : {X Y : Type 0} (f : X → Y) (o : Option X) → is_some (option_map f o) ≡ is_some o
is_some-map f None = refl
is_some-map f (Some x) = refl

no_first : (a b : Option Settled) → is_some (or_answer a b) ≡ false → a ≡ None
no_first None b h = refl
no_first (Some x) b h = cc

is_some-or_none : (a : Option Settled) → is_some (or_answer a None) ≡ is_some a
is_some-or_none None = refl
is_some-or_none (Some x) = refl

is_some-or : (a b : Option Settled) → is_some a ≡ true → is_some (or_answer a b) ≡ true
is_some-or None b h = cc
is_some-or (Some x) b h = refl

-- ---- Counts

length-last : (rs : List Report) (r : Report) → length (and_last rs r) ≡ length rs + 1
length-last rs r = length-append rs (r ∷ [])

eqb_other : (a b : ℕ) → a < b → (a == b) ≡ false
eqb_other a b h = elim (eqb_tells a b) [ inl e ↦ absurd (omega (arith, h, e.1)) | inr e ↦ e.0 ]

-- ---- The first that decides

first-last : (test : Report → Bool) (rs : List Report) (r : Report) → option_map (λ q. q.outcome) (find test rs) ≡ None
    → option_map (λ q. q.outcome) (find test (and_last rs r)) ≡ option_map (λ q. q.outcome) (cond (test r) (Some r) None)
first-last test rs r none =
    ap (option_map (λ q. q.outcome)) (find-append test rs (r ∷ [])) ∙ by_found (find test rs) none
  where
    by_found : (found : Option Report) → option_map (λ q. q.outcome) found ≡ None
        → option_map (λ q. q.outcome) (option_or found (cond (test r) (Some r) None)) ≡ option_map (λ q. q.outcome) (cond (test r) (Some r) None)
    by_found None h = refl
    by_found (Some q) h = cc

first-stays : (test : Report → Bool) (rs : List Report) (r : Report) → is_some (option_map (λ q. q.outcome) (find test rs)) ≡ true
    → is_some (option_map (λ q. q.outcome) (find test (and_last rs r))) ≡ true
first-stays test rs r some =
    ap (λ o. is_some (option_map (λ q. q.outcome) o)) (find-append test rs (r ∷ [])) ∙ by_found (find test rs) some
  where
    by_found : (found : Option Report) → is_some (option_map (λ q. q.outcome) found) ≡ true
        → is_some (option_map (λ q. q.outcome) (option_or found (cond (test r) (Some r) None))) ≡ true
    by_found None h = cc
    by_found (Some q) h = refl

failed_at_once : (place : ℕ) (how : Settled) → option_map (λ (q : Report). q.outcome) (cond (has_failed how) (Some (record { place = place; outcome = how })) None) ≡ answer_at_once All how
failed_at_once place (Fulfilled v) = refl
failed_at_once place (Failed v) = refl

fulfilled_at_once : (place : ℕ) (how : Settled) → option_map (λ (q : Report). q.outcome) (cond (not (has_failed how)) (Some (record { place = place; outcome = how })) None) ≡ answer_at_once AnyOf how
fulfilled_at_once place (Fulfilled v) = refl
fulfilled_at_once place (Failed v) = refl

-- ---- One more report

abbrev combine_of : CombinatorKind → ℕ → List Report → Combine
combine_of kind n rs = record { kind = kind; count = n; reports = rs }

abbrev report_at : ℕ → Settled → Report
report_at place how = record { place = place; outcome = how }

-- the answer with one more report, where there was none before
pub answer_of-last : (kind : CombinatorKind) (n : ℕ) (rs : List Report) (place : ℕ) (how : Settled) → is_some (answer_of (combine_of kind n rs)) ≡ false
    → answer_of (combine_of kind n (and_last rs (report_at place how)))
    ≡ or_answer (answer_at_once kind how) (cond (length rs + 1 == n) (Some (listed_answer kind (by_place (combine_of kind n (and_last rs (report_at place how)))))) None)
answer_of-last All n rs place how none_yet =
    let r = report_at place how in
    let listed = listed_answer All (by_place (combine_of All n (and_last rs r))) in
    ap (λ m. or_answer (first_failed (and_last rs r)) (cond (m == n) (Some listed) None)) (length-last rs r)
    ∙ ap (λ a. or_answer a (cond (length rs + 1 == n) (Some listed) None)) (first-last (λ q. has_failed q.outcome) rs r (no_first (first_failed rs) _ none_yet) ∙ failed_at_once place how)
answer_of-last AnyOf n rs place how none_yet =
    let r = report_at place how in
    let listed = listed_answer AnyOf (by_place (combine_of AnyOf n (and_last rs r))) in
    ap (λ m. or_answer (first_fulfilled (and_last rs r)) (cond (m == n) (Some listed) None)) (length-last rs r)
    ∙ ap (λ a. or_answer a (cond (length rs + 1 == n) (Some listed) None)) (first-last (λ q. not (has_failed q.outcome)) rs r (no_first (first_fulfilled rs) _ none_yet) ∙ fulfilled_at_once place how)
answer_of-last AllSettled n rs place how none_yet =
    let r = report_at place how in
    ap (λ m. cond (m == n) (Some (listed_answer AllSettled (by_place (combine_of AllSettled n (and_last rs r))))) None) (length-last rs r)
answer_of-last (Pass passed) n [] place how none_yet = refl
answer_of-last (Pass passed) n (q ∷ rs) place how none_yet = cc

-- an answer that was there stays, while not all have reported
pub answer_of-stays : (kind : CombinatorKind) (n : ℕ) (rs : List Report) (r : Report) → length rs < n → is_some (answer_of (combine_of kind n rs)) ≡ true
    → is_some (answer_of (combine_of kind n (and_last rs r))) ≡ true
answer_of-stays All n rs r more some =
    let none_yet : is_some (or_answer (first_failed rs) None) ≡ true = sym (ap (λ b. is_some (or_answer (first_failed rs) (cond b (Some (listed_answer All (by_place (combine_of All n rs)))) None))) (eqb_other (length rs) n more)) ∙ some in
    is_some-or (first_failed (and_last rs r)) _ (first-stays (λ q. has_failed q.outcome) rs r (sym (is_some-or_none (first_failed rs)) ∙ none_yet))
answer_of-stays AnyOf n rs r more some =
    let none_yet : is_some (or_answer (first_fulfilled rs) None) ≡ true = sym (ap (λ b. is_some (or_answer (first_fulfilled rs) (cond b (Some (listed_answer AnyOf (by_place (combine_of AnyOf n rs)))) None))) (eqb_other (length rs) n more)) ∙ some in
    is_some-or (first_fulfilled (and_last rs r)) _ (first-stays (λ q. not (has_failed q.outcome)) rs r (sym (is_some-or_none (first_fulfilled rs)) ∙ none_yet))
answer_of-stays AllSettled n rs r more some =
    let clash : false ≡ true = sym (ap (λ b. is_some (cond b (Some (listed_answer AllSettled (by_place (combine_of AllSettled n rs)))) None)) (eqb_other (length rs) n more)) ∙ some in
    cc
answer_of-stays (Pass passed) n [] r more some = cc
answer_of-stays (Pass passed) n (q ∷ rs) r more some = refl

-- there is an answer where one came before, or where the report brings one
pub answered-last : (c : Combine) (r : Report) (before : Bool) (answer : Option Settled) → length c.reports < c.count → before ≡ is_some (answer_of c) → answer ≡ report_answer r c
    → (before || is_some answer) ≡ is_some (answer_of (with_report r c))
answered-last c r before answer more marked brought = by_before (is_some (answer_of c)) refl
  where
    by_before : (b : Bool) → is_some (answer_of c) ≡ b → (before || is_some answer) ≡ is_some (answer_of (with_report r c))
    by_before true e = ap (λ x. x || is_some answer) (marked ∙ e) ∙ sym (answer_of-stays c.kind c.count c.reports r more e)
    by_before false e =
        ap (λ x. x || is_some answer) (marked ∙ e) ∙ ap is_some (brought ∙ ap (λ x. cond x None (answer_of (with_report r c))) e)
