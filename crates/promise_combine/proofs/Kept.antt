-- A combinator as it is kept, as it is seen, and with one more report.
use Rattle.std.proofs.Common.{◌≡◌, ◌≢◌, ℕ, ◌+◌, ◌<◌, arith, List, [], length, map, Bool, true, false, cond, ◌||◌, Result, refl, ap, sym, subst, ◌∙◌, inl, inr, nat_eq}
use Rattle.std.specs.Prelude.{Option, Some, None, is_some, ◌==◌, slice_set}
use Rattle.std.proofs.lemmas.Bool.Decides.{eqb_tells}
use Rattle.std.proofs.lemmas.List.{length-map, length-set, map-set}
use Rattle.page_types.specs.Values.{Value, UnitValue, ListValue, values_of}
use Rattle.page_types.specs.declared.FaultName.TheVariants.{RangeError}
use Rattle.page_values.specs.declared.Value as Made
use Rattle.page_parts.specs.Words.{and_last, has_number}
use Rattle.page_parts.specs.Kinds.{within_limits, a_fault}
use Rattle.page_parts.specs.Promises.{Settled, Fulfilled, Failed}
use Rattle.page_parts.specs.Combinators.{CombinatorKind, All, AnyOf, AllSettled, Pass, Report, Combine, with_report, by_place, or_answer, answer_of, report_answer}
use Rattle.promise_core.specs.Seen.{settled_seen}
use Rattle.promise_combine.specs.Seen.{outcome_of, reports_of, report_of, outcomes_with}
use Rattle.promise_combine.specs.Answers.{answer_at_once, item_by, list_settles, listed_answer}
use Rattle.promise_combine.specs.Reports.{HasCount, has_reported, are_places, IsKept}
use Rattle.promise_combine.proofs.Places.{are_places-last, one_left}
use Rattle.promise_combine.proofs.Outcomes.{reports_of-last, places-reports_of, silent-last, by_place-reports_of}
use Rattle.promise_combine.proofs.Answering.{answer_of-last, answered-last}

-- what is seen of it
abbrev pub view_of : CombinatorKind → List (Result Made.Value Made.Value) → List ℕ → Combine
view_of kind os ks = record { kind = kind; count = length os; reports = reports_of os ks }

-- ---- Tests

eqb_comm : (a b : ℕ) → (a == b) ≡ (b == a)
eqb_comm a b =
    elim (eqb_tells a b) [
      | inl e ↦ elim (eqb_tells b a) [ inl f ↦ e.0 ∙ sym f.0 | inr f ↦ absurd (f.1 (sym e.1)) ]
      | inr e ↦ elim (eqb_tells b a) [ inl f ↦ absurd (e.1 (sym f.1)) | inr f ↦ e.0 ∙ sym f.0 ]
    ]

is_some-cond : {X : Type 0} (b : Bool) (x : X) → is_some (cond b (Some x) None) ≡ b
is_some-cond true x = refl
is_some-cond false x = refl

-- ---- With no report

marked-new : (kind : CombinatorKind) (n : ℕ) → HasCount kind n → nat_eq n 0 ≡ is_some (answer_of (record { kind = kind; count = n; reports = [] }))
marked-new All n h = eqb_comm n 0 ∙ sym (is_some-cond (0 == n) _)
marked-new AnyOf n h = eqb_comm n 0 ∙ sym (is_some-cond (0 == n) _)
marked-new AllSettled n h = eqb_comm n 0 ∙ sym (is_some-cond (0 == n) _)
marked-new (Pass how) n h = ap (λ m. nat_eq m 0) h

pub kept-new : (kind : CombinatorKind) (os : List (Result Made.Value Made.Value)) (n : ℕ) (ks : List ℕ) → HasCount kind n → length os ≡ n → ks ≡ [] → ((k : ℕ) → outcome_of os k ≡ Fulfilled UnitValue)
    → IsKept kind os ks (nat_eq n 0)
kept-new kind os n ks h long none kept = subst P (sym none) at_start
  where
    P : List ℕ → Type 0
    P ks = IsKept kind os ks (nat_eq n 0)

    at_start : IsKept kind os [] (nat_eq n 0)
    at_start = record {
      placed = refl;
      silent = λ k h. kept k;
      marked = marked-new kind n h ∙ ap (λ m. is_some (answer_of (record { kind = kind; count = m; reports = [] }))) (sym long);
    }

-- ---- With one more report

-- who has reported
pub fresh-kept : (kind : CombinatorKind) (os : List (Result Made.Value Made.Value)) (ks : List ℕ) (p : ℕ) → has_reported p (view_of kind os ks) ≡ false → has_number ks p ≡ false
fresh-kept kind os ks p h = sym (ap (λ l. has_number l p) (places-reports_of os ks)) ∙ h

pub view_of-last : (kind : CombinatorKind) (os : List (Result Made.Value Made.Value)) (ks : List ℕ) (p : ℕ) (x : Result Made.Value Made.Value) → has_number ks p ≡ false → p < length os
    → view_of kind (slice_set os p x) (and_last ks p) ≡ with_report (report_of p x) (view_of kind os ks)
view_of-last kind os ks p x fresh within =
    ap (λ n. combined n (reports_of (slice_set os p x) (and_last ks p))) (length-set os p x) ∙ ap (combined (length os)) (reports_of-last os ks p x fresh within)
  where
    combined : ℕ → List Report → Combine
    combined n rs = record { kind = kind; count = n; reports = rs }

pub kept-last : (kind : CombinatorKind) (os : List (Result Made.Value Made.Value)) (ks : List ℕ) (a : Bool) (p : ℕ) (x : Result Made.Value Made.Value) (answer : Option Settled) → IsKept kind os ks a → has_number ks p ≡ false → p < length os
    → answer ≡ report_answer (report_of p x) (view_of kind os ks) → IsKept kind (slice_set os p x) (and_last ks p) (a || is_some answer)
kept-last kind os ks a p x answer kept fresh within brought = record {
  placed = ap (λ n. are_places n (and_last ks p)) (length-set os p x) ∙ are_places-last (length os) ks p kept.placed fresh within;
  silent = silent-last os ks p x kept.silent;
  marked =
      answered-last (view_of kind os ks) (report_of p x) a answer more kept.marked brought ∙ sym (ap (λ c. is_some (answer_of c)) (view_of-last kind os ks p x fresh within));
}
  where
    more : length (reports_of os ks) < length os
    more = omega (arith, one_left (length os) ks p kept.placed fresh within, length-map {B = Report} ks (λ k. record { place = k; outcome = outcome_of os k }))

-- the outcomes by place, with the one that is reported
by_place-last : (kind : CombinatorKind) (os : List (Result Made.Value Made.Value)) (ks : List ℕ) (a : Bool) (p : ℕ) (x : Result Made.Value Made.Value) → IsKept kind os ks a → has_number ks p ≡ false → p < length os
    → by_place (with_report (report_of p x) (view_of kind os ks)) ≡ outcomes_with os p x
by_place-last kind os ks a p x kept fresh within =
    ap by_place (sym (view_of-last kind os ks p x fresh within))
    ∙ (by_place-reports_of (slice_set os p x) (and_last ks p) (silent-last os ks p x kept.silent) ∙ map-set settled_seen os p x)

-- the answer that the report brings, where there was none before
pub answer-kept : (kind : CombinatorKind) (os : List (Result Made.Value Made.Value)) (ks : List ℕ) (a : Bool) (p : ℕ) (x : Result Made.Value Made.Value) → IsKept kind os ks a → a ≡ false → has_number ks p ≡ false → p < length os
    → report_answer (report_of p x) (view_of kind os ks) ≡ or_answer (answer_at_once kind (settled_seen x)) (cond (length ks + 1 == length os) (Some (listed_answer kind (outcomes_with os p x))) None)
answer-kept kind os ks a p x kept unmarked fresh within =
    let none_yet : is_some (answer_of (view_of kind os ks)) ≡ false = sym kept.marked ∙ unmarked in
    ap (λ b. cond b None (answer_of (with_report (report_of p x) (view_of kind os ks)))) none_yet
    ∙ (answer_of-last kind (length os) (reports_of os ks) p (settled_seen x) none_yet
    ∙ (ap (λ n. or_answer (answer_at_once kind (settled_seen x)) (cond (n + 1 == length os) (Some (listed_answer kind (by_place (with_report (report_of p x) (view_of kind os ks))))) None)) (length-map {B = Report} ks (λ k. record { place = k; outcome = outcome_of os k }))
    ∙ ap (λ l. or_answer (answer_at_once kind (settled_seen x)) (cond (length ks + 1 == length os) (Some (listed_answer kind l)) None)) (by_place-last kind os ks a p x kept fresh within)))

-- it comes of the outcome alone
pub answer-at_once : (now : Combine) (kind : CombinatorKind) (os : List (Result Made.Value Made.Value)) (ks : List ℕ) (a : Bool) (p : ℕ) (x : Result Made.Value Made.Value) (answer : Settled) → view_of kind os ks ≡ now → IsKept kind os ks a
    → a ≡ false → has_reported p now ≡ false → p < now.count → Some answer ≡ answer_at_once kind (settled_seen x) → Some answer ≡ report_answer (report_of p x) now
answer-at_once now kind os ks a p x answer viewed kept unmarked fresh within at_once =
    let unreported : has_number ks p ≡ false = fresh-kept kind os ks p (ap (has_reported p) viewed ∙ fresh) in
    let inside : p < length os = subst (λ c. p < c.count) (sym viewed) within in
    ap (λ o. or_answer o (cond (length ks + 1 == length os) (Some (listed_answer kind (outcomes_with os p x))) None)) at_once
    ∙ (sym (answer-kept kind os ks a p x kept unmarked unreported inside) ∙ ap (report_answer (report_of p x)) viewed)

-- none comes while another has not reported
pub answer-none : (now : Combine) (kind : CombinatorKind) (os : List (Result Made.Value Made.Value)) (ks : List ℕ) (a : Bool) (p : ℕ) (x : Result Made.Value Made.Value) → view_of kind os ks ≡ now → IsKept kind os ks a
    → a ≡ false → has_reported p now ≡ false → p < now.count → None ≡ answer_at_once kind (settled_seen x) → length ks + 1 ≢ length os → None ≡ report_answer (report_of p x) now
answer-none now kind os ks a p x viewed kept unmarked fresh within at_once other =
    let unreported : has_number ks p ≡ false = fresh-kept kind os ks p (ap (has_reported p) viewed ∙ fresh) in
    let inside : p < length os = subst (λ c. p < c.count) (sym viewed) within in
    let test : (length ks + 1 == length os) ≡ false = elim (eqb_tells (length ks + 1) (length os)) [ inl e ↦ absurd (other e.1) | inr e ↦ e.0 ] in
    ap (λ o. or_answer o None) at_once
    ∙ (ap (λ b. or_answer (answer_at_once kind (settled_seen x)) (cond b (Some (listed_answer kind (outcomes_with os p x))) None)) (sym test)
    ∙ (sym (answer-kept kind os ks a p x kept unmarked unreported inside) ∙ ap (report_answer (report_of p x)) viewed))

-- the list of all outcomes comes with the last report
pub answer-listed : (now : Combine) (kind : CombinatorKind) (os : List (Result Made.Value Made.Value)) (ks : List ℕ) (a : Bool) (p : ℕ) (x : Result Made.Value Made.Value) (answer : Settled) → view_of kind os ks ≡ now → IsKept kind os ks a
    → a ≡ false → has_reported p now ≡ false → p < now.count → None ≡ answer_at_once kind (settled_seen x) → length ks + 1 ≡ length os → answer ≡ listed_answer kind (outcomes_with os p x)
    → Some answer ≡ report_answer (report_of p x) now
answer-listed now kind os ks a p x answer viewed kept unmarked fresh within at_once last listed =
    let unreported : has_number ks p ≡ false = fresh-kept kind os ks p (ap (has_reported p) viewed ∙ fresh) in
    let inside : p < length os = subst (λ c. p < c.count) (sym viewed) within in
    let test : (length ks + 1 == length os) ≡ true = elim (eqb_tells (length ks + 1) (length os)) [ inl e ↦ e.0 | inr e ↦ absurd (e.1 last) ] in
    ap Some listed
    ∙ (ap (λ o. or_answer o (Some (listed_answer kind (outcomes_with os p x)))) at_once
    ∙ (ap (λ b. or_answer (answer_at_once kind (settled_seen x)) (cond b (Some (listed_answer kind (outcomes_with os p x))) None)) (sym test)
    ∙ (sym (answer-kept kind os ks a p x kept unmarked unreported inside) ∙ ap (report_answer (report_of p x)) viewed)))

-- how the list settles the promise, and a rejection where there is none
pub listed_answer-some : (kind : CombinatorKind) (l : List Settled) (v : Value) → within_limits (ListValue (values_of (map (item_by kind) l))) ≡ Some v → list_settles kind v ≡ listed_answer kind l
listed_answer-some kind l v h = sym (ap (settled_by kind) h)
  where
    settled_by : CombinatorKind → Option Value → Settled
    settled_by kind o = elim o [ None ↦ Failed (a_fault RangeError) | Some v ↦ list_settles kind v ]

pub listed_answer-none : (kind : CombinatorKind) (l : List Settled) → within_limits (ListValue (values_of (map (item_by kind) l))) ≡ None → Failed (a_fault RangeError) ≡ listed_answer kind l
listed_answer-none kind l h = sym (ap (settled_by kind) h)
  where
    settled_by : CombinatorKind → Option Value → Settled
    settled_by kind o = elim o [ None ↦ Failed (a_fault RangeError) | Some v ↦ list_settles kind v ]

-- where no answer comes, the outcome alone brings none
pub at_once-none : (now : Combine) (kind : CombinatorKind) (os : List (Result Made.Value Made.Value)) (ks : List ℕ) (a : Bool) (p : ℕ) (x : Result Made.Value Made.Value) → view_of kind os ks ≡ now → IsKept kind os ks a
    → a ≡ false → has_reported p now ≡ false → p < now.count → report_answer (report_of p x) now ≡ None → answer_at_once kind (settled_seen x) ≡ None
at_once-none now kind os ks a p x viewed kept unmarked fresh within none =
    let unreported : has_number ks p ≡ false = fresh-kept kind os ks p (ap (has_reported p) viewed ∙ fresh) in
    let inside : p < length os = subst (λ c. p < c.count) (sym viewed) within in
    first_none (answer_at_once kind (settled_seen x)) _ (sym (answer-kept kind os ks a p x kept unmarked unreported inside) ∙ (ap (report_answer (report_of p x)) viewed ∙ none))
  where
    first_none : (o later : Option Settled) → or_answer o later ≡ None → o ≡ None
    first_none None later h = refl
    first_none (Some how) later h = cc
