-- The calls of a trace, line by line.
use Rattle.std.proofs.Common.{◌≡◌, ◌≤◌, ◌<◌, ◌^◌, ℕ, true, List, [], ◌∷◌, ◌++◌, map, Option, Some, None, All, refl, sym, ap, ◌∙◌, subst, append_assoc, append-nil}
use Rattle.std.specs.Prelude.{IsTrue}
use Rattle.std.proofs.lemmas.Bool.{false≢true}
use Rattle.std.proofs.lemmas.List.Elements.{All-nil, All-cons, All-head, All-tail}
use Rattle.page_types.specs.declared.RegKind.{RegKind}
use Rattle.page_types.specs.Events.{Event, Call, EndLine, Stamped}
use Rattle.page_values.specs.Texts.{is_text}
use Rattle.trace_text.specs.Trace.{is_end, is_whole}
use Rattle.trace_export.specs.Calls.{called, kind_by, kind_told, name_of, end_of, CallOf, with_call, calls_behind, calls_of}
use Rattle.trace_export.specs.Ends.{with_end, ends_of}
use Rattle.trace_export.specs.Export.{Span, span_of, spans_of, IsSpan}
use Rattle.trace_export.proofs.Ending.{late_call, whole_behind}
use Rattle.trace_export.proofs.NameTexts.{name_text}

-- These calls were found among the events before, and these events are left.
pub record IsWalked (all rest : List Stamped) (kinds : ℕ → Option RegKind) (ends : List ℕ) (spans : List Span) : Type 0 where
  pub before : List Stamped
  pub told : (r : ℕ) → kinds r ≡ kind_told r before
  pub left : ends ≡ ends_of rest
  pub found : spans ++ map span_of (calls_behind before rest) ≡ spans_of all

pub walked_first : (all : List Stamped) (kinds : ℕ → Option RegKind) (ends : List ℕ) → ((r : ℕ) → kinds r ≡ None) → ends ≡ ends_of all → IsWalked all all kinds ends []
walked_first all kinds ends none same = record { before = []; told = none; left = same; found = refl }

pub walked_last : (all : List Stamped) (kinds : ℕ → Option RegKind) (ends : List ℕ) (spans : List Span) → IsWalked all [] kinds ends spans → spans ≡ spans_of all
walked_last all kinds ends spans walked = sym (append-nil spans) ∙ walked.found

noted : (e : Stamped) (before : List Stamped) (kinds new : ℕ → Option RegKind) → ((r : ℕ) → kinds r ≡ kind_told r before) → ((r : ℕ) → new r ≡ kind_by r e.event (kinds r)) → (r : ℕ)
    → new r ≡ kind_told r (e ∷ before)
noted e before kinds new known made r = made r ∙ ap (kind_by r e.event) (known r)

-- a line that calls nothing
pub walked_over : (all rest after : List Stamped) (e : Stamped) (kinds new : ℕ → Option RegKind) (ends : List ℕ) (spans : List Span) → IsWalked all rest kinds ends spans → rest ≡ e ∷ after
    → None ≡ called e.event → ((r : ℕ) → new r ≡ kind_by r e.event (kinds r)) → IsWalked all after new ends spans
walked_over all rest after e kinds new ends spans walked cut none made =
    let before = walked.before in
    record {
      before = e ∷ before;
      told = noted e before kinds new walked.told made;
      left = walked.left ∙ ap ends_of cut ∙ ap (λ o. with_end o after (ends_of after)) (sym none);
      found =
          ap (λ o. spans ++ map span_of (with_call before e.time o after (calls_behind (e ∷ before) after))) none
          ∙ ap (λ es. spans ++ map span_of (calls_behind before es)) (sym cut)
          ∙ walked.found;
    }

-- the ends of a line that calls a registration, and of the lines behind it
pub ends_first : (all rest after : List Stamped) (e : Stamped) (kinds : ℕ → Option RegKind) (ends : List ℕ) (spans : List Span) (r : ℕ) → IsWalked all rest kinds ends spans → rest ≡ e ∷ after
    → Some r ≡ called e.event → ends ≡ end_of 0 after ∷ ends_of after
ends_first all rest after e kinds ends spans r walked cut some = walked.left ∙ ap ends_of cut ∙ ap (λ o. with_end o after (ends_of after)) (sym some)

-- a line that calls a registration
pub walked_call : (all rest after : List Stamped) (e : Stamped) (kinds new : ℕ → Option RegKind) (ends left : List ℕ) (end : ℕ) (spans : List Span) (r : ℕ) (span : Span)
    → IsWalked all rest kinds ends spans → rest ≡ e ∷ after → Some r ≡ called e.event → ends ≡ end ∷ left → ((q : ℕ) → new q ≡ kind_by q e.event (kinds q))
    → span ≡ record { name = name_of r (kinds r); begin = e.time; end = end } → IsWalked all after new left (spans ++ span ∷ [])
walked_call all rest after e kinds new ends left end spans r span walked cut some first made is =
    let before = walked.before in
    let here : end ∷ left ≡ end_of 0 after ∷ ends_of after = sym first ∙ ends_first all rest after e kinds ends spans r walked cut some in
    let same : end ≡ end_of 0 after = cc in
    let more : left ≡ ends_of after = cc in
    let named : span ≡ record { name = name_of r (kind_told r before); begin = e.time; end = end_of 0 after } =
    is ∙ ap (λ k. record { name = name_of r k; begin = e.time; end = end }) (walked.told r) ∙ ap (λ (n : ℕ). record { name = name_of r (kind_told r before); begin = e.time; end = n }) same in
    record {
      before = e ∷ before;
      told = noted e before kinds new walked.told made;
      left = more;
      found =
          append_assoc spans (span ∷ []) (map span_of (calls_behind (e ∷ before) after))
          ∙ ap (λ s. spans ++ s ∷ map span_of (calls_behind (e ∷ before) after)) named
          ∙ ap (λ o. spans ++ map span_of (with_call before e.time o after (calls_behind (e ∷ before) after))) some
          ∙ ap (λ es. spans ++ map span_of (calls_behind before es)) (sym cut)
          ∙ walked.found;
    }

-- ---- what is exported of a whole trace

pub record IsOrdered (call : CallOf) : Type 0 where
  pub order : call.begin ≤ call.end
  pub text : IsTrue (is_text call.name)

calls_no_end : (event : Event) (r : ℕ) → called event ≡ Some r → is_end event ≡ true → ⊥
calls_no_end (Call r) q is end = cc
calls_no_end (EndLine end) r is ends = cc
calls_no_end event r is end = cc

ordered_call : (before : List Stamped) (e : Stamped) (after : List Stamped) (o : Option ℕ) (more : List CallOf) → ((r : ℕ) → o ≡ Some r → e.time ≤ end_of 0 after) → All IsOrdered more
    → All IsOrdered (with_call before e.time o after more)
ordered_call before e after None more late fit = fit
ordered_call before e after (Some r) more late fit =
    All-cons IsOrdered (record { registration = r; name = name_of r (kind_told r before); begin = e.time; end = end_of 0 after }) more
    (record { order = late r refl; text = name_text r (kind_told r before) }) fit

ordered_behind : (before : List Stamped) (es : List Stamped) (e : Stamped) → IsTrue (is_whole (e ∷ es)) → All IsOrdered (calls_behind before (e ∷ es))
ordered_behind before [] e whole = ordered_call before e [] (called e.event) [] (λ r is. absurd (calls_no_end e.event r is whole)) (All-nil IsOrdered)
ordered_behind before (next ∷ es) e whole =
    ordered_call before e (next ∷ es) (called e.event) (calls_behind (e ∷ before) (next ∷ es)) (λ r is. late_call e next es whole) (ordered_behind (e ∷ before) es next (whole_behind e next es whole))

ordered : (es : List Stamped) → IsTrue (is_whole es) → All IsOrdered (calls_of es)
ordered [] whole = absurd (false≢true whole)
ordered (e ∷ es) whole = ordered_behind [] es e whole

abbrev pub EndsBelow : Span → Type 0
EndsBelow span = span.end < 2 ^ 64

fits : (calls : List CallOf) → All IsOrdered calls → All EndsBelow (map span_of calls) → All IsSpan (map span_of calls)
fits [] order below = All-nil IsSpan
fits (call ∷ calls) order below =
    let first = All-head IsOrdered call calls order in
    All-cons IsSpan (span_of call) (map span_of calls)
    (record { text = first.text; order = first.order; below = All-head EndsBelow (span_of call) (map span_of calls) below })
    (fits calls (All-tail IsOrdered call calls order) (All-tail EndsBelow (span_of call) (map span_of calls) below))

pub spans_fit : (es : List Stamped) (spans : List Span) → IsTrue (is_whole es) → spans ≡ spans_of es → All EndsBelow spans → All IsSpan spans
spans_fit es spans whole same below = subst (All IsSpan) (sym same) (fits (calls_of es) (ordered es whole) (subst (All EndsBelow) same below))
