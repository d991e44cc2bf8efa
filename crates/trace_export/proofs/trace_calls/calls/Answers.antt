use Rattle.std.proofs.Common.{◌≡◌, ◌<◌, ◌^◌, map, [], ◌∷◌, ◌++◌, All, ap, sym, ◌∙◌, subst, rules}
use Rattle.std.proofs.lemmas.List.{map-append}
use Rattle.std.proofs.lemmas.List.Elements.{All-push}
use Rattle.std.specs.BTreeMap.{get}
use Rattle.std.specs.Ordering.{nat_cmp}
use Rattle.std.specs.Prelude.{IsTrue}
use Rattle.trace_text.specs.EventSeen.{stamped_seen}
use Rattle.trace_text.specs.Trace.{is_whole}
use Rattle.trace_text.proofs.Counting.{empty_by_length}
use Rattle.trace_export.specs.Calls.{name_of}
use Rattle.trace_export.specs.EndsSeen.{micros}
use Rattle.trace_export.specs.Export.{Span}
use Rattle.trace_export.specs.Seen.{span_seen}
use Rattle.trace_export.proofs.Walking.{IsWalked, EndsBelow, walked_over, walked_call, walked_last, spans_fit}
use Rattle.trace_export.proofs.trace_calls.calls.Goals as goal
use Rattle.trace_export.proofs.trace_calls.calls.Goals.{in-Some-called+in-Some-pop_front+in_ok-call_name+in_ok-push, in_default-called}

pub loop-e-preserved : goal.loop-e-preserved
loop-e-preserved c =
    let all = map stamped_seen c.args.trace.now.events in
    let rest = map stamped_seen c.loop-e.rest.now in
    let after = map stamped_seen c.in-Some.after.now in
    let e = stamped_seen c.in-Some.e.now in
    let cut = ap (map stamped_seen) c.in-Some.ensures.cases.0 in
    let kinds = get nat_cmp c.loop-e.kinds in
    let new = get nat_cmp c.note_kind.new.kinds in
    let ends = micros c.loop-e.ends.items in
    let spans = map span_seen c.loop-e.calls.items in
    elim c.match-called.branch [
      | in-Some-called+in-Some-pop_front+in_ok-call_name+in_ok-push w ↦
          let left = micros w.pop_front.new.self.items in
          let r = w.in-Some-called.registration in
          let end = w.in-Some-pop_front.end.0 in
          let span : Span = record { name = w.in_ok-call_name.field-0; begin = c.in-Some.e.now.time.0; end = end } in
          let grown : map span_seen c.match-called.calls.items ≡ spans ++ span ∷ [] =
          ap (λ v. map span_seen v.items) w.calls-is ∙ ap (map span_seen) w.in_ok-push.ensures.items ∙ map-append span_seen c.loop-e.calls.items _
          in
          let below : end < 2 ^ 64 = search rules in
          record {
            walked =
                subst (λ s. IsWalked all after new (micros c.match-called.ends.items) s) (sym grown)
                (subst (λ v. IsWalked all after new (micros v.items) (spans ++ span ∷ [])) (sym w.ends-is)
                (walked_call all rest after e kinds new ends left end spans r span c.loop-e.invariant.walked cut w.in-Some-called.ensures (ap micros w.in-Some-pop_front.ensures.items) c.in_ok-note_kind.ensures
                (ap (λ name. record { name = name; begin = c.in-Some.e.now.time.0; end = end }) (w.in_ok-call_name.ensures ∙ ap (name_of r) (w.copied.ensures ∙ w.get.ensures.value)))));
            below = subst (All EndsBelow) (sym grown) (All-push EndsBelow spans span c.loop-e.invariant.below below);
          }
      | in_default-called w ↦
          record {
            walked =
                subst (λ v. IsWalked all after new (micros c.match-called.ends.items) (map span_seen v.items)) (sym w.calls-is)
                (subst (λ v. IsWalked all after new (micros v.items) spans) (sym w.ends-is)
                (walked_over all rest after e kinds new ends spans c.loop-e.invariant.walked cut w.in_default-called.ensures c.in_ok-note_kind.ensures));
            below = subst (λ v. All EndsBelow (map span_seen v.items)) (sym w.calls-is) c.loop-e.invariant.below;
          }
    ]

pub returns-clause-spans : goal.returns-clause-spans
returns-clause-spans c =
    let rest = ap (map stamped_seen) (empty_by_length c.loop-e.rest.now c.in_default.ensures.cases) in
    let spans = map span_seen c.loop-e.calls.items in
    let walked = subst (λ es. IsWalked (map stamped_seen c.args.trace.now.events) es (get nat_cmp c.loop-e.kinds) (micros c.loop-e.ends.items) spans) rest c.loop-e.invariant.walked in
    spans_fit (map stamped_seen c.args.trace.now.events) spans (subst (λ es. IsTrue (is_whole (map stamped_seen es))) c.items-rest.ensures.content c.items-rest.ensures.whole)
    (walked_last _ _ _ spans walked) c.loop-e.invariant.below
