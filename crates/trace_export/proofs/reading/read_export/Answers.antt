use Rattle.std.proofs.Common.{map, [], ◌∷◌, ◌++◌, ap, sym, ◌∙◌, subst}
use Rattle.std.proofs.lemmas.List.{map-append}
use Rattle.trace_export.specs.Export.{IsExport}
use Rattle.trace_export.specs.Seen.{span_seen}
use Rattle.trace_export.proofs.ReadLists.{IsPart, no_head, no_calls, part_first, part_refused, part_read, after_ends, after_refused, after_more, shorter}
use Rattle.trace_export.proofs.reading.read_export.Goals as goal

pub returns-in_default-clause-none : goal.returns-in_default-clause-none
returns-in_default-clause-none c = λ not is. no_head c.args.bytes.now c.in_default.ensures

pub returns-then-is_word-clause-calls : goal.returns-then-is_word-clause-calls
returns-then-is_word-clause-calls c =
    subst (λ spans. IsExport c.args.bytes.now spans) (sym (ap (map span_seen) c.new-calls.ensures.items)) (no_calls c.args.bytes.now c.in-Some.list.now c.in-Some.ensures (sym c.if-is_word.ensures))

pub loop-calls-init : goal.loop-calls-init
loop-calls-init c =
    subst (λ spans. IsPart c.args.bytes.now spans c.in-Some.list.now) (sym (ap (map span_seen) c.new-calls.ensures.items))
    (part_first c.args.bytes.now c.in-Some.list.now c.in-Some.ensures (sym c.if-is_word.ensures))

pub returns-in_default-2-clause-none : goal.returns-in_default-2-clause-none
returns-in_default-2-clause-none c = λ not is.
    part_refused c.args.bytes.now (map span_seen c.loop-calls.calls.items) c.loop-calls.rest.now c.loop-calls.invariant (rw c.in_default-2.is at c.in_ok-call.ensures)

pub returns-then-is_word-2-clause-calls : goal.returns-then-is_word-2-clause-calls
returns-then-is_word-2-clause-calls c =
    let good = map span_seen c.loop-calls.calls.items in
    let call = span_seen c.in-Some-2.call in
    let read = part_read c.args.bytes.now good c.loop-calls.rest.now call c.in-Some-2.after.now c.loop-calls.invariant (rw c.in-Some-2.is at c.in_ok-call.ensures) in
    let grown = ap (map span_seen) c.in_ok-push.ensures.items ∙ map-append span_seen c.loop-calls.calls.items (c.in-Some-2.call ∷ []) in
    subst (λ spans. IsExport c.args.bytes.now spans) (sym grown) (after_ends c.args.bytes.now (good ++ call ∷ []) c.in-Some-2.after.now read (sym c.if-is_word-2.ensures))

pub returns-in_default-behind-clause-none : goal.returns-in_default-behind-clause-none
returns-in_default-behind-clause-none c = λ not is.
    let good = map span_seen c.loop-calls.calls.items in
    let call = span_seen c.in-Some-2.call in
    let read = part_read c.args.bytes.now good c.loop-calls.rest.now call c.in-Some-2.after.now c.loop-calls.invariant (rw c.in-Some-2.is at c.in_ok-call.ensures) in
    after_refused c.args.bytes.now (good ++ call ∷ []) c.in-Some-2.after.now read (sym c.if-is_word-2.ensures) c.in_default-behind.ensures

pub loop-calls-smaller : goal.loop-calls-smaller
loop-calls-smaller c =
    shorter c.loop-calls.rest.now c.in-Some-2.after.now c.in-Some-behind.next.now (span_seen c.in-Some-2.call) (rw c.in-Some-2.is at c.in_ok-call.ensures) c.in-Some-behind.ensures

pub loop-calls-preserved : goal.loop-calls-preserved
loop-calls-preserved c =
    let good = map span_seen c.loop-calls.calls.items in
    let call = span_seen c.in-Some-2.call in
    let read = part_read c.args.bytes.now good c.loop-calls.rest.now call c.in-Some-2.after.now c.loop-calls.invariant (rw c.in-Some-2.is at c.in_ok-call.ensures) in
    let grown = ap (map span_seen) c.in_ok-push.ensures.items ∙ map-append span_seen c.loop-calls.calls.items (c.in-Some-2.call ∷ []) in
    subst (λ spans. IsPart c.args.bytes.now spans c.in-Some-behind.next.now) (sym grown)
    (after_more c.args.bytes.now (good ++ call ∷ []) c.in-Some-2.after.now c.in-Some-behind.next.now read c.in-Some-behind.ensures)
