use Rattle.std.proofs.Common.{◌≡◌, ◌⊎◌, inl, inr, ◌+◌, ◌<◌, ◌++◌, map, true, ap, subst, ◌∙◌}
use Rattle.std.specs.Option.{option_map}
use Rattle.page_parts.specs.TraceText.{head_text}
use Rattle.trace_text.specs.EventSeen.{stamped_seen}
use Rattle.trace_text.specs.LineReading.{IsRead}
use Rattle.trace_text.proofs.TracesRead.{refused_line, refused_order, refused_end, err_same, empty_now}
use Rattle.trace_check.proofs.ScannedLines.{IsScanned, none-scanned, one-scanned, all-scanned, empty-now}
use Rattle.trace_check.proofs.scanning.choices_behind.Goals as goal
use Rattle.trace_check.proofs.scanning.choices_behind.Goals.{then-ended-via-then-ended, then-ended-via-else-ended+then-next-last, then-not-ended-via-then-not-ended, then-not-ended-via-else-not-ended+then-not-is_empty}

pub loop-line-init : goal.loop-line-init
loop-line-init c = none-scanned c.args.form c.args.text.now c.new-choices.result c.new-choices.ensures

pub returns-in_default-2-clause-bad : goal.returns-in_default-2-clause-bad
returns-in_default-2-clause-bad c = λ line is.
    let h = c.loop-line.invariant in
    refused_line c.args.form (head_text c.args.form ++ c.args.text.now) c.in-Some.line.now c.loop-line.rest.now c.in-Some.after.now (map stamped_seen h.good) c.loop-line.last c.loop-line.ended line.line c.requires h.so_far
    (c.bad_line.ensures line (err_same _ _ is) ∙ ap (λ n. n + 2) h.counted)
    c.in-Some.ensures.parts
    (subst (λ read. IsRead c.args.form c.in-Some.line.now (option_map stamped_seen read)) c.in_default-2.is c.in_ok-next.ensures)

pub returns-then-ended-clause-bad : goal.returns-then-ended-clause-bad
returns-then-ended-clause-bad c = λ line is.
    let h = c.loop-line.invariant in
    let out : (c.loop-line.ended ≡ true) ⊎ (c.in-Some-2.next.time.0 < c.loop-line.last) = elim c.then-ended.branch [ then-ended-via-then-ended w ↦ inl w.if-ended.true | then-ended-via-else-ended+then-next-last w ↦ inr w.if-next-last.true ] in
    refused_order c.args.form (head_text c.args.form ++ c.args.text.now) c.in-Some.line.now c.loop-line.rest.now c.in-Some.after.now (map stamped_seen h.good) c.loop-line.last c.loop-line.ended line.line (stamped_seen c.in-Some-2.next) c.requires h.so_far
    (c.bad_line-then-ended.ensures line (err_same _ _ is) ∙ ap (λ n. n + 2) h.counted)
    c.in-Some.ensures.parts
    (subst (λ read. IsRead c.args.form c.in-Some.line.now (option_map stamped_seen read)) c.in-Some-2.is c.in_ok-next.ensures)
    out

pub loop-line-preserved : goal.loop-line-preserved
loop-line-preserved c =
    one-scanned c.args.form (head_text c.args.form ++ c.args.text.now) c.args.text.now c.in-Some.line.now c.loop-line.rest.now c.in-Some.after.now _ _ c.loop-line.lines c.loop-line.last c.in-Some-2.next _
    (subst (λ ended. IsScanned c.args.form (head_text c.args.form ++ c.args.text.now) c.args.text.now c.loop-line.choices c.loop-line.lines c.loop-line.rest.now c.loop-line.last ended) c.if-ended.false c.loop-line.invariant)
    c.in-Some.ensures.parts
    c.in-Some.ensures.shorter
    (subst (λ read. IsRead c.args.form c.in-Some.line.now (option_map stamped_seen read)) c.in-Some-2.is c.in_ok-next.ensures)
    c.if-next-last.false
    c.is_end-ended.ensures
    c.in_ok-take.ensures.sources
    c.in_ok-take.ensures.readings
    c.in_ok-take.ensures.answers

pub returns-then-not-ended-clause-bad : goal.returns-then-not-ended-clause-bad
returns-then-not-ended-clause-bad c = λ line is.
    let h = c.loop-line.invariant in
    refused_end c.args.form (head_text c.args.form ++ c.args.text.now) c.loop-line.rest.now (map stamped_seen h.good) c.loop-line.last c.loop-line.ended line.line c.requires h.so_far
    (c.bad_line-then-not-ended.ensures line (err_same _ _ is) ∙ ap (λ n. n + 2) h.counted)
    c.in_default.ensures.parts
    (λ none.
    elim c.then-not-ended.branch [
      | then-not-ended-via-then-not-ended w ↦ w.if-not-ended.true
      | then-not-ended-via-else-not-ended+then-not-is_empty w ↦ absurd (empty_now c.loop-line.rest.now w.is_empty.result w.is_empty.ensures w.if-not-is_empty.true none)
    ])

pub returns-clause-found : goal.returns-clause-found
returns-clause-found c =
    all-scanned c.args.form (head_text c.args.form ++ c.args.text.now) c.args.text.now c.loop-line.rest.now c.loop-line.choices c.loop-line.lines c.loop-line.last c.requires
    (subst (λ ended. IsScanned c.args.form (head_text c.args.form ++ c.args.text.now) c.args.text.now c.loop-line.choices c.loop-line.lines c.loop-line.rest.now c.loop-line.last ended) c.if-not-ended.false c.loop-line.invariant)
    (empty-now c.loop-line.rest.now c.is_empty.result c.is_empty.ensures c.if-not-is_empty.false)
