use Rattle.std.proofs.Common.{◌≡◌, ◌<◌, false, map, ◌∙◌, ap, sym, subst}
use Rattle.page_parts.specs.Words.{with_numbered}
use Rattle.page_parts.specs.Combinators.{Combine, with_report, report_answer}
use Rattle.page_model.specs.State as m
use Rattle.page_model.specs.PageCombinators.{no_combining}
use Rattle.promise_combine.specs.Seen.{report_of}
use Rattle.promise_combine.specs.Reports.{has_reported}
use Rattle.page_script.specs.Leading.{combining_seen}
use Rattle.page_script.proofs.Numbering.{numbered_read, numbered_set, length_seen}
use Rattle.page_script.proofs.combining.note_report.Goals as goal

pub report-requires-clause-within : goal.report-requires-clause-within
report-requires-clause-within c =
    let xs = c.args.combinators.now.items in
    let here = numbered_read combining_seen no_combining xs c.args.number c.index_mut-c.result.now c.requires.counted (length_seen combining_seen no_combining xs c.args.number c.requires.made) c.index_mut-c.ensures.value in
    subst (λ (t : m.Combining). c.args.place < t.combine.count) (sym here) c.requires.within

pub report-requires-clause-fresh : goal.report-requires-clause-fresh
report-requires-clause-fresh c =
    let xs = c.args.combinators.now.items in
    let here = numbered_read combining_seen no_combining xs c.args.number c.index_mut-c.result.now c.requires.counted (length_seen combining_seen no_combining xs c.args.number c.requires.made) c.index_mut-c.ensures.value in
    subst (λ (t : m.Combining). has_reported c.args.place t.combine ≡ false) (sym here) c.requires.fresh

pub returns-clause-result : goal.returns-clause-result
returns-clause-result c =
    let xs = c.args.combinators.now.items in
    ap (λ (t : m.Combining). t.result) (numbered_read combining_seen no_combining xs c.args.number c.index_mut-c.result.now c.requires.counted (length_seen combining_seen no_combining xs c.args.number c.requires.made) c.index_mut-c.ensures.value)

pub returns-clause-answer : goal.returns-clause-answer
returns-clause-answer c =
    let xs = c.args.combinators.now.items in
    c.in_ok-answer.ensures.answer
    ∙ ap (λ (t : m.Combining). report_answer (report_of c.args.place c.args.how) t.combine)
    (numbered_read combining_seen no_combining xs c.args.number c.index_mut-c.result.now c.requires.counted (length_seen combining_seen no_combining xs c.args.number c.requires.made) c.index_mut-c.ensures.value)

pub returns-clause-noted : goal.returns-clause-noted
returns-clause-noted c =
    let xs = c.args.combinators.now.items in
    let n = c.args.number in
    let x = c.index_mut-c.result.now in
    let r = report_of c.args.place c.args.how in
    numbered_set combining_seen no_combining xs n (record { combine = c.report.new.self; result = x.result }) c.requires.counted
    ∙ ap (λ (k : Combine). let t : m.Combining = record { combine = k; result = x.result } in with_numbered (map combining_seen xs) n t) c.in_ok-answer.ensures.noted
    ∙ ap (λ (t : m.Combining). with_numbered (map combining_seen xs) n (record t { combine = with_report r t.combine }))
    (numbered_read combining_seen no_combining xs n x c.requires.counted (length_seen combining_seen no_combining xs n c.requires.made) c.index_mut-c.ensures.value)
