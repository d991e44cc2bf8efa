use Rattle.std.proofs.Common.{map, [], ◌∷◌, ◌++◌, All, ap, sym, ◌∙◌, subst}
use Rattle.std.proofs.lemmas.List.Elements.{All-head, All-tail}
use Rattle.trace_export.specs.Export.{IsSpan, span_text, more_spans_text}
use Rattle.trace_export.specs.Seen.{span_seen}
use Rattle.trace_export.proofs.Written.{two_more}
use Rattle.trace_export.proofs.writing.write_more.Goals as goal

pub write_call-requires : goal.write_call-requires
write_call-requires c =
    let fit = subst (All IsSpan) (ap (map span_seen) c.in-Some.ensures.cases.0) c.loop-call.invariant.fit in
    (All-head IsSpan (span_seen c.in-Some.call.now) (map span_seen c.in-Some.after.now) fit).order

pub loop-call-preserved : goal.loop-call-preserved
loop-call-preserved c =
    let call = span_seen c.in-Some.call.now in
    let after = map span_seen c.in-Some.after.now in
    let cut = ap (map span_seen) c.in-Some.ensures.cases.0 in
    record {
      fit = All-tail IsSpan call after (subst (All IsSpan) cut c.loop-call.invariant.fit);
      same =
          two_more c.loop-call.into.items c.push.new.self.items c.write_call.new.into.items (44 ∷ []) (span_text call) (more_spans_text after) c.in_ok-push.ensures.items c.in_ok-write_call.ensures
          ∙ ap (λ spans. c.loop-call.into.items ++ more_spans_text spans) (sym cut)
          ∙ c.loop-call.invariant.same;
    }
