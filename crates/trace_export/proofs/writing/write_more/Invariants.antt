use Rattle.std.proofs.Common.{◌≡◌, ◌++◌, length, map, All}
use Rattle.trace_export.specs.Export.{IsSpan, more_spans_text}
use Rattle.trace_export.specs.Seen.{span_seen}
use Rattle.trace_export.proofs.writing.write_more.Given as goal

abbrev pub invariant-loop-call : goal.invariant-loop-call
invariant-loop-call l = record {
  fit : All IsSpan (map span_seen l.rest);
  same : l.into.items ++ more_spans_text (map span_seen l.rest) ≡ l.fn.into.items ++ more_spans_text (map span_seen l.calls);
}

abbrev pub decreases-loop-call : goal.decreases-loop-call
decreases-loop-call l = length l.rest
