use Rattle.std.proofs.Common.{map, ap, subst, All}
use Rattle.std.proofs.lemmas.List.Elements.{All-head, All-tail}
use Rattle.trace_export.specs.Export.{IsSpan}
use Rattle.trace_export.specs.Seen.{span_seen}
use Rattle.trace_export.proofs.writing.write_calls.Goals as goal

pub write_call-requires : goal.write_call-requires
write_call-requires c =
    (All-head IsSpan (span_seen c.in-Some.first.now) (map span_seen c.in-Some.more.now) (subst (All IsSpan) (ap (map span_seen) c.in-Some.ensures.cases.0) c.requires)).order

pub write_more-requires : goal.write_more-requires
write_more-requires c = All-tail IsSpan (span_seen c.in-Some.first.now) (map span_seen c.in-Some.more.now) (subst (All IsSpan) (ap (map span_seen) c.in-Some.ensures.cases.0) c.requires)
