use Rattle.std.proofs.Common.{map}
use Rattle.std.specs.Prelude.{codes}
use Rattle.trace_export.specs.Export.{spans_text}
use Rattle.trace_export.specs.Seen.{span_seen}
use Rattle.trace_export.proofs.Written.{three}
use Rattle.trace_export.proofs.writing.write_export.Goals as goal

pub returns : goal.returns
returns c =
    three c.args.into.now.items c.extend_from_slice.new.self.items c.write_calls.new.into.items c.extend_from_slice-2.new.self.items
    (codes "{\"traceEvents\":[") (spans_text (map span_seen c.args.calls.now)) (codes "]}\n")
    c.in_ok-extend_from_slice.ensures.items c.in_ok-write_calls.ensures c.in_ok-extend_from_slice-2.ensures.items
