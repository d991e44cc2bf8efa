use Rattle.std.proofs.Common.{◌≡◌, map, ap, ◌++◌, ◌∙◌}
use Rattle.trace_export.specs.Export.{export_text}
use Rattle.trace_export.specs.Seen.{span_seen}
use Rattle.trace_export.proofs.ReadLists.{one_reading}
use Rattle.trace_export.proofs.writing.export.Goals as goal

pub returns-clause-one_reading : goal.returns-clause-one_reading
returns-clause-one_reading c = λ spans export.
    let text : c.write_export.new.into.items ≡ export_text (map span_seen c.in_ok-calls.calls.items) =
    c.in_ok-write_export.ensures ∙ ap (λ xs. xs ++ export_text (map span_seen c.deref.result.now)) c.new-text.ensures.items ∙ ap (λ calls. export_text (map span_seen calls)) c.deref.ensures.value
    in
    one_reading c.write_export.new.into.items spans (map span_seen c.in_ok-calls.calls.items) export (record { spelled = text; fit = c.in_ok-calls.ensures.spans }) ∙ c.in_ok-calls.ensures.calls
