-- What a call of the code is in the definitions.
use Rattle.trace_export.specs.declared.span.CallSpan.{CallSpan}
use Rattle.trace_export.specs.Export.{Span}

abbrev pub span_seen : CallSpan → Span
span_seen call = record { name = call.name; begin = call.begin.0; end = call.end.0 }
