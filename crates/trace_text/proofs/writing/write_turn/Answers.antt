use Rattle.std.proofs.Common.{codes, ◌++◌}
use Rattle.page_parts.specs.TraceText.{number_field, field, source_text}
use Rattle.trace_text.proofs.Appending.{IfOk-appends}
use Rattle.trace_text.proofs.writing.write_turn.Goals as goal

pub returns : goal.returns
returns c = IfOk-appends _ c.args.into.now.items (codes "turn" ++ number_field c.args.n) (field (source_text c.args.source)) _ c.in_ok-write_numbered.ensures c.write_source.ensures
