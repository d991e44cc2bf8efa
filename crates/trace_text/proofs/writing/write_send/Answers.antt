use Rattle.std.proofs.Common.{codes, ◌++◌}
use Rattle.page_parts.specs.TraceText.{number_field, field}
use Rattle.trace_text.proofs.Appending.{IfOk-appends}
use Rattle.trace_text.proofs.writing.write_send.Goals as goal

pub returns : goal.returns
returns c = IfOk-appends _ c.args.into.now.items (codes "send" ++ number_field c.args.n) (field c.args.v.now) _ c.in_ok-write_numbered.ensures c.write_printed.ensures
