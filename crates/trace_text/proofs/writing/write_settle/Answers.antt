use Rattle.std.proofs.Common.{codes, ◌++◌}
use Rattle.page_parts.specs.TraceText.{number_field, field, how_text}
use Rattle.trace_text.proofs.Appending.{appends, IfOk-appends}
use Rattle.trace_text.proofs.writing.write_settle.Goals as goal

pub returns : goal.returns
returns c = IfOk-appends _ c.args.into.now.items ((codes "settle" ++ number_field c.args.p) ++ (how_text c.args.ok)) (field c.args.v.now) _ (appends c.args.into.now.items (codes "settle" ++ number_field c.args.p) (how_text c.args.ok) c.in_ok-write_numbered.ensures c.in_ok-write_how.ensures) c.write_printed.ensures
