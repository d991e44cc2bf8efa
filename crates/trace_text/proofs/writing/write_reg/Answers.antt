use Rattle.std.proofs.Common.{codes, ◌++◌}
use Rattle.page_parts.specs.TraceText.{number_field, field, kind_text, by_field}
use Rattle.trace_text.proofs.Appending.{appends, IfOk-appends}
use Rattle.trace_text.proofs.writing.write_reg.Goals as goal

pub returns : goal.returns
returns c = IfOk-appends _ c.args.into.now.items ((codes "reg" ++ number_field c.args.r) ++ (field (kind_text c.args.kind))) (by_field c.args.by) _ (appends c.args.into.now.items (codes "reg" ++ number_field c.args.r) (field (kind_text c.args.kind)) c.in_ok-write_numbered.ensures c.in_ok-write_kind.ensures) c.write_by.ensures
