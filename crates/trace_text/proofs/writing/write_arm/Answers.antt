use Rattle.std.proofs.Common.{codes, ◌++◌}
use Rattle.page_parts.specs.TraceText.{number_field}
use Rattle.trace_text.proofs.Appending.{appends, IfOk-appends}
use Rattle.trace_text.proofs.writing.write_arm.Goals as goal

pub returns : goal.returns
returns c = IfOk-appends _ c.args.into.now.items ((codes "arm" ++ number_field c.args.r) ++ (number_field c.args.due)) (number_field c.args.level) _ (appends c.args.into.now.items (codes "arm" ++ number_field c.args.r) (number_field c.args.due) c.in_ok-write_numbered.ensures c.in_ok-write_number.ensures) c.write_number-2.ensures
