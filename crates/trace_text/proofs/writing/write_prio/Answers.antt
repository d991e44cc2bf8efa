use Rattle.std.proofs.Common.{codes, ◌++◌}
use Rattle.page_parts.specs.TraceText.{number_field, field}
use Rattle.page_parts.specs.Spelling.{priority_text}
use Rattle.trace_text.proofs.Appending.{IfOk-appends}
use Rattle.trace_text.proofs.writing.write_prio.Goals as goal

pub returns : goal.returns
returns c = IfOk-appends _ c.args.into.now.items (codes "prio" ++ number_field c.args.s) (field (priority_text c.args.p)) _ c.in_ok-write_numbered.ensures c.write_priority.ensures
