use Rattle.std.proofs.Common.{codes, ◌++◌}
use Rattle.page_parts.specs.TraceText.{number_field, int_field, answer_text}
use Rattle.std.proofs.Math.Facts.{to_z-of_z}
use Rattle.trace_text.proofs.Appending.{appends, IfOk-appends}
use Rattle.trace_text.proofs.writing.write_host.Goals as goal

pub returns : goal.returns
returns c = IfOk-appends _ c.args.into.now.items ((codes "host" ++ number_field c.args.k) ++ (int_field c.args.x)) (answer_text c.args.answer) _ (appends c.args.into.now.items (codes "host" ++ number_field c.args.k) (int_field c.args.x) c.in_ok-write_numbered.ensures (rw (to_z-of_z c.ranges.x) at c.in_ok-write_integer.ensures)) c.write_answer.ensures
