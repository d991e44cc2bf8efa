use Rattle.std.proofs.Common.{None, Some, subst}
use Rattle.trace_text.specs.LineReading.{IsValueRead}
use Rattle.trace_text.proofs.ValuesRead.{tested_settle}
use Rattle.trace_text.proofs.line_reading.read_settle.Goals as goal

pub returns-in_default-2 : goal.returns-in_default-2
returns-in_default-2 c =
    tested_settle c.args.fields.now c.in-Some.first.now c.in-Some.rest.now c.in-Some-cut_at.second.now c.in-Some-cut_at.value.now c.in-Some-read_count.p c.in-Some-read_how.ok None
    c.in-Some.ensures.parts c.in-Some-cut_at.ensures.parts c.in-Some-read_count.ensures c.in-Some-read_how.ensures
    (subst (IsValueRead c.in-Some-cut_at.value.now) c.in_default-2.is c.in_ok-v.ensures)

pub returns : goal.returns
returns c =
    tested_settle c.args.fields.now c.in-Some.first.now c.in-Some.rest.now c.in-Some-cut_at.second.now c.in-Some-cut_at.value.now c.in-Some-read_count.p c.in-Some-read_how.ok (Some c.in-Some-2.v)
    c.in-Some.ensures.parts c.in-Some-cut_at.ensures.parts c.in-Some-read_count.ensures c.in-Some-read_how.ensures
    (subst (IsValueRead c.in-Some-cut_at.value.now) c.in-Some-2.is c.in_ok-v.ensures)
