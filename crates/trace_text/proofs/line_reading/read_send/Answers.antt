use Rattle.std.proofs.Common.{Some, None, subst}
use Rattle.trace_text.specs.LineReading.{IsValueRead}
use Rattle.trace_text.proofs.ValuesRead.{tested_send}
use Rattle.trace_text.proofs.line_reading.read_send.Goals as goal

pub returns-in_default-2 : goal.returns-in_default-2
returns-in_default-2 c =
    tested_send c.args.fields.now c.in-Some.first.now c.in-Some.value.now c.in-Some-read_count.n None
    c.in-Some.ensures.parts c.in-Some-read_count.ensures
    (subst (IsValueRead c.in-Some.value.now) c.in_default-2.is c.in_ok-v.ensures)

pub returns : goal.returns
returns c =
    tested_send c.args.fields.now c.in-Some.first.now c.in-Some.value.now c.in-Some-read_count.n (Some c.in-Some-2.v)
    c.in-Some.ensures.parts c.in-Some-read_count.ensures
    (subst (IsValueRead c.in-Some.value.now) c.in-Some-2.is c.in_ok-v.ensures)
