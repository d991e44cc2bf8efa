use Rattle.std.proofs.Common.{Some, subst}
use Rattle.trace_text.specs.LineReading.{IsValueRead}
use Rattle.trace_text.proofs.ValuesRead.{tested_throw, tested_report, tested_log}
use Rattle.trace_text.proofs.line_reading.read_valued.Goals as goal

pub returns-in-Some-2 : goal.returns-in-Some-2
returns-in-Some-2 c = tested_throw c.args.text.now c.in-Some.value.now (Some c.in-Some-2.v) c.in-Some.ensures (subst (IsValueRead c.in-Some.value.now) c.in-Some-2.is c.in_ok-v.ensures)

pub returns-in-Some-3 : goal.returns-in-Some-3
returns-in-Some-3 c =
    tested_report c.args.text.now c.in-Some-behind.value.now (Some c.in-Some-3.v) c.in_default.ensures c.in-Some-behind.ensures
    (subst (IsValueRead c.in-Some-behind.value.now) c.in-Some-3.is c.in_ok-v-2.ensures)

pub returns-in-Some-4 : goal.returns-in-Some-4
returns-in-Some-4 c =
    tested_log c.args.text.now c.in-Some-behind-2.value.now (Some c.in-Some-4.v) c.in_default.ensures c.in_default-behind.ensures c.in-Some-behind-2.ensures
    (subst (IsValueRead c.in-Some-behind-2.value.now) c.in-Some-4.is c.in_ok-v-3.ensures)
