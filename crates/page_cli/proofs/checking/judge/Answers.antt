use Rattle.std.proofs.Common.{Err, ap}
use Rattle.page_cli.proofs.checking.judge.Goals as goal

pub returns-in-Err-Is-clause-refused : goal.returns-in-Err-Is-clause-refused
returns-in-Err-Is-clause-refused g c = rw c.in-Err-Is.bad-is (c.in-Err-Is.ensures.bad c.in-Err-Is.bad (ap Err c.in-Err-Is.field-0-is))
