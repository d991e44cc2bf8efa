use Rattle.page_rules.proofs.KeepingCalls.{call-comes_on}
use Rattle.page_rules.proofs.steady.calls_leave_what_stays.Goals as goal

pub returns-clause-stays : goal.returns-clause-stays
returns-clause-stays c program f args m = (call-comes_on program f args m).0

pub returns-clause-time : goal.returns-clause-time
returns-clause-time c program f args m = (call-comes_on program f args m).1
