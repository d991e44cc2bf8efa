use Rattle.page_rules.proofs.KeepingCalls.{lined-soon, lined-steady, lined_call-comes_on}
use Rattle.page_rules.proofs.steady.lined_pages_leave_what_stays.Goals as goal

pub returns-clause-stays : goal.returns-clause-stays
returns-clause-stays g c ask l = (lined-soon g.L.Lines.keeping ask l).0

pub returns-clause-time : goal.returns-clause-time
returns-clause-time g c ask l = (lined-soon g.L.Lines.keeping ask l).1

pub returns-clause-steady : goal.returns-clause-steady
returns-clause-steady g c ask l other = lined-steady g.L.Lines.keeping ask l other

pub returns-clause-called : goal.returns-clause-called
returns-clause-called g c program f args m = (lined_call-comes_on g.L.Lines.keeping program f args m).0

pub returns-clause-later : goal.returns-clause-later
returns-clause-later g c program f args m = (lined_call-comes_on g.L.Lines.keeping program f args m).1
