use Rattle.page_rules.proofs.KeepingFolds.{ask-soon}
use Rattle.page_rules.proofs.steady.asks_leave_what_stays.Goals as goal

pub returns-clause-stays : goal.returns-clause-stays
returns-clause-stays c ask h = (ask-soon ask h).0

pub returns-clause-time : goal.returns-clause-time
returns-clause-time c ask h = (ask-soon ask h).1
