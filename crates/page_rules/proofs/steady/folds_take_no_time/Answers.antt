use Rattle.page_rules.proofs.KeepingFolds.{begin_abort-steady, begin_change-steady, callback_ended-steady, go_on-steady}
use Rattle.page_rules.proofs.steady.folds_take_no_time.Goals as goal

pub returns-clause-aborted : goal.returns-clause-aborted
returns-clause-aborted c s reason p = begin_abort-steady s reason p

pub returns-clause-changed : goal.returns-clause-changed
returns-clause-changed c priority chain s p = begin_change-steady priority chain s p

pub returns-clause-callback : goal.returns-clause-callback
returns-clause-callback c when end p = callback_ended-steady when end p

pub returns-clause-further : goal.returns-clause-further
returns-clause-further c fold p = go_on-steady fold p
