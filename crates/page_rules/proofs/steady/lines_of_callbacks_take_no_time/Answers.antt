use Rattle.page_rules.proofs.KeepingTurns.{call_begun-steady, call_ended-steady, thrown-steady, report_before-steady, report_after-steady}
use Rattle.page_rules.proofs.steady.lines_of_callbacks_take_no_time.Goals as goal

pub returns-clause-begun : goal.returns-clause-begun
returns-clause-begun c r p = call_begun-steady r p

pub returns-clause-ended : goal.returns-clause-ended
returns-clause-ended c line p = call_ended-steady line p

pub returns-clause-threw : goal.returns-clause-threw
returns-clause-threw c v p = thrown-steady v p

pub returns-clause-before : goal.returns-clause-before
returns-clause-before c when v p = report_before-steady when v p

pub returns-clause-after : goal.returns-clause-after
returns-clause-after c when v p = report_after-steady when v p
