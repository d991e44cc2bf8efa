use Rattle.page_rules.proofs.KeepingTurns.{parallel-steady, idle_step-steady}
use Rattle.page_rules.proofs.steady.parallel_items_and_idle_steps_take_no_time.Goals as goal

pub returns-clause-items : goal.returns-clause-items
returns-clause-items c p = parallel-steady p

pub returns-clause-idle : goal.returns-clause-idle
returns-clause-idle c p = idle_step-steady p
