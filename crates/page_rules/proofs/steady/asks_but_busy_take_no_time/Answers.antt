use Rattle.page_rules.proofs.KeepingFolds.{ask-steady}
use Rattle.page_rules.proofs.steady.asks_but_busy_take_no_time.Goals as goal

pub returns : goal.returns
returns c ask h other = ask-steady ask h other
