use Rattle.page_signals.proofs.LawLemmas.{page-falls}
use Rattle.page_signals.proofs.laws.less_is_left_after_each_step.Goals as goal

pub returns : goal.returns
returns c = page-falls
