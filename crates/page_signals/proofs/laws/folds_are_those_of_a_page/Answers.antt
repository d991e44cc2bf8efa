use Rattle.page_signals.proofs.LawLemmas.{page-step, page-calling, page-change}
use Rattle.page_signals.proofs.laws.folds_are_those_of_a_page.Goals as goal

pub returns-clause-step : goal.returns-clause-step
returns-clause-step c = page-step

pub returns-clause-calling : goal.returns-clause-calling
returns-clause-calling c = page-calling

pub returns-clause-change : goal.returns-clause-change
returns-clause-change c = page-change
