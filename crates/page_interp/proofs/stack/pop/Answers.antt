use Rattle.page_interp.proofs.SmallSteps.{stacked_pop, stacked_none, stacked_rest}
use Rattle.page_interp.proofs.stack.pop.Goals as goal

pub returns-clause-some : goal.returns-clause-some
returns-clause-some c = stacked_pop c.pop.result c.args.stack.now.items c.pop.new.self.items c.pop.ensures.items

pub returns-clause-none : goal.returns-clause-none
returns-clause-none c = stacked_none c.pop.result c.args.stack.now _ _ c.pop.ensures.cases

pub returns-clause-empty : goal.returns-clause-empty
returns-clause-empty c = stacked_rest c.pop.result c.pop.new.self _ _ c.pop.ensures.cases
