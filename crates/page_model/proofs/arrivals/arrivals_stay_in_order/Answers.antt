use Rattle.page_model.proofs.Holding.InOrder.{arrival-in_order, taken-in_order, parallel-in_order}
use Rattle.page_model.proofs.arrivals.arrivals_stay_in_order.Goals as goal

pub returns-clause-one_more : goal.returns-clause-one_more
returns-clause-one_more g = λ a p. arrival-in_order a p.arrivals

pub returns-clause-taken : goal.returns-clause-taken
returns-clause-taken g = taken-in_order

pub returns-clause-all_taken : goal.returns-clause-all_taken
returns-clause-all_taken g = parallel-in_order
