use Rattle.page_interp.proofs.at_once.first_value.Goals as goal

pub returns-in-Some-2 : goal.returns-in-Some-2
returns-in-Some-2 c = record { expr = c.in-Some.expr; first = c.in-Some.ensures.cases.0; value = rw c.in-Some-2.is at c.in_ok-value.ensures }
