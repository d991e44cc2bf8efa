use Rattle.std.proofs.Common.{arith}
use Rattle.page_model.specs.Parallel.{item_count}
use Rattle.page_model.proofs.Bounding.Items.{items-within, take_due-agree, take_due_or-agree, take_due-all}
use Rattle.page_model.proofs.bounds.due_items_are_all_taken.Goals as goal

pub returns-clause-whatever_at_0 : goal.returns-clause-whatever_at_0
returns-clause-whatever_at_0 c = λ other n p h. take_due_or-agree other n (item_count p) p (omega (arith, items-within p)) (items-within p)

pub returns-clause-greater : goal.returns-clause-greater
returns-clause-greater c = λ n p h. take_due-agree n (item_count p) p (omega (arith, items-within p)) (items-within p)

pub returns-clause-none_left : goal.returns-clause-none_left
returns-clause-none_left c = λ p. take_due-all (item_count p) p (items-within p)
