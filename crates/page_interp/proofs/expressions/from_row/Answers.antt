use Rattle.page_interp.proofs.SmallSteps.{pushed_moves, answer_moves, pushes_moves, stays_moves, empty}
use Rattle.page_interp.proofs.ExprSteps.{row_pushes, row_list, row_ask, row_call}
use Rattle.page_interp.proofs.expressions.from_row.Goals as goal

pub returns-in-Some-clause-ok : goal.returns-in-Some-clause-ok
returns-in-Some-clause-ok g c = pushed_moves _ _ _ _ _ _ c.wait.ensures.pushed c.wait.ensures.next (pushes_moves g.H.Host.rules _ (row_pushes _ _ _ _ _ c.in-Some.ensures.cases.0))

pub returns-in-List-clause-ok : goal.returns-in-List-clause-ok
returns-in-List-clause-ok g c = rw c.in-List.is (answer_moves c.come.result _ _ _ _ _ c.come.ensures.ok c.list.ensures (λ f h. stays_moves g.H.Host.rules _ (row_list _ _ f (empty _ c.in-None.ensures.cases) h)))

pub returns-in-Ask-clause-ok : goal.returns-in-Ask-clause-ok
returns-in-Ask-clause-ok g c = rw c.in-Ask.is (stays_moves g.H.Host.rules _ (row_ask _ _ _ (empty _ c.in-None.ensures.cases)))

pub returns-in-Call-clause-ok : goal.returns-in-Call-clause-ok
returns-in-Call-clause-ok g c = rw c.in-Call.is (stays_moves g.H.Host.rules _ (row_call _ _ _ (empty _ c.in-None.ensures.cases)))
