use Rattle.page_interp.proofs.SmallSteps.{answer_moves, swaps_moves}
use Rattle.page_interp.proofs.ValueSteps.{terms_answer}
use Rattle.page_interp.proofs.receiving.into_term.Goals as goal

pub returns-clause-ok : goal.returns-clause-ok
returns-clause-ok g c = rw c.in_ok-push.ensures.pushed (answer_moves c.come.result _ _ _ _ _ c.come.ensures.ok c.add.ensures (λ f h. swaps_moves g.H.Host.rules _ (terms_answer _ _ _ _ f h)))
