use Rattle.page_interp.proofs.SmallSteps.{pushed_moves, pushes_moves, stays_moves}
use Rattle.page_interp.proofs.StmtSteps.{items_pushes, items_stays}
use Rattle.page_interp.proofs.statements.from_items.Goals as goal

pub returns-in-Some-clause-ok : goal.returns-in-Some-clause-ok
returns-in-Some-clause-ok g c = pushed_moves _ _ _ _ _ _ c.within.ensures.pushed c.within.ensures.next (pushes_moves g.H.Host.rules _ (items_pushes _ _ _ c.in-Some.ensures.some))

pub returns-in-None-clause-ok : goal.returns-in-None-clause-ok
returns-in-None-clause-ok g c = stays_moves g.H.Host.rules _ (items_stays _ c.in-None.ensures.none)
