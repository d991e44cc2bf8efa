use Rattle.std.proofs.Common.{refl}
use Rattle.page_interp.proofs.SmallSteps.{pushed_moves, pushes_moves, stays_moves, empty}
use Rattle.page_interp.proofs.StmtSteps.{others_pushes, others_last, others_none}
use Rattle.page_interp.proofs.statements.from_others.Goals as goal

pub returns-in-Some-clause-ok : goal.returns-in-Some-clause-ok
returns-in-Some-clause-ok g c = pushed_moves _ _ _ _ _ _ c.wait.ensures.pushed c.wait.ensures.next (pushes_moves g.H.Host.rules _ (others_pushes _ _ _ c.in-Some.other _ _ c.in-Some.ensures.cases.0 refl c.deref.ensures.value))

pub returns-in-Some-last-clause-ok : goal.returns-in-Some-last-clause-ok
returns-in-Some-last-clause-ok g c = stays_moves g.H.Host.rules _ (others_last _ _ _ _ (empty _ c.in-None.ensures.cases) c.in-Some-last.is c.deref-in-Some-last.ensures.value)

pub returns-in-None-last-clause-ok : goal.returns-in-None-last-clause-ok
returns-in-None-last-clause-ok g c = stays_moves g.H.Host.rules _ (others_none _ _ (empty _ c.in-None.ensures.cases) c.in-None-last.is)
