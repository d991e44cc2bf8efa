use Rattle.std.proofs.Common.{refl}
use Rattle.page_interp.proofs.SmallSteps.{pushed_moves, pushes_moves, stays_moves, empty}
use Rattle.page_interp.proofs.StmtSteps.{others_pushes, others_last}
use Rattle.page_interp.proofs.BlockSteps.{else_none}
use Rattle.page_interp.proofs.blocks.into_else.Goals as goal

pub returns-in_ok-push-in-Some-clause-ok : goal.returns-in_ok-push-in-Some-clause-ok
returns-in_ok-push-in-Some-clause-ok g c = pushed_moves c.wait.result _ _ _ _ _ (rw c.in_ok-push-in-Some.ensures.pushed at c.wait.ensures.pushed) c.wait.ensures.next (pushes_moves g.H.Host.rules _ (others_pushes _ _ _ c.in-Some.other _ _ c.in-Some.ensures.cases.0 refl c.deref.ensures.value))

pub returns-in-Some-last-clause-ok : goal.returns-in-Some-last-clause-ok
returns-in-Some-last-clause-ok g c = pushed_moves c.within.result _ _ _ _ _ c.within.ensures.pushed c.within.ensures.next (stays_moves g.H.Host.rules _ (others_last _ _ _ _ (empty _ c.in-None.ensures.cases) c.in-Some-last.is c.deref-in-Some-last.ensures.value))

pub returns-in-None-last-clause-ok : goal.returns-in-None-last-clause-ok
returns-in-None-last-clause-ok g c = else_none g.H.Host.rules _ _ _ _ (empty _ c.in-None.ensures.cases) c.in-None-last.is
