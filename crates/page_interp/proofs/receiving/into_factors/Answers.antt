use Rattle.std.proofs.Common.{refl}
use Rattle.page_interp.proofs.SmallSteps.{pushed_moves, pops_moves, swaps_moves, empty}
use Rattle.page_interp.proofs.ValueSteps.{factors_last, factors_next}
use Rattle.page_interp.proofs.receiving.into_factors.Goals as goal

pub returns-in-Some-clause-ok : goal.returns-in-Some-clause-ok
returns-in-Some-clause-ok g c = pushed_moves _ _ _ _ _ _ c.wait.ensures.pushed c.wait.ensures.next (swaps_moves g.H.Host.rules _ (factors_next _ _ _ c.in-Some.factor _ c.in-Some.ensures.cases.0 refl))

pub returns-in-None-clause-ok : goal.returns-in-None-clause-ok
returns-in-None-clause-ok g c = pops_moves g.H.Host.rules _ (factors_last _ _ (empty _ c.in-None.ensures.cases))
