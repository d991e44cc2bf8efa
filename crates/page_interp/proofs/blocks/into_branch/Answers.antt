use Rattle.std.proofs.Common.{refl, sym, ap, ◌∙◌, Some}
use Rattle.page_interp.proofs.SmallSteps.{pushed_moves}
use Rattle.page_interp.proofs.BlockSteps.{side_moves, moves_after}
use Rattle.page_interp.proofs.blocks.into_branch.Goals as goal

pub returns-in-Some-true-clause-ok : goal.returns-in-Some-true-clause-ok
returns-in-Some-true-clause-ok g c = pushed_moves c.within.result _ _ _ _ _ c.within.ensures.pushed c.within.ensures.next (side_moves g.H.Host.rules _ c.args.value _ _ _ _ _ _ (sym c.in-Some-true.ensures ∙ ap Some c.in-Some-true.field-0-test) refl)

pub returns-in-Some-false-clause-ok : goal.returns-in-Some-false-clause-ok
returns-in-Some-false-clause-ok g c = moves_after g.H.Host.rules c.into_else.result _ (side_moves g.H.Host.rules _ c.args.value _ _ _ _ _ _ (sym c.in-Some-false.ensures ∙ ap Some c.in-Some-false.field-0-test) refl) c.into_else.ensures.ok

pub returns-clause-ok : goal.returns-clause-ok
returns-clause-ok g c = pushed_moves c.within-in-None.result _ _ _ _ _ c.within-in-None.ensures.pushed c.within-in-None.ensures.next (side_moves g.H.Host.rules _ c.args.value _ _ _ _ _ _ (sym c.in-None.ensures) c.fault.ensures)
