use Rattle.std.proofs.Common.{ap, sym, ◌∙◌, Some}
use Rattle.page_interp.proofs.SmallSteps.{pushed_moves, pops_moves, swaps_moves, empty}
use Rattle.page_interp.proofs.ValueSteps.{or_stops, or_last, or_next, or_no_bool}
use Rattle.page_interp.proofs.receiving.into_or.Goals as goal

pub returns-in-Some-true-clause-ok : goal.returns-in-Some-true-clause-ok
returns-in-Some-true-clause-ok g c = pops_moves g.H.Host.rules _ (or_stops _ _ (sym c.in-Some-true.ensures ∙ ap Some c.in-Some-true.field-0-test))

pub returns-in-Some-clause-ok : goal.returns-in-Some-clause-ok
returns-in-Some-clause-ok g c = pushed_moves _ _ _ _ _ _ c.wait.ensures.pushed c.wait.ensures.next (swaps_moves g.H.Host.rules _ (or_next _ _ _ _ (sym c.in-Some-false.ensures ∙ ap Some c.in-Some-false.field-0-test) c.in-Some.ensures.cases.0))

pub returns-in-None-split_first-clause-ok : goal.returns-in-None-split_first-clause-ok
returns-in-None-split_first-clause-ok g c = pops_moves g.H.Host.rules _ (or_last _ _ (sym c.in-Some-false.ensures ∙ ap Some c.in-Some-false.field-0-test) (empty _ c.in-None-split_first.ensures.cases))

pub returns-in-None-clause-ok : goal.returns-in-None-clause-ok
returns-in-None-clause-ok g c = pops_moves g.H.Host.rules _ (or_no_bool _ _ _ (sym c.in-None.ensures) c.fault.ensures)
