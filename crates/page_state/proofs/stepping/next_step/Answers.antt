use Rattle.std.proofs.Common.{ℕ, Option, sym, subst}
use Rattle.page_signals.specs.Seen.{visit_seen}
use Rattle.page_folds.proofs.RestLemmas.{same-priority}
use Rattle.page_state.specs.FoldActs.{AllBut}
use Rattle.page_state.proofs.FoldStepping.{step-prios, unchanged-selected}
use Rattle.page_state.proofs.stepping.next_step.Goals as goal

pub returns-in-Ok-clause-selected : goal.returns-in-Ok-clause-selected
returns-in-Ok-clause-selected g c =
    let old = c.args.signals.now in
    let new = c.step.new.self in
    let P : Option ℕ → Type 0 = λ o. AllBut o old.prios new.prios in
    c.select_changed.ensures.selected old.prios (subst P (sym c.changed_signal-changed.ensures) (step-prios (visit_seen c.in-Ok.visit) old new c.in-Ok.ensures.step))

pub returns-in-Err-clause-selected : goal.returns-in-Err-clause-selected
returns-in-Err-clause-selected g c =
    let old = c.args.signals.now in
    let new = c.step.new.self in
    unchanged-selected old.prios new.prios c.args.tasks.now.priorities (λ t. same-priority new.prios old.prios t c.in-Err.ensures.err.prios)
