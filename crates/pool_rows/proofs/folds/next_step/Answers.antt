use Rattle.std.proofs.Common.{rules, ◌≡◌, subst}
use Rattle.page_folds.specs.declared.step.FoldStep.{FoldStep}
use Rattle.page_folds.specs.declared.step.FoldStep.TheVariants.{Finished}
use Rattle.page_folds.specs.Steps.{stepped}
use Rattle.page_folds.specs.Seen.{standing}
use Rattle.pool_rows.proofs.OpenFolds.{step-closes}
use Rattle.pool_rows.proofs.folds.next_step.Goals as goal

pub returns-in-Finished : goal.returns-in-Finished
returns-in-Finished g c =
    let old = standing c.args.folds.now in
    let new = standing c.step.new.self in
    let P : FoldStep → Type 0 = λ s. (s, new) ≡ stepped old in
    step-closes c.args.ticket Finished old new (subst P c.in-Finished.is c.in_ok-step.ensures.step) (search rules)
