use Rattle.std.proofs.Common.{ℕ, Option, Ok, [], ◌∷◌, ◌++◌, length, reverse, subst, sym, ap, ◌∙◌}
use Rattle.page_folds.specs.Begins.{ChangeLeaves}
use Rattle.page_folds.specs.Seen.{standing}
use Rattle.page_folds.specs.Steps.{Standing}
use Rattle.page_signals.specs.Kept.{IsKept}
use Rattle.page_signals.proofs.AbortLemmas.{change-kept}
use Rattle.page_signals.proofs.AdvanceLemmas.{close-kept}
use Rattle.page_signals.proofs.signals.PageSignals.open_change.Goals as goal

pub invariant_of-self-in-Ok-Some : goal.invariant_of-self-in-Ok-Some
invariant_of-self-in-Ok-Some c =
    let a = c.self.inside in
    let n = length a.reasons.items in
    let st = standing a.folds in
    let new = standing c.begin_change.new.self in
    let s = c.args.s in
    let p = c.args.p in
    let before = c.in-Some.before in
    let os = reverse a.opened.items in
    let o = c.new.result in
    let L : Option ℕ → Type 0 = λ r. ChangeLeaves s p st (Ok r) new in
    let leaves = subst L c.in-Ok-Some.field-0-is c.in-Ok-Some.ensures.after in
    let is = leaves before (sym c.priority.ensures ∙ c.in-Some.is) in
    let K : Standing ℕ → Type 0 = λ after. IsKept n after (o ∷ os) in
    close-kept n new c.push_reserved.new.self.items a.opened.items o
    (c.push_reserved.ensures.items ∙ ap (λ xs. xs ++ o ∷ []) c.in_ok-reserve.ensures.items)
    (subst K (sym is) (change-kept n st os s p before o c.new.ensures.kind c.self.invariant))
