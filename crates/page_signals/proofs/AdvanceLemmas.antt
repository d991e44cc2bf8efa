-- A step of the code, as it is seen.
use Rattle.std.proofs.Common.{◌≡◌, ℕ, ◌+◌, List, [], ◌∷◌, ◌++◌, length, map, reverse, ap, sym, subst, ◌∙◌, arith, length-append}
use Rattle.std.proofs.lemmas.List.{length-reverse, reverse-append}
use Rattle.page_values.specs.declared.Value as code_values
use Rattle.page_values.specs.Seen.{seen}
use Rattle.page_folds.specs.declared.folds.Folds.{Folds}
use Rattle.page_folds.specs.declared.step.FoldStep.{FoldStep}
use Rattle.page_folds.specs.Seen.{standing}
use Rattle.page_folds.specs.Steps.{Standing, stepped as folds_stepped}
use Rattle.page_signals.specs.declared.opened.Open as code
use Rattle.page_signals.specs.Signalling.{Signalling}
use Rattle.page_signals.specs.Steps.{Visit, stepped, Falls}
use Rattle.page_signals.specs.Seen.{signalling_seen}
use Rattle.page_signals.specs.Kept.{IsKept}
use Rattle.page_signals.proofs.FitLemmas.{folds-count}
use Rattle.page_signals.proofs.LawLemmas.{page-falls}
use Rattle.page_signals.proofs.StepLemmas.{StepKept, step-kept, seen_by}

reverse-last : {X : Type 0} (xs all : List X) (x : X) → all ≡ xs ++ x ∷ [] → reverse all ≡ x ∷ reverse xs
reverse-last xs all x e = ap reverse e ∙ reverse-append xs (x ∷ [])

-- the step that the folds give, as one of the innermost of these
pub step-of : (reasons : List code_values.Value) (folds new : Folds) (opened left : List code.Open) (o : code.Open) (s t : FoldStep) → opened ≡ left ++ o ∷ []
    → IsKept (length reasons) (standing folds) (reverse opened) → (s, standing new) ≡ folds_stepped (standing folds) → s ≡ t
    → StepKept (length reasons) (map seen reasons) o (reverse left) (signalling_seen reasons folds opened) (t, standing new)
step-of reasons folds new opened left o s t e kept steps same =
    let n = length reasons in
    let values = map seen reasons in
    let st = standing folds in
    let order = reverse-last left opened o e in
    let K : List code.Open → Type 0 = λ os. IsKept n st os in
    let S : List code.Open → Type 0 = λ os. StepKept n values o (reverse left) (seen_by values os st) (t, standing new) in
    subst S (sym order)
    (step-kept n values o (reverse left) st (t, standing new) (ap (λ (x : FoldStep). (x, standing new)) (sym same) ∙ steps) (subst K order kept))

-- what is seen after it, with the fold put back
pub close-step : (reasons : List code_values.Value) (new : Folds) (after left : List code.Open) (o : code.Open) (visit v : Visit) (before : Signalling) → after ≡ left ++ o ∷ []
    → visit ≡ v → stepped before ≡ (v, seen_by (map seen reasons) (o ∷ reverse left) (standing new)) → (visit, signalling_seen reasons new after) ≡ stepped before
close-step reasons new after left o visit v before e same is =
    ap (λ (x : Visit). (x, signalling_seen reasons new after)) same
    ∙ ap (λ (os : List code.Open). (v, seen_by (map seen reasons) os (standing new))) (reverse-last left after o e)
    ∙ sym is

pub close-kept : (n : ℕ) (st : Standing ℕ) (after left : List code.Open) (o : code.Open) → after ≡ left ++ o ∷ [] → IsKept n st (o ∷ reverse left) → IsKept n st (reverse after)
close-kept n st after left o e kept = let K : List code.Open → Type 0 = λ os. IsKept n st os in subst K (sym (reverse-last left after o e)) kept

-- the ticket of the innermost fold
pub innermost-ticket : (n : ℕ) (st : Standing ℕ) (opened left : List code.Open) (o : code.Open) (ticket : ℕ) → opened ≡ left ++ o ∷ [] → ticket ≡ length left
    → IsKept n st (reverse opened) → length st.folds ≡ ticket + 1
innermost-ticket n st opened left o ticket e at kept =
    omega (arith, folds-count n (reverse opened) st kept, length-reverse opened, ap length e, length-append left (o ∷ []), at)

-- the same steps with the reasons as they are seen
pub stepped-view : (rs reasons : List code_values.Value) (folds new : Folds) (opened after : List code.Open) (old : Signalling) (v : Visit) → rs ≡ reasons
    → (v, signalling_seen rs new after) ≡ stepped (signalling_seen rs folds opened) → signalling_seen reasons folds opened ≡ old
    → (v, signalling_seen reasons new after) ≡ stepped old
stepped-view rs reasons folds new opened after old v e steps view =
    ap (λ (xs : List code_values.Value). (v, signalling_seen xs new after)) (sym e)
    ∙ steps
    ∙ ap (λ (xs : List code_values.Value). stepped (signalling_seen xs folds opened)) e
    ∙ ap stepped view

pub view-falls : (v : Visit) (before after : Signalling) → (v, after) ≡ stepped before → Falls v before after
view-falls v before after e =
    let P : Visit × Signalling → Type 0 = λ a. Falls a.0 before a.1 in subst P (sym e) (page-falls before)
