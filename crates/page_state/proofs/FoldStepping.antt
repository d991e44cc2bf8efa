-- What a step of the innermost fold leaves: the folds around it, and by which priorities scheduler tasks are selected.
use Rattle.std.proofs.Common.{◌≡◌, ℕ, Bool, true, false, List, [], ◌∷◌, Option, Some, None, refl, ap, sym, ◌∙◌, subst, arith}
use Rattle.std.specs.Prelude.{◌≢◌, ◌==◌, if◌then◌else◌, option_map}
use Rattle.std.proofs.lemmas.Bool.Decides.{nat_tests}
use Rattle.page_types.specs.Values.{Value}
use Rattle.page_types.specs.declared.Priority.{Priority}
use Rattle.page_parts.specs.TaskSignals.{Prios, priority_of, same_priority, begun}
use Rattle.page_folds.specs.declared.step.FoldStep.TheVariants as step
use Rattle.page_folds.specs.Steps.{Parts, Came, Ends, Gives, goes_on, change_fold}
use Rattle.page_folds.specs.OfModel.{OfChange}
use Rattle.page_folds.specs.AtRest.{ChangedAlone}
use Rattle.page_folds.proofs.RestLemmas.{same-priority, alone-begun, CamePrios, fold-prios}
use Rattle.page_tasks.specs.Queued.{Queued, SignalPriority, priority_for, IsMoved}
use Rattle.page_signals.specs.Signalling.{Open, Signalling, parts_of, with_parts}
use Rattle.page_signals.specs.Steps.{Visit, Algorithm, Listener, Changed, Finished, came_after, stepped_in, stepped, opened, change_opened_from, change_opened}
use Rattle.page_state.specs.Selecting.{AreSelectedBy}
use Rattle.page_state.specs.FoldActs.{around, changed_in, AllBut}

-- ---- the folds around

-- at the end the fold is closed, and else those around it stay
abbrev pub FoldsAfter : Visit → (before after : List Open) → Type 0
FoldsAfter (Algorithm r reason) before after = around after ≡ around before
FoldsAfter (Listener r args) before after = around after ≡ around before
FoldsAfter (Changed s own priority) before after = around after ≡ around before
FoldsAfter Finished before after = after ≡ around before

-- a step, the priorities and the folds after it
abbrev Leaves : Prios → List Open → Visit × Signalling → Type 0
Leaves prios folds a = AllBut (changed_in a.0) prios a.1.prios × FoldsAfter a.0 folds a.1.folds

came-leaves : (prios : Prios) (o : Open) (os : List Open) (came : Came Value) → CamePrios prios came → Leaves prios (o ∷ os) (came_after o os came)
came-leaves prios o os (Ends ps) h = ((λ t. same-priority ps.prios prios t h), refl)
came-leaves prios o os (Gives (step.Algorithm a) fold ps) h = ((λ t. ap (λ (q : Prios). priority_of q t) h), refl)
came-leaves prios o os (Gives (step.Listener target r) fold ps) h = ((λ t. ap (λ (q : Prios). priority_of q t) h), refl)
came-leaves prios o os (Gives (step.Changed s before) fold ps) h = (h, refl)
came-leaves prios o os (Gives step.Finished fold ps) h = absurd h

in-leaves : (folds : List Open) (ps : Parts Value) → Leaves ps.prios folds (stepped_in folds (with_parts ps folds))
in-leaves [] ps = ((λ t. refl), refl)
in-leaves (o ∷ os) ps = came-leaves ps.prios o os (goes_on o.fold ps) (fold-prios o.fold ps)

module _ (v : Visit) (before after : Signalling) (is : (v, after) ≡ stepped before) where
  leaves : Leaves before.prios before.folds (v, after)
  leaves = let P : Visit × Signalling → Type 0 = Leaves before.prios before.folds in subst P (sym is) (in-leaves before.folds (parts_of before))

  pub step-prios : AllBut (changed_in v) before.prios after.prios
  step-prios = leaves.0

  pub step-folds : FoldsAfter v before.folds after.folds
  step-folds = leaves.1

-- ---- selection

pub unchanged-selected : (before after : Prios) (rooms : List SignalPriority) → AllBut None before after → AreSelectedBy before rooms → AreSelectedBy after rooms
unchanged-selected before after rooms same h = record { each = λ t own found. same t ∙ h.each t own found }

none-some : (o : Option Priority) (own : Priority) → o ≡ None → o ≡ Some own → ⊥
none-some None own e f = Prim.cc
none-some (Some x) own e f = Prim.cc

at-signal : (s t : ℕ) → (s == t) ≡ true → t ≡ s
at-signal s t e = grind (arith, nat_tests)

other-signal : (s t : ℕ) → (s == t) ≡ false → t ≢ s
other-signal s t e = grind (arith, nat_tests)

-- the signal has no priority
pub none-selected : (s : ℕ) (before after : Prios) (rooms : List SignalPriority) → priority_of after s ≡ None → ChangedAlone s before after
    → AreSelectedBy before rooms → AreSelectedBy after rooms
none-selected s before after rooms none alone h = record { each = λ t own found. by t own (s == t) refl (h.each t own found) }
  where
    by : (t : ℕ) (own : Priority) (b : Bool) → (s == t) ≡ b → priority_of before t ≡ Some own → priority_of after t ≡ Some own
    by t own true e is = absurd (none-some (priority_of before s) own (alone.there none) (ap (priority_of before) (sym (at-signal s t e)) ∙ is))
    by t own false e is = alone.others t (other-signal s t e) ∙ is

given-priority : (o : Option Priority) (priority own : Priority) → option_map (λ _. priority) o ≡ Some own → Some priority ≡ Some own
given-priority None priority own e = Prim.cc
given-priority (Some x) priority own e = e

-- its tasks have the priority that it has now
pub moved-selected : (s : ℕ) (priority : Priority) (before after : Prios) (old new : Queued) → IsMoved s priority old new → priority_of after s ≡ Some priority
    → ChangedAlone s before after → AreSelectedBy before old.priorities → AreSelectedBy after new.priorities
moved-selected s priority before after old new moved has alone h = record { each = λ t own found. by t own (s == t) refl (sym (moved t) ∙ found) }
  where
    by : (t : ℕ) (own : Priority) (b : Bool) → (s == t) ≡ b
        → (if b then option_map (λ _. priority) (priority_for old.priorities t) else priority_for old.priorities t) ≡ Some own → priority_of after t ≡ Some own
    by t own true e found = ap (priority_of after) (at-signal s t e) ∙ has ∙ given-priority (priority_for old.priorities t) priority own found
    by t own false e found = alone.others t (other-signal s t e) ∙ h.each t own found

-- ---- a change that is opened

pub opened-alone : (s : ℕ) (priority : Priority) (st : Signalling) → ChangedAlone s st.prios (change_opened s priority st).prios
opened-alone s priority st = from (priority_of st.prios s)
  where
    from : (o : Option Priority) → ChangedAlone s st.prios (change_opened_from o s priority st).prios
    from None = record { others = λ t ne. refl; there = λ none. none }
    from (Some own) = at (same_priority own priority)
      where
        at : (b : Bool) → ChangedAlone s st.prios (if b then st else opened (OfChange own) (change_fold s priority own (parts_of st)) (record st { prios = begun s priority st.prios })).prios
        at true = record { others = λ t ne. refl; there = λ none. none }
        at false = alone-begun s priority st.prios st.prios refl
