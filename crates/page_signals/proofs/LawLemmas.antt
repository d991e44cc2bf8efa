-- Open folds are those of a page.
use Rattle.std.proofs.Common.{◌≡◌, ℕ, zero, suc, Bool, true, false, cond, ◌||◌, List, [], ◌∷◌, length, Option, Some, None, refl, ap, sym, ◌∙◌}
use Rattle.std.specs.Prelude.{codes, ⊤}
use Rattle.std.specs.List.{AllByRecursion}
use Rattle.page_types.specs.Values.{Value}
use Rattle.page_types.specs.Events.{Prio}
use Rattle.page_types.specs.declared.Priority.{Priority}
use Rattle.page_parts.specs.Listeners.{Listener, AtSignal, snapshot}
use Rattle.page_parts.specs.TaskSignals.{same_priority, is_changing}
use Rattle.page_parts.specs.AbortGraph.{the_signal}
use Rattle.page_model.specs.State.{Page, emit}
use Rattle.page_model.specs.PageSignals.{has_priority}
use Rattle.page_model.specs.Folds.{ChangePiece, ChangeOf, EndChange, Rest, AbortsLeft, ChangesLeft, Reached, Finished as Done}
use Rattle.page_model.specs.Folds as model
use Rattle.page_events.specs.Dispatching.{next_listening, behind_next}
use Rattle.page_events.specs.declared.target.Target.{Target}
use Rattle.page_events.specs.declared.target.Target.TheVariants.{Signal}
use Rattle.page_folds.specs.declared.step.FoldStep.{FoldStep}
use Rattle.page_folds.specs.declared.step.FoldStep.TheVariants as step
use Rattle.page_folds.specs.Steps.{Parts, Stage, Between, Algorithms, ToTell, ToFire, Calling, OpenFold, Came, Ends, Gives, listener_next, stage_next, or_then, aborts_from, before_change, change_from, changes_from, change_ended, algorithms_taken, rest_from, goes_on}
use Rattle.page_folds.specs.OfModel.{OfChange, Fits, meaning, came_meaning, page_with, told}
use Rattle.page_folds.proofs.ModelLemmas.{step-is, change-begins}
use Rattle.page_folds.proofs.VisitLemmas.{CameFalls, fold-falls}
use Rattle.page_signals.specs.Signalling.{Open, Signalling, parts_of, with_parts, with_signalling}
use Rattle.page_signals.specs.Steps.{change_opened_from, priority_to, came_after, stepped_in, Falls, to_visit}
use Rattle.page_signals.specs.Kept.{FoldFits, AreFitting}
use Rattle.page_signals.specs.Laws.{arguments_in, innermost_meaning, visit_meaning, StepIs, IsCalling, CallingIs, ChangeIs, FallsAt}

-- ---- steps

came-is : (o : Open) (around : List Open) (came : Came Value) (p : Page) → AreFitting (came_after o around came).1
    → came_meaning o.kind came p ≡ visit_meaning (came_after o around came) p
came-is o around (Ends ps) p fits = refl
came-is o around (Gives (step.Algorithm a) fold ps) p fits = refl
came-is o around (Gives (step.Listener target r) fold ps) p fits = refl
came-is o around (Gives (step.Changed s before) fold ps) p fits = by fold.rest fits.0
  where
    by : (rest : Rest) → ((q : Page) → Fits (OfChange before) rest (page_with ps q))
        → meaning (OfChange before) fold (told s rest (page_with ps p))
        ≡ meaning (OfChange before) fold (emit (Prio s (priority_to before rest)) (page_with ps p))
    by (AbortsLeft ss) h = absurd (h p)
    by (ChangesLeft priority more) h = refl
came-is o around (Gives step.Finished fold ps) p fits = refl

step-in : (folds : List Open) (st : Signalling) (p : Page) → AllByRecursion (FoldFits st) folds → AreFitting (stepped_in folds st).1
    → innermost_meaning folds (with_signalling st p) ≡ visit_meaning (stepped_in folds st) p
step-in [] st p fits after = refl
step-in (o ∷ around) st p fits after =
    step-is p o.kind o.fold (parts_of st) (fits.0 p) ∙ came-is o around (goes_on o.fold (parts_of st)) p after

pub page-step : (st : Signalling) (p : Page) → StepIs st p
page-step st p fits after = step-in st.folds st p fits after

-- ---- listeners that are called

-- a step that calls a listener stands among the listeners that are left
abbrev StageCalls : FoldStep → Stage → Type 0
StageCalls (step.Algorithm a) stage = ⊤
StageCalls (step.Listener target r) stage = (left : List ℕ) × (stage ≡ Calling target left)
StageCalls (step.Changed s before) stage = ⊤
StageCalls step.Finished stage = ⊤

abbrev NextCalls : Option (FoldStep × Stage) → Type 0
NextCalls None = ⊤
NextCalls (Some a) = StageCalls a.0 a.1

abbrev CameCalls : Came Value → Type 0
CameCalls (Ends ps) = ⊤
CameCalls (Gives s fold ps) = StageCalls s fold.stage

listener-calls : (ls : List Listener) (target : Target) (left : List ℕ) → NextCalls (listener_next ls target left)
listener-calls ls target left = by (next_listening ls left)
  where
    by : (o : Option ℕ) → NextCalls (elim o [ None ↦ None | Some r ↦ Some (step.Listener target r, Calling target (behind_next ls left)) ])
    by None = tt
    by (Some r) = (behind_next ls left, refl)

stage-calls : (ls : List Listener) (stage : Stage) → NextCalls (stage_next ls stage)
stage-calls ls Between = tt
stage-calls ls (Algorithms s []) = listener-calls ls (Signal s) (snapshot (AtSignal s) (codes "abort") ls)
stage-calls ls (Algorithms s (a ∷ left)) = tt
stage-calls ls (ToTell s before) = tt
stage-calls ls (ToFire s) = listener-calls ls (Signal s) (snapshot (AtSignal s) (codes "prioritychange") ls)
stage-calls ls (Calling target left) = listener-calls ls target left

or-calls : (o : Option (FoldStep × Stage)) (rest : Rest) (next : Parts Value → Came Value) (ps : Parts Value) → NextCalls o → CameCalls (next ps)
    → CameCalls (or_then o rest next ps)
or-calls None rest next ps here later = later
or-calls (Some a) rest next ps here later = here

aborts-call : (left : List ℕ) (ps : Parts Value) → CameCalls (aborts_from left ps)
aborts-call [] ps = tt
aborts-call (s ∷ left) ps =
    let own = Algorithms s (the_signal ps.signals s).algorithms in
    or-calls (stage_next ps.listeners own) (AbortsLeft left) (aborts_from left) (algorithms_taken s ps) (stage-calls ps.listeners own)
    (aborts-call left (algorithms_taken s ps))

change-calls : (o : Option Priority) (priority : Priority) (chain s : ℕ) (more : List ChangePiece) (ps : Parts Value)
    → CameCalls (changes_from priority more ps) → CameCalls (change_from o priority chain s more (changes_from priority more) ps)
change-calls None priority chain s more ps later = later
change-calls (Some before) priority chain s more ps later = tt

changes-call : (priority : Priority) (more : List ChangePiece) (ps : Parts Value) → CameCalls (changes_from priority more ps)
changes-call priority [] ps = tt
changes-call priority (ChangeOf chain s ∷ more) ps =
    change-calls (before_change chain ps.prios s priority) priority chain s more ps (changes-call priority more ps)
changes-call priority (EndChange s ∷ more) ps = changes-call priority more (change_ended s ps)

rest-calls : (rest : Rest) (ps : Parts Value) → CameCalls (rest_from rest ps)
rest-calls (AbortsLeft left) ps = aborts-call left ps
rest-calls (ChangesLeft priority more) ps = changes-call priority more ps

fold-calls : (fold : OpenFold) (ps : Parts Value) → CameCalls (goes_on fold ps)
fold-calls fold ps =
    or-calls (stage_next ps.listeners fold.stage) fold.rest (rest_from fold.rest) ps (stage-calls ps.listeners fold.stage) (rest-calls fold.rest ps)

came-calls : (o : Open) (around : List Open) (came : Came Value) → CameCalls came → IsCalling (came_after o around came)
came-calls o around (Ends ps) calls = tt
came-calls o around (Gives (step.Algorithm a) fold ps) calls = tt
came-calls o around (Gives (step.Listener target r) fold ps) calls = ap (arguments_in o.kind) calls.1
came-calls o around (Gives (step.Changed s before) fold ps) calls = tt
came-calls o around (Gives step.Finished fold ps) calls = tt

calling-in : (folds : List Open) (st : Signalling) → IsCalling (stepped_in folds st)
calling-in [] st = tt
calling-in (o ∷ around) st = came-calls o around (goes_on o.fold (parts_of st)) (fold-calls o.fold (parts_of st))

pub page-calling : (st : Signalling) → CallingIs st
page-calling st = calling-in st.folds st

-- ---- changes

-- a signal that has the priority is passed over
passed-over : (priority : Priority) (n s : ℕ) (next : Page → Reached) (p : Page) → has_priority p.prios s priority ≡ true
    → model.change_from priority n s [] next p ≡ next p
passed-over priority zero s next p has = refl
passed-over priority (suc n) s next p has = by (is_changing p.prios s) (has_priority p.prios s priority) has _
  where
    by : (a b : Bool) → b ≡ true → (other : Reached) → cond (a || b) (next p) other ≡ next p
    by true b e other = refl
    by false true e other = refl
    by false false e other = cc

-- what stands where the signal has this priority, or none
abbrev begun_from : Option Priority → ℕ → Priority → Signalling → Page → Reached
begun_from own s priority st p =
    cond (elim own as (λ _. Bool) [ None ↦ false | Some q ↦ same_priority q priority ]) (Done (with_signalling st p))
    (innermost_meaning (change_opened_from own s priority st).folds (with_signalling (change_opened_from own s priority st) p))

pub page-change : (s : ℕ) (priority : Priority) (st : Signalling) (p : Page) → ChangeIs s priority st p
page-change s priority st p still own at = by (same_priority own priority) refl ∙ ap (λ o. begun_from o s priority st p) (sym at)
  where
    by : (b : Bool) → same_priority own priority ≡ b
        → model.begin_change priority (length st.prios) s (with_signalling st p) ≡ begun_from (Some own) s priority st p
    by true e =
        let has : has_priority st.prios s priority ≡ true = ap (λ (o : Option Priority). elim o as (λ _. Bool) [ None ↦ false | Some q ↦ same_priority q priority ]) at ∙ e in
        passed-over priority (length st.prios) s (model.changes_from priority []) (with_signalling st p) has ∙ rw e refl
    by false e = change-begins p s priority (parts_of st) own at e still ∙ rw e refl

-- ---- what is left

came-falls : (o : Open) (around : List Open) (came : Came Value) (st : Signalling) → CameFalls (to_visit st) came
    → Falls (came_after o around came).0 st (came_after o around came).1
came-falls o around (Ends ps) st falls = tt
came-falls o around (Gives (step.Algorithm a) fold ps) st falls = falls
came-falls o around (Gives (step.Listener target r) fold ps) st falls = falls
came-falls o around (Gives (step.Changed s before) fold ps) st falls = falls
came-falls o around (Gives step.Finished fold ps) st falls = tt

falls-in : (folds : List Open) (ps : Parts Value)
    → Falls (stepped_in folds (with_parts ps folds)).0 (with_parts ps folds) (stepped_in folds (with_parts ps folds)).1
falls-in [] ps = tt
falls-in (o ∷ around) ps = came-falls o around (goes_on o.fold ps) (with_parts ps (o ∷ around)) (fold-falls o.fold ps)

pub page-falls : (st : Signalling) → FallsAt st
page-falls st = falls-in st.folds (parts_of st)
