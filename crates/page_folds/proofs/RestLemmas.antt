-- Which priorities there are after a step, but for changes that are in progress.
use Rattle.std.proofs.Common.{◌≡◌, ℕ, Bool, true, false, cond, List, [], ◌∷◌, Option, Some, None, refl, ap, sym, ◌∙◌, subst, arith}
use Rattle.std.specs.Prelude.{◌≢◌, ◌==◌, option_map, ⊤}
use Rattle.std.proofs.lemmas.Bool.Decides.{nat_tests}
use Rattle.page_types.specs.declared.Priority.{Priority}
use Rattle.page_parts.specs.AbortGraph.{the_signal}
use Rattle.page_parts.specs.TaskSignals.{PrioRecord, Prios, record_of, priority_of, begun, ended}
use Rattle.page_parts.specs.Listeners.{Listener, AtSignal, snapshot}
use Rattle.page_model.specs.Folds.{ChangePiece, ChangeOf, EndChange, Rest, AbortsLeft, ChangesLeft}
use Rattle.page_events.specs.Dispatching.{next_listening, behind_next}
use Rattle.page_events.specs.declared.target.Target.{Target}
use Rattle.page_events.specs.declared.target.Target.TheVariants.{Signal}
use Rattle.page_folds.specs.declared.step.FoldStep.{FoldStep}
use Rattle.page_folds.specs.declared.step.FoldStep.TheVariants as step
use Rattle.page_folds.specs.Steps.{Parts, Stage, Between, Algorithms, ToTell, ToFire, Calling, OpenFold, Came, Ends, Gives, Standing, listener_next, stage_next, or_then, aborts_from, before_change, change_from, changes_from, change_ended, algorithms_taken, rest_from, goes_on, after, stepped, stepped_in}
use Rattle.page_folds.specs.AtRest.{still, at_rest, ChangedAlone, PriosAfter}
use Rattle.std.specs.Prelude.{codes}

still-at : (r : PrioRecord) (b : Bool) → still (cond b (record r { changing = false }) r) ≡ still r
still-at r true = refl
still-at r false = refl

-- the end of a change
pub rest-ended : (s : ℕ) (ps : Prios) → at_rest (ended s ps) ≡ at_rest ps
rest-ended s [] = refl
rest-ended s (r ∷ rs) =
    let first = still-at r (r.signal == s) in
    let rest = rest-ended s rs in
    cc

-- priorities are those at rest
priority-rest : (t : ℕ) (ps : Prios) → priority_of (at_rest ps) t ≡ priority_of ps t
priority-rest t [] = refl
priority-rest t (r ∷ rs) = by (r.signal == t) (priority-rest t rs)
  where
    by : (b : Bool) → priority_of (at_rest rs) t ≡ priority_of rs t
        → option_map (λ (x : PrioRecord). x.priority) (cond b (Some (still r)) (record_of (at_rest rs) t)) ≡ option_map (λ (x : PrioRecord). x.priority) (cond b (Some r) (record_of rs t))
    by true again = refl
    by false again = again

pub same-priority : (a b : Prios) (t : ℕ) → at_rest a ≡ at_rest b → priority_of a t ≡ priority_of b t
same-priority a b t e = sym (priority-rest t a) ∙ ap (λ ps. priority_of ps t) e ∙ priority-rest t b

-- a change of one record
module _ (s : ℕ) (priority : Priority) where
  abbrev set : PrioRecord → PrioRecord
  set r = record r { priority = priority; changing = true }

  abbrev own : Option PrioRecord → Option Priority
  own o = option_map (λ (x : PrioRecord). x.priority) o

  others-begun : (t : ℕ) (ps : Prios) → t ≢ s → priority_of (begun s priority ps) t ≡ priority_of ps t
  others-begun t [] ne = refl
  others-begun t (r ∷ rs) ne = by (r.signal == s) refl (r.signal == t) refl (others-begun t rs ne)
    where
      by : (b : Bool) → (r.signal == s) ≡ b → (c : Bool) → (r.signal == t) ≡ c → priority_of (begun s priority rs) t ≡ priority_of rs t
          → own (cond ((cond b (set r) r).signal == t) (Some (cond b (set r) r)) (record_of (begun s priority rs) t)) ≡ own (cond (r.signal == t) (Some r) (record_of rs t))
      by true e true f again = absurd (let never : ⊥ = grind (arith, nat_tests) in never)
      by true e false f again = rw f again
      by false e true f again = rw f refl
      by false e false f again = rw f again

  there-begun : (t : ℕ) (ps : Prios) → priority_of (begun s priority ps) t ≡ None → priority_of ps t ≡ None
  there-begun t [] none = refl
  there-begun t (r ∷ rs) none = by (r.signal == s) (r.signal == t) refl (there-begun t rs) none
    where
      by : (b c : Bool) → (r.signal == t) ≡ c → (priority_of (begun s priority rs) t ≡ None → priority_of rs t ≡ None)
          → own (cond ((cond b (set r) r).signal == t) (Some (cond b (set r) r)) (record_of (begun s priority rs) t)) ≡ None → own (cond (r.signal == t) (Some r) (record_of rs t)) ≡ None
      by true true f again = rw f (λ h. absurd (let never : ⊥ = cc in never))
      by true false f again = rw f again
      by false true f again = rw f (λ h. absurd (let never : ⊥ = cc in never))
      by false false f again = rw f again

  pub alone-begun : (before ps : Prios) → at_rest ps ≡ at_rest before → ChangedAlone s before (begun s priority ps)
  alone-begun before ps e =
      record {
        others = λ t ne. others-begun t ps ne ∙ same-priority ps before t e;
        there = λ none. sym (same-priority ps before s e) ∙ there-begun s ps none;
      }

-- ---- steps

-- a step that is given, which is not the end
abbrev pub GivenPrios : FoldStep → (before after : Prios) → Type 0
GivenPrios (step.Algorithm a) before after = after ≡ before
GivenPrios (step.Listener target r) before after = after ≡ before
GivenPrios (step.Changed s own) before after = ChangedAlone s before after
GivenPrios step.Finished before after = ⊥

abbrev pub CamePrios : {R : Type 0} → Prios → Came R → Type 0
CamePrios before (Ends ps) = at_rest ps.prios ≡ at_rest before
CamePrios before (Gives s fold ps) = GivenPrios s before ps.prios

-- the priorities stay
abbrev Stays : Option (FoldStep × Stage) → Type 0
Stays None = ⊤
Stays (Some a) = (ps : Prios) → GivenPrios a.0 ps ps

listener-stays : (ls : List Listener) (target : Target) (left : List ℕ) → Stays (listener_next ls target left)
listener-stays ls target left = by (next_listening ls left)
  where
    by : (o : Option ℕ) → Stays (elim o [ None ↦ None | Some r ↦ Some (step.Listener target r, Calling target (behind_next ls left)) ])
    by None = tt
    by (Some r) = λ ps. refl

stage-stays : (ls : List Listener) (stage : Stage) → Stays (stage_next ls stage)
stage-stays ls Between = tt
stage-stays ls (Algorithms s []) = listener-stays ls (Signal s) (snapshot (AtSignal s) (codes "abort") ls)
stage-stays ls (Algorithms s (a ∷ left)) = λ ps. refl
stage-stays ls (ToTell s before) = λ ps. record { others = λ t ne. refl; there = λ none. none }
stage-stays ls (ToFire s) = listener-stays ls (Signal s) (snapshot (AtSignal s) (codes "prioritychange") ls)
stage-stays ls (Calling target left) = listener-stays ls target left

given-after : (s : FoldStep) (old new : Prios) → GivenPrios s old new → PriosAfter s old new
given-after (step.Algorithm a) old new h = h
given-after (step.Listener target r) old new h = h
given-after (step.Changed s before) old new h = h
given-after step.Finished old new h = absurd h

module _ {R : Type 0} where
  or-prios : (o : Option (FoldStep × Stage)) (rest : Rest) (next : Parts R → Came R) (ps : Parts R) → Stays o → CamePrios ps.prios (next ps) → CamePrios ps.prios (or_then o rest next ps)
  or-prios None rest next ps here later = later
  or-prios (Some a) rest next ps here later = here ps.prios

  aborts-prios : (left : List ℕ) (ps : Parts R) → CamePrios ps.prios (aborts_from left ps)
  aborts-prios [] ps = refl
  aborts-prios (s ∷ left) ps =
      let own = Algorithms s (the_signal ps.signals s).algorithms in
      or-prios (stage_next ps.listeners own) (AbortsLeft left) (aborts_from left) (algorithms_taken s ps) (stage-stays ps.listeners own)
      (aborts-prios left (algorithms_taken s ps))

  change-prios : (before : Prios) (o : Option Priority) (priority : Priority) (chain s : ℕ) (more : List ChangePiece) (ps : Parts R) → at_rest ps.prios ≡ at_rest before
      → CamePrios before (changes_from priority more ps) → CamePrios before (change_from o priority chain s more (changes_from priority more) ps)
  change-prios before None priority chain s more ps e later = later
  change-prios before (Some own) priority chain s more ps e later = alone-begun s priority before ps.prios e

  changes-prios : (before : Prios) (priority : Priority) (more : List ChangePiece) (ps : Parts R) → at_rest ps.prios ≡ at_rest before → CamePrios before (changes_from priority more ps)
  changes-prios before priority [] ps e = e
  changes-prios before priority (ChangeOf chain s ∷ more) ps e =
      change-prios before (before_change chain ps.prios s priority) priority chain s more ps e (changes-prios before priority more ps e)
  changes-prios before priority (EndChange s ∷ more) ps e = changes-prios before priority more (change_ended s ps) (rest-ended s ps.prios ∙ e)

  rest-prios : (rest : Rest) (ps : Parts R) → CamePrios ps.prios (rest_from rest ps)
  rest-prios (AbortsLeft left) ps = aborts-prios left ps
  rest-prios (ChangesLeft priority more) ps = changes-prios ps.prios priority more ps refl

  pub fold-prios : (fold : OpenFold) (ps : Parts R) → CamePrios ps.prios (goes_on fold ps)
  fold-prios fold ps =
      or-prios (stage_next ps.listeners fold.stage) fold.rest (rest_from fold.rest) ps (stage-stays ps.listeners fold.stage) (rest-prios fold.rest ps)

  after-prios : (before : Prios) (came : Came R) (around : List OpenFold) → CamePrios before came → PriosAfter (after came around).0 before (after came around).1.parts.prios
  after-prios before (Ends ps) around h = h
  after-prios before (Gives s fold ps) around h = given-after s before ps.prios h

  in-prios : (folds : List OpenFold) (ps : Parts R) → PriosAfter (stepped_in folds ps).0 ps.prios (stepped_in folds ps).1.parts.prios
  in-prios [] ps = refl
  in-prios (fold ∷ around) ps = after-prios ps.prios (goes_on fold ps) around (fold-prios fold ps)

  -- the priorities after a step of the folds
  pub step-prios : (st new : Standing R) (s : FoldStep) → (s, new) ≡ stepped st → PriosAfter s st.parts.prios new.parts.prios
  step-prios st new s e =
      let P : FoldStep × Standing R → Type 0 = λ a. PriosAfter a.0 st.parts.prios a.1.parts.prios in
      subst P (sym e) (in-prios st.folds st.parts)
