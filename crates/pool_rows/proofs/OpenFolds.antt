-- How many folds are open after the last step of one.
use Rattle.std.proofs.Common.{◌≡◌, ℕ, ◌+◌, List, [], ◌∷◌, length, Option, Some, None, sym, subst, arith}
use Rattle.std.specs.Prelude.{⊤, codes}
use Rattle.page_types.specs.declared.Priority.{Priority}
use Rattle.page_parts.specs.AbortGraph.{the_signal}
use Rattle.page_parts.specs.Listeners.{Listener, AtSignal, snapshot}
use Rattle.page_model.specs.Folds.{ChangePiece, ChangeOf, EndChange, Rest, AbortsLeft, ChangesLeft}
use Rattle.page_events.specs.Dispatching.{next_listening, behind_next}
use Rattle.page_events.specs.declared.target.Target.{Target}
use Rattle.page_events.specs.declared.target.Target.TheVariants.{Signal}
use Rattle.page_folds.specs.declared.step.FoldStep.{FoldStep}
use Rattle.page_folds.specs.declared.step.FoldStep.TheVariants as step
use Rattle.page_folds.specs.Steps.{Parts, Stage, Between, Algorithms, ToTell, ToFire, Calling, OpenFold, Came, Ends, Gives, Standing, listener_next, stage_next, or_then, algorithms_taken, aborts_from, before_change, change_from, changes_from, change_ended, rest_from, goes_on, after, stepped, stepped_in}

-- a step that a fold gives is not its end
abbrev IsGiven : FoldStep → Type 0
IsGiven (step.Algorithm a) = ⊤
IsGiven (step.Listener target r) = ⊤
IsGiven (step.Changed s before) = ⊤
IsGiven step.Finished = ⊥

abbrev NextGiven : Option (FoldStep × Stage) → Type 0
NextGiven None = ⊤
NextGiven (Some a) = IsGiven a.0

listener-given : (ls : List Listener) (target : Target) (left : List ℕ) → NextGiven (listener_next ls target left)
listener-given ls target left = by (next_listening ls left)
  where
    by : (o : Option ℕ) → NextGiven (elim o [ None ↦ None | Some r ↦ Some (step.Listener target r, Calling target (behind_next ls left)) ])
    by None = tt
    by (Some r) = tt

stage-given : (ls : List Listener) (stage : Stage) → NextGiven (stage_next ls stage)
stage-given ls Between = tt
stage-given ls (Algorithms s []) = listener-given ls (Signal s) (snapshot (AtSignal s) (codes "abort") ls)
stage-given ls (Algorithms s (a ∷ left)) = tt
stage-given ls (ToTell s before) = tt
stage-given ls (ToFire s) = listener-given ls (Signal s) (snapshot (AtSignal s) (codes "prioritychange") ls)
stage-given ls (Calling target left) = listener-given ls target left

-- at the end of a fold this many others are open
abbrev Closes : ℕ → FoldStep → ℕ → Type 0
Closes ticket (step.Algorithm a) n = ⊤
Closes ticket (step.Listener target r) n = ⊤
Closes ticket (step.Changed s before) n = ⊤
Closes ticket step.Finished n = n ≡ ticket

given-closes : (ticket n : ℕ) (s : FoldStep) → IsGiven s → Closes ticket s n
given-closes ticket n (step.Algorithm a) h = tt
given-closes ticket n (step.Listener target r) h = tt
given-closes ticket n (step.Changed s before) h = tt
given-closes ticket n step.Finished h = absurd h

module _ {R : Type 0} where
  abbrev CameGiven : Came R → Type 0
  CameGiven (Ends ps) = ⊤
  CameGiven (Gives s fold ps) = IsGiven s

  then-given : (o : Option (FoldStep × Stage)) (rest : Rest) (next : Parts R → Came R) (ps : Parts R) → NextGiven o → CameGiven (next ps) → CameGiven (or_then o rest next ps)
  then-given None rest next ps h more = more
  then-given (Some a) rest next ps h more = h

  aborts-given : (left : List ℕ) (ps : Parts R) → CameGiven (aborts_from left ps)
  aborts-given [] ps = tt
  aborts-given (s ∷ left) ps =
      let own = Algorithms s (the_signal ps.signals s).algorithms in
      then-given (stage_next ps.listeners own) (AbortsLeft left) (aborts_from left) (algorithms_taken s ps) (stage-given ps.listeners own) (aborts-given left (algorithms_taken s ps))

  change-given : (o : Option Priority) (priority : Priority) (chain s : ℕ) (more : List ChangePiece) (next : Parts R → Came R) (ps : Parts R) → CameGiven (next ps) → CameGiven (change_from o priority chain s more next ps)
  change-given None priority chain s more next ps h = h
  change-given (Some before) priority chain s more next ps h = tt

  changes-given : (priority : Priority) (more : List ChangePiece) (ps : Parts R) → CameGiven (changes_from priority more ps)
  changes-given priority [] ps = tt
  changes-given priority (ChangeOf chain s ∷ more) ps =
      change-given (before_change chain ps.prios s priority) priority chain s more (changes_from priority more) ps (changes-given priority more ps)
  changes-given priority (EndChange s ∷ more) ps = changes-given priority more (change_ended s ps)

  rest-given : (rest : Rest) (ps : Parts R) → CameGiven (rest_from rest ps)
  rest-given (AbortsLeft left) ps = aborts-given left ps
  rest-given (ChangesLeft priority more) ps = changes-given priority more ps

  came-closes : (ticket : ℕ) (came : Came R) (around : List OpenFold) → CameGiven came → length around ≡ ticket → Closes ticket (after came around).0 (length (after came around).1.folds)
  came-closes ticket (Ends ps) around h e = e
  came-closes ticket (Gives s fold ps) around h e = given-closes ticket (length (fold ∷ around)) s h

  closes-in : (ticket : ℕ) (folds : List OpenFold) (ps : Parts R) → length folds ≡ ticket + 1 → Closes ticket (stepped_in folds ps).0 (length (stepped_in folds ps).1.folds)
  closes-in ticket [] ps e = absurd (omega (arith, e))
  closes-in ticket (fold ∷ around) ps e =
      came-closes ticket (goes_on fold ps) around
      (then-given (stage_next ps.listeners fold.stage) fold.rest (rest_from fold.rest) ps (stage-given ps.listeners fold.stage) (rest-given fold.rest ps))
      (omega (arith, e))

  -- a fold is closed by its end
  pub step-closes : (ticket : ℕ) (s : FoldStep) (old new : Standing R) → (s, new) ≡ stepped old → length old.folds ≡ ticket + 1 → Closes ticket s (length new.folds)
  step-closes ticket s old new e h =
      let P : FoldStep × Standing R → Type 0 = λ a. Closes ticket a.0 (length a.1.folds) in
      subst P (sym e) (closes-in ticket old.folds old.parts h)
