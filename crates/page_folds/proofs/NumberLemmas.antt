-- A fold goes on in the same way where the reasons of signals are numbers and where they are values.
use Rattle.std.proofs.Common.{◌≡◌, ℕ, List, [], ◌∷◌, Option, Some, None, refl, ap, sym, ◌∙◌}
use Rattle.page_types.specs.Values.{Value}
use Rattle.page_types.specs.declared.Priority.{Priority}
use Rattle.page_parts.specs.AbortGraph.{SignalRecord, Signals, the_signal}
use Rattle.abort_graph.specs.ByValue.{by_value}
use Rattle.abort_graph.proofs.ByValueLemmas.{signal_by, with_algorithms_by}
use Rattle.page_model.specs.Folds.{ChangePiece, ChangeOf, EndChange, Rest, AbortsLeft, ChangesLeft}
use Rattle.page_folds.specs.declared.step.FoldStep.{FoldStep}
use Rattle.page_folds.specs.Steps.{Parts, Stage, Algorithms, OpenFold, Came, stage_next, or_then, algorithms_taken, aborts_from, before_change, change_from, changes_from, change_ended, rest_from}
use Rattle.page_folds.specs.OfModel.{parts_by, came_by, NumbersAre}

module _ (f : ℕ → Value) where
  -- a step, or what comes where there is none
  or-by : (o : Option (FoldStep × Stage)) (rest : Rest) (next : Parts Value → Came Value) (other : Parts ℕ → Came ℕ) (ps : Parts ℕ)
      → next (parts_by f ps) ≡ came_by f (other ps) → or_then o rest next (parts_by f ps) ≡ came_by f (or_then o rest other ps)
  or-by None rest next other ps same = same
  or-by (Some a) rest next other ps same = refl

  taken-by : (s : ℕ) (ps : Parts ℕ) → algorithms_taken s (parts_by f ps) ≡ parts_by f (algorithms_taken s ps)
  taken-by s ps =
      ap (λ (ss : Signals Value). record { listeners = ps.listeners; signals = ss; prios = ps.prios }) (sym (with_algorithms_by f ps.signals s []))

  aborts-by : (left : List ℕ) (ps : Parts ℕ) → aborts_from left (parts_by f ps) ≡ came_by f (aborts_from left ps)
  aborts-by [] ps = refl
  aborts-by (s ∷ left) ps =
      let own : List ℕ = (the_signal ps.signals s).algorithms in
      let same : (the_signal (by_value f ps.signals) s).algorithms ≡ own = ap (λ (q : SignalRecord Value). q.algorithms) (signal_by f ps.signals s) in
      ap (λ (as' : List ℕ). or_then (stage_next ps.listeners (Algorithms s as')) (AbortsLeft left) (aborts_from left) (algorithms_taken s (parts_by f ps))) same
      ∙ ap (or_then (stage_next ps.listeners (Algorithms s own)) (AbortsLeft left) (aborts_from left)) (taken-by s ps)
      ∙ or-by (stage_next ps.listeners (Algorithms s own)) (AbortsLeft left) (aborts_from left) (aborts_from left) (algorithms_taken s ps)
      (aborts-by left (algorithms_taken s ps))

  change-by : (o : Option Priority) (priority : Priority) (chain s : ℕ) (more : List ChangePiece) (ps : Parts ℕ)
      → changes_from priority more (parts_by f ps) ≡ came_by f (changes_from priority more ps)
      → change_from o priority chain s more (changes_from priority more) (parts_by f ps) ≡ came_by f (change_from o priority chain s more (changes_from priority more) ps)
  change-by None priority chain s more ps same = same
  change-by (Some before) priority chain s more ps same = refl

  changes-by : (priority : Priority) (more : List ChangePiece) (ps : Parts ℕ) → changes_from priority more (parts_by f ps) ≡ came_by f (changes_from priority more ps)
  changes-by priority [] ps = refl
  changes-by priority (ChangeOf chain s ∷ more) ps =
      change-by (before_change chain ps.prios s priority) priority chain s more ps (changes-by priority more ps)
  changes-by priority (EndChange s ∷ more) ps = changes-by priority more (change_ended s ps)

  rest-by : (rest : Rest) (ps : Parts ℕ) → rest_from rest (parts_by f ps) ≡ came_by f (rest_from rest ps)
  rest-by (AbortsLeft left) ps = aborts-by left ps
  rest-by (ChangesLeft priority more) ps = changes-by priority more ps

  pub fold-by : (fold : OpenFold) (ps : Parts ℕ) → NumbersAre f fold ps
  fold-by fold ps =
      or-by (stage_next ps.listeners fold.stage) fold.rest (rest_from fold.rest) (rest_from fold.rest) ps (rest-by fold.rest ps)
