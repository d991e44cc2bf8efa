-- How many algorithms, listeners and changes a fold has still to visit: the listeners of a dispatch that has begun are those left of its
-- snapshot, and those of one that has not begun are counted as they are now.
use Rattle.std.specs.Prelude.{ℕ, zero, suc, ◌+◌, ◌<◌, if◌then◌else◌, List, [], ◌∷◌, length, sum_by, ⊤, codes}
use Rattle.page_types.specs.declared.Priority.{Priority}
use Rattle.page_parts.specs.AbortGraph.{the_signal}
use Rattle.page_parts.specs.TaskSignals.{followers}
use Rattle.page_parts.specs.Listeners.{Listener, AtSignal, snapshot}
use Rattle.page_model.specs.PageSignals.{has_priority}
use Rattle.page_model.specs.Folds.{ChangePiece, ChangeOf, EndChange, Rest, AbortsLeft, ChangesLeft}
use Rattle.page_folds.specs.declared.step.FoldStep.{FoldStep}
use Rattle.page_folds.specs.declared.step.FoldStep.TheVariants.{Finished}
use Rattle.page_folds.specs.Steps.{Parts, Stage, Between, Algorithms, ToTell, ToFire, Calling, OpenFold, Standing}

-- how many listeners hear an event of this name at a signal
abbrev pub heard : List Listener → List ℕ → ℕ → ℕ
heard ls name s = length (snapshot (AtSignal s) name ls)

-- what a stage has still to visit
abbrev pub stage_visits : List Listener → Stage → ℕ
stage_visits ls Between = 0
stage_visits ls (Algorithms s left) = length left + heard ls (codes "abort") s
stage_visits ls (ToTell s before) = 1 + heard ls (codes "prioritychange") s
stage_visits ls (ToFire s) = heard ls (codes "prioritychange") s
stage_visits ls (Calling target left) = length left

-- the abort steps of these signals
abbrev pub abort_visits : {R : Type 0} → Parts R → List ℕ → ℕ
abort_visits ps [] = 0
abort_visits ps (s ∷ ss) =
    length (the_signal ps.signals s).algorithms + heard ps.listeners (codes "abort") s + abort_visits ps ss

-- The change of a signal, and of those that follow it, where no chain of followers is longer than the number. None where this is its
-- priority already.
abbrev pub change_visits : {R : Type 0} → Priority → Parts R → (zero s : ℕ) → ℕ
change_visits priority ps zero s = 0
change_visits priority ps (suc n) s =
    if has_priority ps.prios s priority
    then 0
    else 1 + heard ps.listeners (codes "prioritychange") s + sum_by (change_visits priority ps n) (followers ps.prios s)

-- the pieces of a change
abbrev pub piece_visits : {R : Type 0} → Priority → Parts R → List ChangePiece → ℕ
piece_visits priority ps [] = 0
piece_visits priority ps (ChangeOf chain s ∷ more) = change_visits priority ps chain s + piece_visits priority ps more
piece_visits priority ps (EndChange s ∷ more) = piece_visits priority ps more

-- what comes after a stage
abbrev pub rest_visits : {R : Type 0} → Parts R → Rest → ℕ
rest_visits ps (AbortsLeft ss) = abort_visits ps ss
rest_visits ps (ChangesLeft priority more) = piece_visits priority ps more

-- what a fold has still to visit
abbrev pub fold_visits : {R : Type 0} → Parts R → OpenFold → ℕ
fold_visits ps fold = stage_visits ps.listeners fold.stage + rest_visits ps fold.rest

-- the same of the innermost of these folds
abbrev pub innermost_visits : {R : Type 0} → Parts R → List OpenFold → ℕ
innermost_visits ps [] = 0
innermost_visits ps (fold ∷ around) = fold_visits ps fold

abbrev pub to_visit : {R : Type 0} → Standing R → ℕ
to_visit st = innermost_visits st.parts st.folds

-- at each step that is not the end, less is left to visit
abbrev pub Falls : {R : Type 0} → FoldStep → (before after : Standing R) → Type 0
Falls Finished before after = ⊤
Falls step before after = to_visit after < to_visit before
