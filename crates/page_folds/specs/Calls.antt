-- Which open folds call listeners.
use Rattle.std.specs.Prelude.{Bool, true, false, List, [], ◌∷◌}
use Rattle.page_folds.specs.Steps.{Stage, Between, Algorithms, ToTell, ToFire, Calling, OpenFold}

-- whether listeners are called at a stage
abbrev pub calls : Stage → Bool
calls Between = false
calls (Algorithms s left) = false
calls (ToTell s before) = false
calls (ToFire s) = false
calls (Calling target left) = true

-- whether the innermost of these folds calls listeners
abbrev pub calls_in : List OpenFold → Bool
calls_in [] = false
calls_in (fold ∷ around) = calls fold.stage
