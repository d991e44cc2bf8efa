-- What an open fold means where its callbacks nest.
use Rattle.std.specs.Prelude.{List, [], ◌∷◌, ◌++◌}
use Rattle.page_types.specs.Values.{items_of}
use Rattle.page_types.specs.declared.Priority.{Priority}
use Rattle.lang_meaning.specs.Machine.{Done, afterwards, finish, Caller}
use Rattle.lang_meaning.specs.HostSteps.{with_host}
use Rattle.page_model.specs.State.{Page, State, on_page}
use Rattle.page_model.specs.Invoke.{end_of_callback, in_script}
use Rattle.page_model.specs.PageSignals.{each_in_turn, call_listener, abort_steps, change, change_ended}
use Rattle.page_model.specs.Folds.{ChangePiece, ChangeOf, EndChange, Rest, AbortsLeft, ChangesLeft, Fold, Reached, Finished, Calls}

-- ---- Ours: the nested meaning of what is still to visit

-- the pieces of a change
abbrev pub nested_changes : Caller Page → Priority → List ChangePiece → State → Done Page
nested_changes call priority [] m = finish m
nested_changes call priority (ChangeOf n s ∷ more) m =
    afterwards (change (in_script call) priority n s m) (nested_changes call priority more)
nested_changes call priority (EndChange s ∷ more) m = nested_changes call priority more (on_page (change_ended s) m)

-- what comes after the listeners
abbrev pub nested_rest : Caller Page → Rest → State → Done Page
nested_rest call (AbortsLeft ss) m = each_in_turn ss (abort_steps (in_script call)) m
nested_rest call (ChangesLeft priority more) m = nested_changes call priority more m

-- a fold: its listeners, and what comes then
abbrev pub nested_fold : Caller Page → Fold → State → Done Page
nested_fold call fold m = afterwards (each_in_turn fold.listeners (call_listener (in_script call) fold.args) m) (nested_rest call fold.rest)

-- what a fold came to: its end, or the callback, its end, and the fold from there
abbrev pub nested_reached : Caller Page → Reached → State → Done Page
nested_reached call (Finished p) m = finish (with_host p m)
nested_reached call (Calls f fold p) m =
    afterwards (end_of_callback finish fold.when (call f.function (items_of f.bound ++ fold.args) (with_host p m))) (nested_fold call fold)
