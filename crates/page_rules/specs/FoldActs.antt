-- What an open fold comes to, with other events before those that it gives.
use Rattle.std.specs.Prelude.{List}
use Rattle.page_types.specs.Events.{Stamped}
use Rattle.page_model.specs.Additions.{after}
use Rattle.page_model.specs.Folds.{Reached, Finished, Calls}

-- it comes to the same, behind these events (the last one first)
abbrev pub reached_after : List Stamped → Reached → Reached
reached_after es (Finished p) = Finished (after es p)
reached_after es (Calls f fold p) = Calls f fold (after es p)
