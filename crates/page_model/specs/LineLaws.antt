-- Laws of lines: they are only given.
use Rattle.std.specs.Prelude.{ℕ, List}
use Rattle.page_types.specs.Events.{Stamped}
use Rattle.page_types.specs.Tree.{Program}
use Rattle.lang_meaning.specs.Evaluation.{call_from_outside}
use Rattle.page_model.specs.Additions.{TurnAdds, ActsAdd}
use Rattle.page_model.specs.Choosing.{Rules}
use Rattle.page_model.specs.Gaps.{Act}
use Rattle.page_model.specs.Operations.{page_operations}
use Rattle.page_model.specs.Turns.{turns}

-- ---- Ours: laws by which a page can hand its lines on and keep none

-- turns do the same with any events before their own
abbrev pub TurnsOnlyGiveLines : {C : Type 0} → Rules C → Program → Type 0
TurnsOnlyGiveLines {C} rules program =
    (until most : ℕ) (c : C) (before : List Stamped)
    → TurnAdds before (λ m. turns rules (call_from_outside program page_operations) until most m c)

-- so do the acts of a run in pieces
abbrev pub ActsOnlyGiveLines : {C : Type 0} → Rules C → Program → Type 0
ActsOnlyGiveLines {C} rules program =
    (until : ℕ) (c : C) (list : List Act) (before : List Stamped) → ActsAdd rules program until before list c
