-- Lines are only given: what a step does with other events before its own.
use Rattle.std.specs.Prelude.{◌≡◌, ℕ, List, ◌++◌}
use Rattle.page_types.specs.Tree.{Program}
use Rattle.page_types.specs.Events.{Stamped}
use Rattle.lang_meaning.specs.Machine.{Done, hosted}
use Rattle.lang_meaning.specs.Following.{Follows}
use Rattle.page_model.specs.State.{Page, State}
use Rattle.lang_meaning.specs.Evaluation.{call_from_outside}
use Rattle.page_model.specs.Operations.{page_operations}
use Rattle.page_model.specs.Choosing.{Rules}
use Rattle.page_model.specs.Turns.{Turned, GoesOn, Ended, Stuck}
use Rattle.page_model.specs.Gaps.{Act, acts}

-- ---- Ours: a law by which a page can hand its lines on and keep none

-- the page as it is with these events before its own (the last event stands first)
abbrev pub after : List Stamped → Page → Page
after es p = record p { events = p.events ++ es }

-- f only adds lines
abbrev pub Adds : List Stamped → (Page → Page) → Type 0
Adds es f = (p : Page) → f (after es p) ≡ after es (f p)

-- the same of a step of the script machine around a page
abbrev pub AddsAll : List Stamped → (State → Done Page) → Type 0
AddsAll es f = Follows (after es) f f

-- how a turn ends, with these events before its own
abbrev pub turned_after : {C : Type 0} → List Stamped → Turned C → Turned C
turned_after es (GoesOn m c) = GoesOn (hosted (after es) m) c
turned_after es (Ended end m c) = Ended end (hosted (after es) m) c
turned_after es (Stuck at m c) = Stuck at (hosted (after es) m) c

-- the same of a turn
abbrev pub TurnAdds : {C : Type 0} → List Stamped → (State → Turned C) → Type 0
TurnAdds es f = (m : State) → f (hosted (after es) m) ≡ turned_after es (f m)

-- the same of the acts of a run in pieces
abbrev pub ActsAdd : {C : Type 0} → Rules C → Program → ℕ → List Stamped → List Act → C → Type 0
ActsAdd rules program until es list c = TurnAdds es (λ m. acts rules (call_from_outside program page_operations) until list m c)
