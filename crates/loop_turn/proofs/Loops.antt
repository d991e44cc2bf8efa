-- What the loops of a run keep.
use Rattle.std.specs.Prelude.{ℤ, Result}
use Rattle.std.proofs.Common.{◌≤◌, ◌+◌, ℕ, suc, List, Option}
use Rattle.lang_meaning.specs.Machine.{Caller}
use Rattle.page_model.specs.State.{Page, State}
use Rattle.page_model.specs.Choosing.{Rules}
use Rattle.page_model.specs.Bounds.{from_step_one_or, turn_or, row_of}
use Rattle.page_model.specs.Turns.{Turned, Stuck, AtBound}
use Rattle.trace_text.specs.declared.lines.NoLine.{NoLine}
use Rattle.trace_text.specs.Given.{Keeping}
use Rattle.loop_turn.specs.Outcomes.{Shown, Outcome, Reached, Turns}
use Rattle.loop_turn.specs.Answers.{AreKept}

-- What does the rest from here does all.
abbrev pub Leads : {C T : Type 0} → Keeping T → (start : Shown T) → Turned C → (here : Shown T) → Turned C → Type 0
Leads {C} {T} k start all here rest = (why : Option NoLine) (how : Outcome) (reached : Reached C T) → Turns k here rest why how reached → Turns k start all why how reached

-- A turn from its beginning here, with so many more waits, does the whole turn. They are enough until the run ends.
pub record WaitsOn {C A T : Type 0} (k : Keeping T) (rules : Rules C) (call : Caller Page) (until : ℕ) (hold hold' : A → C)
    (start : Shown T) (first : State) (here : Shown T) (now : ℕ) (m : State) : Type 0 where
  pub left : ℕ
  pub enough : until ≤ now + left
  pub leads : (answers : A) → Leads k start (turn_or (Stuck AtBound) until rules call until first (hold answers)) here
      (from_step_one_or (Stuck AtBound) rules call until (suc left) m (hold' answers))

-- At most so many turns from here do all turns from the start, by whatever answers are left here.
pub record TurnsOn {C T : Type 0} (k : Keeping T) (rules : Rules C) (call : Caller Page) (until : ℕ) (hold hold' : List (Result ℤ ℤ) → C)
    (told told' : Option (List (Result ℤ ℤ))) (start : Shown T) (first : State) (here : Shown T) (m : State) : Type 0 where
  pub left : ℕ
  pub enough : m.fuel ≤ left
  pub leads : (answers : List (Result ℤ ℤ)) → AreKept told' answers → (before : List (Result ℤ ℤ)) × AreKept told before ×
      Leads k start (row_of (turn_or (Stuck AtBound) until rules call until) (suc first.fuel) first (hold before)) here
      (row_of (turn_or (Stuck AtBound) until rules call until) (suc left) m (hold' answers))
