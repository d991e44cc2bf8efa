-- Laws of acts: what is told of turns, for runs in pieces.
use Rattle.std.specs.Prelude.{◌≡◌, ℕ, ℤ, List, [], Result}
use Rattle.page_types.specs.Tree.{Program}
use Rattle.page_types.specs.declared.Source.{Source}
use Rattle.page_parts.specs.Setup.{Setup}
use Rattle.page_parts.specs.TraceText.{choices_in}
use Rattle.page_parts.specs.WrittenChoices.{Choices}
use Rattle.lang_meaning.specs.Evaluation.{call_from_outside}
use Rattle.page_model.specs.Bounds.{OneDeep}
use Rattle.page_model.specs.ChoicesAreData.{with_left, no_choices, Continues, with_further}
use Rattle.page_model.specs.Choosing.{Rules}
use Rattle.page_model.specs.FoldBounds.{IsBounded}
use Rattle.page_model.specs.FuelAndTime.{TurnForward, Later}
use Rattle.page_model.specs.Gaps.{serve, Act, acts, run_gaps_by, run_gaps}
use Rattle.page_model.specs.Hosted.{call_by_steps, TurnEndsBounded}
use Rattle.page_model.specs.Likeness.{EndAlike}
use Rattle.page_model.specs.Numbers.{AllAreGiven, IsAfter, made_by, HoldsNoNumbers}
use Rattle.page_model.specs.Operations.{page_operations}
use Rattle.page_model.specs.State.{State}
use Rattle.page_model.specs.Turns.{state_of, first_state, events_of_run}

-- ---- Ours: laws of a run in pieces, by whatever rules its choices are made

-- a task that is served goes forward
abbrev pub ServingGoesForward : {C : Type 0} → Rules C → Program → Type 0
ServingGoesForward {C} rules program =
    (until : ℕ) (m : State) (c : C)
    → TurnForward m (serve rules (call_from_outside program page_operations) until c m)

-- fuel never rises and time never falls by acts
abbrev pub ActsGoForward : {C : Type 0} → Rules C → Program → Type 0
ActsGoForward {C} rules program =
    (until : ℕ) (list : List Act) (m : State) (c : C)
    → Later m (state_of (acts rules (call_from_outside program page_operations) until list m c))

-- nor by a run in pieces
abbrev pub RunsByActsGoForward : {C : Type 0} → Rules C → Program → Type 0
RunsByActsGoForward {C} rules program =
    (setup : Setup) (list : List Act) (c : C)
    → Later (first_state program setup []) (state_of (run_gaps_by rules program setup list c))

-- a signal that is followed follows none after acts, where it was so before
abbrev pub ActsKeepOneDeep : {C : Type 0} → Rules C → Program → Type 0
ActsKeepOneDeep {C} rules program =
    (until : ℕ) (list : List Act) (m : State) (c : C) → OneDeep m.host
    → OneDeep (state_of (acts rules (call_from_outside program page_operations) until list m c)).host

-- after acts all numbers were given out, where they were before
abbrev pub ActsKeepGiven : {C : Type 0} → Rules C → Program → Type 0
ActsKeepGiven {C} rules program =
    (until : ℕ) (list : List Act) (m : State) (c : C) → AllAreGiven m
    → IsAfter (made_by m.host)
    (state_of (acts rules (call_from_outside program page_operations) until list m c))

-- at the end of a run in pieces all numbers were given out
abbrev pub RunsByActsAreGiven : {C : Type 0} → Rules C → Program → Type 0
RunsByActsAreGiven {C} rules program =
    (setup : Setup) (list : List Act) (c : C) → HoldsNoNumbers setup
    → AllAreGiven (state_of (run_gaps_by rules program setup list c))

-- the run in pieces by the choices in its own lines is the run itself, with no choice left
abbrev pub RunsByActsAreMadeAgain : {C : Type 0} → Rules C → Program → Type 0
RunsByActsAreMadeAgain {C} rules program =
    (setup : Setup) (list : List Act) (c : C)
    → run_gaps program setup list (choices_in (events_of_run (run_gaps_by rules program setup list c)))
    ≡ with_left no_choices (run_gaps_by rules program setup list c)

-- runs in pieces with the same choices in their lines are the same, by whatever rules each is made
abbrev pub ChoicesDetermineRunsByActs : {C D : Type 0} → Rules C → Rules D → Program → Type 0
ChoicesDetermineRunsByActs {C} {D} rules others program =
    (setup : Setup) (list : List Act) (c : C) (d : D)
    → choices_in (events_of_run (run_gaps_by rules program setup list c))
    ≡ choices_in (events_of_run (run_gaps_by others program setup list d))
    → with_left no_choices (run_gaps_by rules program setup list c)
    ≡ with_left no_choices (run_gaps_by others program setup list d)

-- further choices are left over where a run in pieces has ended or goes on, and where it is stuck its lines come first
abbrev pub FurtherChoicesOfActsAreLeft : Program → Type 0
FurtherChoicesOfActsAreLeft program =
    (setup : Setup) (list : List Act) (c : Choices) (more_sources : List Source) (more_readings : List ℕ)
    (more_answers : List (Result ℤ ℤ))
    → Continues more_sources more_readings more_answers (run_gaps program setup list c)
    (run_gaps program setup list (with_further more_sources more_readings more_answers c))

-- runs in pieces go alike, where what their rules hold goes together at first
abbrev pub RunsByActsAreAlike : {C D : Type 0} → Rules C → Rules D → (Together : C → D → Type 0) → Program → Type 0
RunsByActsAreAlike {C} {D} rules others Together program =
    (setup : Setup) (list : List Act) (c : C) (d : D) → Together c d
    → EndAlike Together (run_gaps_by rules program setup list c) (run_gaps_by others program setup list d)

-- acts are the same where scripts are called by steps
abbrev pub ActsByStepsAreTheSame : {C : Type 0} → Rules C → Program → Type 0
ActsByStepsAreTheSame {C} rules program =
    (until : ℕ) (list : List Act) (c : C) (m : State) → IsBounded m.host
    → acts rules (call_by_steps program) until list m c
    ≡ acts rules (call_from_outside program page_operations) until list m c

-- acts leave a page within bounds, where it was so before
abbrev pub ActsKeepBounds : {C : Type 0} → Rules C → Program → Type 0
ActsKeepBounds {C} rules program =
    (until : ℕ) (list : List Act) (c : C) (m : State) → IsBounded m.host
    → TurnEndsBounded (acts rules (call_from_outside program page_operations) until list m c)
