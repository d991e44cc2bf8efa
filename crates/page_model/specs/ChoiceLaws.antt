-- Laws of choices: those in the lines of a run determine it, and rules that choose alike make runs that go alike.
use Rattle.std.specs.Prelude.{◌≡◌, ℕ, ℤ, List, Result}
use Rattle.page_types.specs.Tree.{Program}
use Rattle.page_types.specs.declared.Source.{Source}
use Rattle.page_parts.specs.HostClosures.{HostClosure}
use Rattle.page_parts.specs.Setup.{Setup}
use Rattle.page_parts.specs.TraceText.{choices_in}
use Rattle.page_parts.specs.WrittenChoices.{Choices}
use Rattle.page_model.specs.ChoicesAreData.{with_left, no_choices, HasEnded, Continues, with_further}
use Rattle.page_model.specs.Choosing.{Rules}
use Rattle.page_model.specs.Likeness.{EndAlike}
use Rattle.page_model.specs.PageTrace.{IsLegal}
use Rattle.page_model.specs.Turns.{run, events_of_run, run_by}

-- ---- Ours: laws by which a run can be checked and made again

-- the run by the choices in its own lines is the run itself, with no choice left
abbrev pub RunsAreMadeAgain : {C : Type 0} → Rules C → Program → Type 0
RunsAreMadeAgain {C} rules program =
    (setup : Setup) (hosts : List HostClosure) (c : C)
    → run program setup hosts (choices_in (events_of_run (run_by rules program setup hosts c)))
    ≡ with_left no_choices (run_by rules program setup hosts c)

-- the events of a run that has ended are legal
abbrev pub EventsOfRunsAreLegal : {C : Type 0} → Rules C → Program → Type 0
EventsOfRunsAreLegal {C} rules program =
    (setup : Setup) (hosts : List HostClosure) (c : C) → HasEnded (run_by rules program setup hosts c)
    → IsLegal program setup hosts (events_of_run (run_by rules program setup hosts c))

-- runs with the same choices in their lines are the same, by whatever rules each is made
abbrev pub ChoicesDetermineRuns : {C D : Type 0} → Rules C → Rules D → Program → Type 0
ChoicesDetermineRuns {C} {D} rules others program =
    (setup : Setup) (hosts : List HostClosure) (c : C) (d : D)
    → choices_in (events_of_run (run_by rules program setup hosts c))
    ≡ choices_in (events_of_run (run_by others program setup hosts d))
    → with_left no_choices (run_by rules program setup hosts c)
    ≡ with_left no_choices (run_by others program setup hosts d)

-- further choices are left over where a run has ended, and where it is stuck its lines come first
abbrev pub FurtherChoicesAreLeft : Program → Type 0
FurtherChoicesAreLeft program =
    (setup : Setup) (hosts : List HostClosure) (c : Choices) (more_sources : List Source)
    (more_readings : List ℕ) (more_answers : List (Result ℤ ℤ))
    → Continues more_sources more_readings more_answers (run program setup hosts c)
    (run program setup hosts (with_further more_sources more_readings more_answers c))

-- runs go alike, where what their rules hold goes together at first
abbrev pub RunsAreAlike : {C D : Type 0} → Rules C → Rules D → (Together : C → D → Type 0) → Program → Type 0
RunsAreAlike {C} {D} rules others Together program =
    (setup : Setup) (hosts : List HostClosure) (c : C) (d : D) → Together c d
    → EndAlike Together (run_by rules program setup hosts c) (run_by others program setup hosts d)
