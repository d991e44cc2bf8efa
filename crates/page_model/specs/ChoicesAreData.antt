-- Choices are data: runs by any rules, and runs by lists of choices.
use Rattle.std.specs.Prelude.{◌≡◌, ℤ, List, [], ◌++◌, ℕ, Result}
use Rattle.page_types.specs.declared.Source.{Source}
use Rattle.page_types.specs.Events.{Stamped}
use Rattle.page_parts.specs.WrittenChoices.{Choices, Recorded, Written}
use Rattle.page_model.specs.Turns.{Turned, GoesOn, Ended, Stuck, events_of_run}

-- ---- Ours: laws by which a run can be checked and made again

-- how a run ends, with other choices left
abbrev pub with_left : {C D : Type 0} → D → Turned C → Turned D
with_left d (GoesOn m c) = GoesOn m d
with_left d (Ended end m c) = Ended end m d
with_left d (Stuck at m c) = Stuck at m d

-- no choice is left in any list
abbrev pub no_choices : Choices
no_choices = Recorded [] [] []

-- a run has ended
abbrev pub HasEnded : {C : Type 0} → Turned C → Type 0
HasEnded (GoesOn m c) = ⊥
HasEnded (Ended end m c) = Unit {0}
HasEnded (Stuck at m c) = ⊥

-- choices with further ones behind each list; behind written choices there are only further answers
abbrev pub with_further : List Source → List ℕ → List (Result ℤ ℤ) → Choices → Choices
with_further more_sources more_readings more_answers (Recorded sources readings answers) =
    Recorded (sources ++ more_sources) (readings ++ more_readings) (answers ++ more_answers)
with_further more_sources more_readings more_answers (Written policy counts late answers) =
    Written policy counts late (answers ++ more_answers)

-- these events begin with those
abbrev pub BeginsWith : (start es : List Stamped) → Type 0
BeginsWith start es = (rest : List Stamped) × (es ≡ start ++ rest)

-- What a run does that has further choices, by how the run without them ends: where that one ended it ends the same in the same state,
-- and the further choices are left;
-- where that one is stuck, its events come first.
abbrev pub Continues : List Source → List ℕ → List (Result ℤ ℤ) → (told t : Turned Choices) → Type 0
Continues more_sources more_readings more_answers (GoesOn m c) t = t ≡ GoesOn m (with_further more_sources more_readings more_answers c)
Continues more_sources more_readings more_answers (Ended end m c) t =
    t ≡ Ended end m (with_further more_sources more_readings more_answers c)
Continues more_sources more_readings more_answers (Stuck at m c) t = BeginsWith (events_of_run (Stuck at m c)) (events_of_run t)
