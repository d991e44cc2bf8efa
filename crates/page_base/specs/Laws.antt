-- The readings of the two clocks beside those of the definition of a run.
use Rattle.std.specs.Prelude.{◌≡◌, ℕ, List, Option, option_map, Result, ℤ}
use Rattle.page_types.specs.declared.Source.{Source}
use Rattle.page_parts.specs.Setup.{Policy}
use Rattle.page_parts.specs.WrittenChoices.{Choices, Recorded, Written, PickedReading, next_reading}
use Rattle.page_base.specs.Readings.{late_reading, kept_reading}

-- a reading beside choices of which only the readings change
abbrev pub with_reading : (List ℕ → Choices) → ℕ × List ℕ → PickedReading
with_reading choices answer = record { reading = answer.0; left = choices answer.1 }

-- The rule gives the reading that the run takes, and leaves what the run leaves.
abbrev pub ReadsAs : (List ℕ → ℕ → Option (ℕ × List ℕ)) → (List ℕ → Choices) → Type 0
ReadsAs rule choices =
    (held : List ℕ) (target : ℕ) → next_reading target (choices held) ≡ option_map (with_reading choices) (rule held target)

abbrev pub WrittenReadings : Type 0
WrittenReadings =
    (policy : Policy) (counts : List ℕ) (answers : List (Result ℤ ℤ)) → ReadsAs late_reading (λ late. Written policy counts late answers)

abbrev pub RecordedReadings : Type 0
RecordedReadings =
    (sources : List Source) (answers : List (Result ℤ ℤ)) → ReadsAs kept_reading (λ readings. Recorded sources readings answers)
