-- How the free choices of a run are made.
use Rattle.std.specs.Prelude.{ℕ, ◌^◌, Bool, if◌then◌else◌, ◌&&◌, List, Option, Some, None, ℤ, nat_lt, nat_le, option_map, Result}
use Rattle.page_types.specs.declared.Source.{Source}
use Rattle.page_types.specs.declared.HostKind.{HostKind}
use Rattle.page_parts.specs.HostClosures.{meets}
use Rattle.page_parts.specs.WrittenChoices.{Runnable, is_runnable, Choices, PickedSource, PickedReading, PickedAnswer, next_source, next_reading, next_answer}

-- ---- HTML, "Event loops: processing model" leaves open which task queue is served. Ours: any rule may choose, and the choice must be
-- legal

-- a choice, and what is held after it
pub record Chosen (X C : Type 0) : Type 0 where
  pub choice : X
  pub left : C

-- How choices are made by whatever is held. Each rule chooses or refuses: which source is served, what the clock reads when a target is
-- waited for, what a host closure answers on a number.
pub record Rules (C : Type 0) : Type 0 where
  pub source : List Runnable → C → Option (Chosen Source C)
  pub reading : ℕ → C → Option (Chosen ℕ C)
  pub answer : HostKind → ℤ → C → Option (Chosen (Result ℤ ℤ) C)

-- a choice that is legal; any other one counts as refused
abbrev pub legal : {X C : Type 0} → (X → Bool) → Option (Chosen X C) → Option (Chosen X C)
legal is_legal None = None
legal is_legal (Some x) = if is_legal x.choice then Some x else None

-- a reading of the clock: not before the target, and below 2 ^ 63
abbrev pub is_reading : (target t : ℕ) → Bool
is_reading target t = nat_le target t && nat_lt t (2 ^ 63)

-- the source that is served: one with a runnable task
abbrev pub chosen_source : {C : Type 0} → Rules C → List Runnable → C → Option (Chosen Source C)
chosen_source rules rs c = legal (is_runnable rs) (rules.source rs c)

-- what the clock reads when a target is waited for
abbrev pub chosen_reading : {C : Type 0} → Rules C → ℕ → C → Option (Chosen ℕ C)
chosen_reading rules target c = legal (is_reading target) (rules.reading target c)

-- what a host closure answers on a number: it meets the kind's relation
abbrev pub chosen_answer : {C : Type 0} → Rules C → HostKind → ℤ → C → Option (Chosen (Result ℤ ℤ) C)
chosen_answer rules kind x c = legal (meets kind x) (rules.answer kind x c)

-- ---- Ours: choices by recorded lists, or by the written policy and lateness

-- a picked source as a choice
abbrev pub as_source : PickedSource → Chosen Source Choices
as_source p = record { choice = p.source; left = p.left }

-- a picked reading as a choice
abbrev pub as_reading : PickedReading → Chosen ℕ Choices
as_reading p = record { choice = p.reading; left = p.left }

-- a picked answer as a choice
abbrev pub as_answer : PickedAnswer → Chosen (Result ℤ ℤ) Choices
as_answer p = record { choice = p.answer; left = p.left }

-- Recorded lists and the written policy as rules. What recorded lists give is legal. Where some task is runnable, `fifo` and `fair` give
-- a source that has one, and so does a
-- ranking that has all seven sources. A written reading is the target plus a lateness, never below the target; it is legal where it is
-- below 2 ^ 63.
abbrev pub choice_rules : Rules Choices
choice_rules =
    record {
      source = λ rs c. option_map as_source (next_source rs c);
      reading = λ target c. option_map as_reading (next_reading target c);
      answer = λ kind x c. option_map as_answer (next_answer kind x c);
    }
