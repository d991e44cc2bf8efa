-- The rules of a run whose choices are made by a clock, a chooser and a host port.
use Rattle.std.specs.Prelude.{ℕ, ℤ, List, Option, None, Result, option_map}
use Rattle.page_types.specs.declared.Source.{Source}
use Rattle.page_parts.specs.HostClosures.{meets}
use Rattle.page_parts.specs.WrittenChoices.{Runnable}
use Rattle.page_model.specs.Choosing.{Rules, Chosen}
use Rattle.host_jobs.specs.KeptAnswers.{next_kept}

-- ---- Ours: what a run holds of its choices

-- what the clock and the chooser hold, and the answers that the host's closures will give, in order
pub record Held (C K : Type 0) : Type 0 where
  pub clock : C
  pub chooser : K
  pub answers : List (Result ℤ ℤ)

module _ {C K : Type 0} where
  -- a choice, and what the one who made it holds then
  abbrev pub by_chooser : Held C K → Source × K → Chosen Source (Held C K)
  by_chooser h given = record { choice = given.0; left = record h { chooser = given.1 } }

  abbrev pub by_clock : Held C K → ℕ × C → Chosen ℕ (Held C K)
  by_clock h given = record { choice = given.0; left = record h { clock = given.1 } }

  abbrev pub by_port : Held C K → Result ℤ ℤ × List (Result ℤ ℤ) → Chosen (Result ℤ ℤ) (Held C K)
  by_port h given = record { choice = given.0; left = record h { answers = given.1 } }

  -- the chooser's rule gives the source, the clock's the reading, and the answer is the next one
  abbrev pub run_rules : (clock : C → ℕ → Option (ℕ × C)) → (chooser : K → List Runnable → Option (Source × K))
      → Rules (Held C K)
  run_rules clock chooser =
      record {
        source = λ rs h. option_map (by_chooser h) (chooser h.chooser rs);
        reading = λ target h. option_map (by_clock h) (clock h.clock target);
        answer = λ kind x h. option_map (by_port h) (next_kept (meets kind x) h.answers);
      }

-- no clock: it gives no reading
abbrev pub no_reading : Unit {0} → ℕ → Option (ℕ × Unit {0})
no_reading held target = None

-- an answer, and those that are left
abbrev pub answer_chosen : Result ℤ ℤ × List (Result ℤ ℤ) → Chosen (Result ℤ ℤ) (List (Result ℤ ℤ))
answer_chosen given = record { choice = given.0; left = given.1 }

-- The rules of a task, which takes no other choice than the answer of a host closure. The answers that will be given are held.
abbrev pub answer_rules : Rules (List (Result ℤ ℤ))
answer_rules =
    record {
      source = λ rs answers. None;
      reading = λ target answers. None;
      answer = λ kind x answers. option_map answer_chosen (next_kept (meets kind x) answers);
    }
