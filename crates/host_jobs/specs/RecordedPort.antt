-- A port that answers from a record.
use Rattle.std.specs.Prelude.{ℕ, ℤ, List, Result, map}
use Rattle.page_parts.specs.HostClosures.{HostClosure}
use Rattle.host_jobs.specs.declared.answer.Recorded.{Recorded}

-- its closures, the answers that it still keeps, and how often it has refused
pub record RecordedPort : Type 0 where
  pub closures : List HostClosure
  pub answers : List (Result ℤ ℤ)
  pub refusals : ℕ

-- the answers of a record, without the closures and the numbers beside them
abbrev pub answers_of : List Recorded → List (Result ℤ ℤ)
answers_of recorded = map (λ r. r.answer) recorded

-- the port of these closures and the answers of a record, which has refused nothing
abbrev pub first_port : List HostClosure → List Recorded → RecordedPort
first_port closures recorded = record { closures = closures; answers = answers_of recorded; refusals = 0 }
