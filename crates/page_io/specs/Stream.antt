-- A stream of the system.
use Rattle.std.specs.Prelude.{ℕ, List, Option}
use Rattle.std.specs.Io.KnownBytes.{append_known}

-- what its writer holds, where that is known, the bytes that wait to be handed to it, and how many faults and puts there were
pub record Stream : Type 0 where
  pub written : Option (List ℕ)
  pub waiting : List ℕ
  pub faults : ℕ
  pub puts : ℕ

-- all that it took: what was handed on, and then what waits
abbrev pub taken : Stream → Option (List ℕ)
taken stream = append_known stream.written stream.waiting
