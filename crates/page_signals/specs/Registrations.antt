-- Registrations among the numbers of abort algorithms.
use Rattle.std.specs.Prelude.{ℕ, ◌^◌, ◌<◌, List}
use Rattle.std.specs.List.{AllByRecursion}

-- registrations have 32 bits
abbrev pub AreRegistrations : List ℕ → Type 0
AreRegistrations rs = AllByRecursion (λ r. r < 2 ^ 32) rs
