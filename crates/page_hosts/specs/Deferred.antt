-- Closures that were given up, laid over those of a port. Ours: a port drops them when it is handed back
use Rattle.std.specs.Prelude.{ℕ, ◌≤◌, ◌^◌, length, Bool, false, if◌then◌else◌, List, [], ◌∷◌, slice_get}
use Rattle.std.specs.Option.{option_map_or}
use Rattle.page_parts.specs.HostClosures.{HostClosure}
use Rattle.host_jobs.specs.Closures.{after_drop}

-- whether closure k was given up
abbrev pub is_given_up : List Bool → (k : ℕ) → Bool
is_given_up given_up k = option_map_or (λ b. b) (slice_get given_up k) false

-- the closure, which was given up or not: only a live one is dropped then
abbrev pub given_up_where : Bool → HostClosure → HostClosure
given_up_where b c = if b then after_drop c else c

-- the closures, of which these were given up
abbrev pub given_up_in : List Bool → List HostClosure → List HostClosure
given_up_in [] cs = cs
given_up_in (b ∷ bs) [] = []
given_up_in (b ∷ bs) (c ∷ cs) = given_up_where b c ∷ given_up_in bs cs

-- there is a mark for each of the closures, whose numbers are those of a u32
pub record Covers (marks : ℕ) (cs : List HostClosure) : Type 0 where
  pub all : length cs ≤ marks
  pub few : marks ≤ 2 ^ 32
