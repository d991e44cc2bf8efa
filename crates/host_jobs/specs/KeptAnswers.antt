-- Answers that a port keeps, and gives one by one.
use Rattle.std.specs.Prelude.{◌≡◌, ℤ, Bool, List, [], ◌∷◌, Option, Some, None, Result, if◌then◌else◌}
use Rattle.page_types.specs.Told.{FollowsRule}
use Rattle.host_jobs.specs.declared.answer.NoHost.{NoHost}

-- the next answer and those behind it: none where it is absent or fails the test
abbrev pub next_kept : (Result ℤ ℤ → Bool) → List (Result ℤ ℤ) → Option (Result ℤ ℤ × List (Result ℤ ℤ))
next_kept test [] = None
next_kept test (answer ∷ more) = if test answer then Some (answer, more) else None

-- a call gave the next kept answer or refused where there is none, if the kept answers are told
abbrev pub FollowsKept : (Result ℤ ℤ → Bool) → (before : Option (List (Result ℤ ℤ))) → Result (Result ℤ ℤ) NoHost
    → (after : Option (List (Result ℤ ℤ))) → Type 0
FollowsKept test None result after = after ≡ None
FollowsKept test (Some kept) result after =
    (left : List (Result ℤ ℤ)) × (after ≡ Some left) × FollowsRule (next_kept test kept) kept result left
