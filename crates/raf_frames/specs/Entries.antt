-- The callbacks as the entries of the code's map, in which one that left has a mark in place of its registration.
use Rattle.std.specs.Prelude.{◌≡◌, ℕ, ◌≤◌, List, [], ◌∷◌, Option, Some, None, All, length, nat_eq}
use Rattle.std.specs.List.{IsDistinct}
use Rattle.std.specs.Map.{keys_of}
use Rattle.page_parts.specs.Frames.{Callback}

-- a callback in front of others, unless it left
abbrev pub before : ℕ → Option ℕ → List Callback → List Callback
before handle None others = others
before handle (Some registration) others = record { handle = handle; registration = registration } ∷ others

-- the callbacks that did not leave, in order
abbrev pub callbacks_of : List (ℕ × Option ℕ) → List Callback
callbacks_of [] = []
callbacks_of (entry ∷ entries) = before entry.0 entry.1 (callbacks_of entries)

-- what a look-up finds, and none where it finds a mark
abbrev pub unmarked : Option (Option ℕ) → Option ℕ
unmarked None = None
unmarked (Some callback) = callback

-- the handles are distinct and were given, and `waiting` counts the callbacks that did not leave, at most as many
pub record AreKept (last : ℕ) (waiting : ℕ) (entries : List (ℕ × Option ℕ)) : Type 0 where
  pub distinct : IsDistinct nat_eq (keys_of entries)
  pub given : All (λ handle. handle ≤ last) (keys_of entries)
  pub counted : waiting ≡ length (callbacks_of entries)
  pub bounded : waiting ≤ last

-- what was kept of the entries is kept of others
abbrev pub StayKept : (old new : List (ℕ × Option ℕ)) → Type 0
StayKept old new = (last waiting : ℕ) → AreKept last waiting old → AreKept last waiting new
