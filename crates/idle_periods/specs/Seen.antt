-- The callbacks of the code's map as the lists of the definitions, and the order of their handles.
use Rattle.std.specs.Prelude.{ℕ, ◌<◌, ◌≤◌, List, [], ◌∷◌, map, filter, nat_le, nat_lt}
use Rattle.page_parts.specs.Frames.{Callback}

abbrev pub callbacks_of : List (ℕ × ℕ) → List Callback
callbacks_of entries = map (λ (entry : ℕ × ℕ). record { handle = entry.0; registration = entry.1 }) entries

-- the callbacks with handles up to the last runnable one
abbrev pub up_to : ℕ → List Callback → List Callback
up_to last callbacks = filter (λ callback. nat_le callback.handle last) callbacks

-- those with greater handles
abbrev pub beyond : ℕ → List Callback → List Callback
beyond last callbacks = filter (λ callback. nat_lt last callback.handle) callbacks

-- the handles rise from entry to entry; they are above `low`, and not above `high`
abbrev pub HandlesRise : (low : ℕ) → List (ℕ × ℕ) → (high : ℕ) → Type 0
HandlesRise low [] high = low ≤ high
HandlesRise low (entry ∷ entries) high = (low < entry.0) × HandlesRise entry.0 entries high
