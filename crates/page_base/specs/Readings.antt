-- The rules of the two clocks: which reading follows a wait, and what is held then.
use Rattle.std.specs.Prelude.{ℕ, ◌+◌, ◌≤◌, ◌^◌, ◌&&◌, if◌then◌else◌, List, [], ◌∷◌, Option, Some, None, All, nat_le, nat_lt, Result, Ok, Err}
use Rattle.page_base.specs.declared.moment.Micros.{Micros}

-- ---- Ours: how late a wait ends

-- A wait ends at most a second late.
abbrev pub AreShort : List ℕ → Type 0
AreShort late = All (λ (lateness : ℕ). lateness ≤ 1000000) late

-- the target and the next lateness of the list; the target alone where the list is spent
abbrev pub late_reading : List ℕ → ℕ → Option (ℕ × List ℕ)
late_reading [] target = Some (target, [])
late_reading (lateness ∷ late) target = Some (target + lateness, late)

-- the next reading of the list, where it is at least the target and below 2 ^ 63
abbrev pub kept_reading : List ℕ → ℕ → Option (ℕ × List ℕ)
kept_reading [] target = None
kept_reading (reading ∷ readings) target = if nat_le target reading && nat_lt reading (2 ^ 63) then Some (reading, readings) else None

-- the number of a moment that was answered
abbrev pub reading_of : {E : Type 0} → Result Micros E → Result ℕ E
reading_of (Ok moment) = Ok moment.0
reading_of (Err e) = Err e
