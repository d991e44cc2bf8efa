-- The maps and the timers of the code as those of the definitions.
use Rattle.std.specs.Prelude.{ℕ, List, map}
use Rattle.page_parts.specs.Timers.{TimerId, ActiveTimer, Armed}
use Rattle.timer_map.specs.InOrder.{in_order}
use Rattle.timer_map.specs.declared.armed.Armed as code

abbrev pub ids_of : List (ℕ × ℕ) → List TimerId
ids_of entries = map (λ (entry : ℕ × ℕ). record { id = entry.0; handle = entry.1 }) entries

-- the ids in the order in which they were set, which is that of their handles
abbrev pub ids_in_order : ℕ → List (ℕ × ℕ) → List TimerId
ids_in_order last entries = in_order (λ (e : TimerId). e.handle) last (ids_of entries)

-- an active timer, of its moment and its start number
abbrev pub seen_timer : ℕ × ℕ → ActiveTimer
seen_timer entry = record { start = entry.1; due = entry.0 }

abbrev pub timers_of : List (ℕ × ℕ) → List ActiveTimer
timers_of entries = map seen_timer entries

-- the active timers in the order of start
abbrev pub timers_in_order : ℕ → List (ℕ × ℕ) → List ActiveTimer
timers_in_order last entries = in_order (λ (t : ActiveTimer). t.start) last (timers_of entries)

abbrev pub seen_armed : code.Armed → Armed
seen_armed a = record { id = a.id; handle = a.handle; start = a.start; due = a.due.0; level = a.level }
