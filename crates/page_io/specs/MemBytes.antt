-- A sink in memory.
use Rattle.std.specs.Prelude.{ℕ, ◌-◌, List, [], ◌++◌, take, length, find, Bool, false, Option, Some, option_map, unwrap_or, is_some, ◌==◌, nat_lt, if◌then◌else◌}
use Rattle.page_types.specs.Counts.{raised}

-- the bytes that it holds, for how many more there is room, how many bytes each failing call keeps, by the call's
-- number, how many calls and faults there were, and whether its end fails
pub record MemBytes : Type 0 where
  pub bytes : List ℕ
  pub left : ℕ
  pub fails : List (ℕ × ℕ)
  pub calls : ℕ
  pub faults : ℕ
  pub fails_at_end : Bool

-- an empty sink with room for so many bytes, whose calls fail so
abbrev pub first_bytes : ℕ → List (ℕ × ℕ) → MemBytes
first_bytes reserve fails = record { bytes = []; left = reserve; fails = fails; calls = 0; faults = 0; fails_at_end = false }

-- how many bytes the call of a number keeps, where it fails; the first pair of a number counts
abbrev pub kept_by : List (ℕ × ℕ) → ℕ → Option ℕ
kept_by fails number = option_map (λ (pair : ℕ × ℕ). pair.1) (find (λ (pair : ℕ × ℕ). pair.0 == number) fails)

-- the sink with these bytes behind its own, and so much less room
abbrev pub with_more : MemBytes → List ℕ → MemBytes
with_more sink more = record sink { bytes = sink.bytes ++ more; left = sink.left - length more }

-- what a call keeps of a piece, where it fails: nothing of one that has no room, and else what its number says
abbrev pub part_kept : MemBytes → List ℕ → Option (List ℕ)
part_kept sink piece =
    if nat_lt sink.left (length piece)
    then Some []
    else option_map (λ kept. take kept piece) (kept_by sink.fails sink.calls)

-- the same of the next call
abbrev pub failing_put : MemBytes → List ℕ → Option (List ℕ)
failing_put sink piece = part_kept (record sink { calls = raised sink.calls }) piece

-- what the next put appends of a piece
abbrev pub taken_of : MemBytes → List ℕ → List ℕ
taken_of sink piece = unwrap_or (failing_put sink piece) piece

-- the sink after a put of a piece: it counted a call, and a fault where the put failed
abbrev pub after_put : MemBytes → List ℕ → MemBytes
after_put sink piece = record sink {
  bytes = sink.bytes ++ taken_of sink piece;
  left = sink.left - length (taken_of sink piece);
  calls = raised sink.calls;
  faults = if is_some (failing_put sink piece) then raised sink.faults else sink.faults;
}

-- the sink after its end: it counted a fault where that failed
abbrev pub after_finish : MemBytes → MemBytes
after_finish sink = record sink { faults = if sink.fails_at_end then raised sink.faults else sink.faults }
