-- When the calls of a trace end, found from its last line to its first.
use Rattle.std.specs.Prelude.{ℕ, List, [], ◌∷◌, Option, Some, None}
use Rattle.page_types.specs.Events.{Event, Call, Ret, Throw, EndLine, Stamped}
use Rattle.trace_export.specs.Calls.{called, end_of}

-- ---- Ours: ends of calls

-- the end of a call, before those of further ones
abbrev pub with_end : Option ℕ → (after : List Stamped) → List ℕ → List ℕ
with_end None after more = more
with_end (Some r) after more = end_of 0 after ∷ more

-- the ends of the calls, in the order of their `call` lines
abbrev pub ends_of : List Stamped → List ℕ
ends_of [] = []
ends_of (e ∷ after) = with_end (called e.event) after (ends_of after)

-- ---- Ours: from the last line to the first

-- What is known of some last events: the ends of their calls, the times at which a callback ends that was called before them,
-- the first one first, and the time of the `end` line.
pub record Known : Type 0 where
  pub ends : List ℕ
  pub left : List ℕ
  pub last : ℕ

abbrev pub first_or : ℕ → List ℕ → ℕ
first_or other [] = other
first_or other (n ∷ ns) = n

abbrev pub without_first : List ℕ → List ℕ
without_first [] = []
without_first (n ∷ ns) = ns

-- what is known with one event more, in front of those
abbrev pub known_with : Event → (time : ℕ) → Known → Known
known_with (Call r) time known = record known { ends = first_or known.last known.left ∷ known.ends; left = without_first known.left }
known_with Ret time known = record known { left = time ∷ known.left }
known_with (Throw v) time known = record known { left = time ∷ known.left }
known_with (EndLine end) time known = record known { left = []; last = time }
known_with event time known = known
