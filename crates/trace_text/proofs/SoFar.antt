-- How far the reading of a trace has come.
use Rattle.std.proofs.Common.{◌≡◌, ℕ, Bool, List, [], ◌∷◌, ◌++◌, All}
use Rattle.std.specs.Prelude.{IsTrue}
use Rattle.page_types.specs.Events.{Stamped}
use Rattle.page_parts.specs.TraceText.{text_of}
use Rattle.trace_text.specs.Trace.{Fits, are_in_order, ends}

-- the time of the last event, 0 where there is none
abbrev pub last_time : List Stamped → ℕ
last_time [] = 0
last_time (e ∷ []) = e.time
last_time (e ∷ next ∷ es) = last_time (next ∷ es)

-- The bytes are the text of these events in this form, which may begin a trace, and the rest; `last` is the time of the last event, and
-- `ended` says whether it is an `end` line.
pub record IsSoFar (form : ℕ) (bytes : List ℕ) (good : List Stamped) (rest : List ℕ) (last : ℕ) (ended : Bool) : Type 0 where
  pub spelled : bytes ≡ text_of form good ++ rest
  pub fit : All (Fits form) good
  pub order : IsTrue (are_in_order good)
  pub latest : last ≡ last_time good
  pub closed : ended ≡ ends good
