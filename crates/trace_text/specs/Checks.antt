-- How lines are compared with those of a trace that is kept.
use Rattle.std.specs.Prelude.{ℕ, zero, suc, ◌==◌, Bool, false, if◌then◌else◌, List, [], ◌∷◌, map, Option, Some, None}
use Rattle.page_types.specs.Events.{Stamped}
use Rattle.page_parts.specs.Words.{same_bytes}
use Rattle.page_parts.specs.TraceText.{line_text}
use Rattle.trace_text.specs.Line.{Line, Head, Of}
use Rattle.trace_text.specs.Given.{Keeping, Seen}

-- the lines of a trace that were not yet met, and how many were
pub record Kept : Type 0 where
  pub left : List Line
  pub matched : ℕ

-- the lines of a trace in a form: its head, and one for each event
abbrev pub lines_of : ℕ → List Stamped → List Line
lines_of form es = Head form ∷ map Of es

-- The lines of a trace that are left where so many were met and these events are left: before its first line the whole
-- trace, head and all.
abbrev pub kept_lines : (form : ℕ) → List Stamped → (zero : ℕ) → List Line
kept_lines form es zero = lines_of form es
kept_lines form es (suc matched) = map Of es

-- two lines are the same where both are heads of the same form, or lines of events with the same text
abbrev pub same_line : (a b : Line) → Bool
same_line (Head a) (Head b) = a == b
same_line (Of a) (Of b) = same_bytes (line_text a) (line_text b)
same_line a b = false

-- what is kept after a line, where these were kept: none where the next one is another or absent
abbrev pub met : List Line → ℕ → Line → Option Kept
met [] matched line = None
met (next ∷ left) matched line = if same_line next line then Some (record { left = left; matched = suc matched }) else None

-- no line fails
abbrev pub check_keeping : Keeping Kept
check_keeping = record { rule = λ kept line. met kept.left kept.matched line; left = λ kept line after. ⊥ }

-- what is seen of a comparison: the lines that are left, and how often one differed
abbrev pub seen_kept : Kept → ℕ → Seen Kept
seen_kept kept refusals = record { told = Some kept; faults = 0; refusals = refusals }
