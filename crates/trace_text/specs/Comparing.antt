-- What a comparison of lines is seen as.
use Rattle.std.specs.Prelude.{ℕ, Bool, List, map}
use Rattle.page_types.specs.Counts.{raised}
use Rattle.page_parts.specs.Words.{same_bytes}
use Rattle.page_parts.specs.TraceText.{line_text}
use Rattle.trace_text.specs.declared.event.Stamped.{Stamped}
use Rattle.trace_text.specs.EventSeen.{stamped_seen}
use Rattle.trace_text.specs.Checks.{Kept, kept_lines}

-- the form of the trace, its events whose lines are left, how many lines were met, the head among them, and how often one differed
pub record Comparison : Type 0 where
  pub form : ℕ
  pub left : List Stamped
  pub matched : ℕ
  pub refusals : ℕ

abbrev pub kept_in : Comparison → Kept
kept_in c = record { left = kept_lines c.form (map stamped_seen c.left) c.matched; matched = c.matched }

-- the same comparison, in which one line more differed
abbrev pub differed : Comparison → Comparison
differed c = record c { refusals = raised c.refusals }

-- whether two events have the same line
abbrev pub have_same_text : (a b : Stamped) → Bool
have_same_text a b = same_bytes (line_text (stamped_seen a)) (line_text (stamped_seen b))
