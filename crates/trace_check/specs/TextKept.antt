-- Lines that are compared with the bytes of a trace, in which each ends with a line feed.
use Rattle.std.specs.Prelude.{ℕ, suc, ◌==◌, ◌&&◌, if◌then◌else◌, List, [], ◌∷◌, ◌++◌, Option, Some, None}
use Rattle.page_types.specs.Events.{Stamped}
use Rattle.page_parts.specs.Words.{same_bytes}
use Rattle.page_parts.specs.TraceText.{line_text}
use Rattle.page_base.specs.Fields.{cut_at}
use Rattle.trace_text.specs.Line.{Line, Head, Of}
use Rattle.trace_text.specs.Given.{Keeping, Seen}

-- ---- Ours: what is left of a trace's bytes

-- the form of the trace, the bytes behind the lines that were met, or before the first line those behind the head, and how many lines
-- were met
pub record TextKept : Type 0 where
  pub form : ℕ
  pub left : List ℕ
  pub matched : ℕ

-- what is kept once an event was given, by the next line and what stands behind it
abbrev pub met_line : TextKept → Stamped → Option (List ℕ × List ℕ) → Option TextKept
met_line kept e None = None
met_line kept e (Some (line, after)) =
    if same_bytes (line ++ 10 ∷ []) (line_text e)
    then Some (record { form = kept.form; left = after; matched = suc kept.matched }) else None

-- What is kept after a line: none where the next one is another or absent. The head comes first, and only there.
abbrev pub met_in_text : TextKept → Line → Option TextKept
met_in_text kept (Head form) =
    if kept.matched == 0 && kept.form == form then Some (record { form = kept.form; left = kept.left; matched = 1 }) else None
met_in_text kept (Of e) = if kept.matched == 0 then None else met_line kept e (cut_at 10 kept.left)

-- no line fails
abbrev pub text_keeping : Keeping TextKept
text_keeping = record { rule = met_in_text; left = λ kept line after. ⊥ }

-- what is seen of a comparison: what is left, and how often a line differed
abbrev pub seen_in_text : TextKept → ℕ → Seen TextKept
seen_in_text kept refusals = record { told = Some kept; faults = 0; refusals = refusals }

-- ---- Ours: what a comparison is seen as

pub record TextComparison : Type 0 where
  pub kept : TextKept
  pub refusals : ℕ
