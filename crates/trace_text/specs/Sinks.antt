-- How a sink of lines goes on: a line is appended, and of one that failed a start.
use Rattle.std.specs.Prelude.{◌≡◌, ℕ, List, [], ◌∷◌, ◌++◌, Option, Some, Result, Ok, Err}
use Rattle.std.specs.Result.{result_err}
use Rattle.page_types.specs.Counts.{raised}
use Rattle.page_types.specs.Told.{IsStartOf}
use Rattle.trace_text.specs.Line.{Line, text_of_line}
use Rattle.trace_text.specs.Given.{Keeping, Seen, Gives}
use Rattle.trace_text.specs.declared.lines.NoLine.{NoLine}
use Rattle.trace_text.specs.declared.lines.NoLine.TheVariants.{Failed, Differs, OutOfMemory}

abbrev pub sink_keeping : Keeping (List ℕ)
sink_keeping = record {
  rule = λ bytes line. Some (bytes ++ text_of_line line);
  left = λ bytes line after. (part : List ℕ) × IsStartOf part (text_of_line line) × (after ≡ bytes ++ part);
}

-- what is seen of the lines that a sink takes: the sink's bytes and faults, and that no line ever differs
abbrev pub seen_through : {O : Type 0} → (O → Option (List ℕ)) → (O → ℕ) → O → Seen (List ℕ)
seen_through bytes faults out = record { told = bytes out; faults = faults out; refusals = 0 }

-- a call gave one line to a sink, or stopped at it, as its result tells
abbrev pub PutsLine : {O X : Type 0} → (O → Option (List ℕ)) → (O → ℕ) → (old : O) → Line → Result X NoLine → (new : O)
    → Type 0
PutsLine bytes faults old line result new =
    Gives sink_keeping (seen_through bytes faults old) (line ∷ []) (result_err result) (seen_through bytes faults new)

-- how many pieces were put after a line: one more, and none for want of memory
abbrev pub puts_after : {X : Type 0} → ℕ → Result X NoLine → ℕ
puts_after before (Ok x) = raised before
puts_after before (Err Failed) = raised before
puts_after before (Err Differs) = raised before
puts_after before (Err OutOfMemory) = before
