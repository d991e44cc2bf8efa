use Rattle.std.proofs.Common.{length, ◌++◌}
use Rattle.page_parts.specs.TraceText.{head_text}
use Rattle.trace_check.proofs.ScannedLines.{IsScanned}
use Rattle.trace_check.proofs.scanning.choices_behind.Given as goal

abbrev pub invariant-loop-line : goal.invariant-loop-line
invariant-loop-line l = IsScanned l.fn.form (head_text l.fn.form ++ l.fn.text) l.fn.text l.choices l.lines l.rest l.last l.ended

abbrev pub decreases-loop-line : goal.decreases-loop-line
decreases-loop-line l = length l.rest
