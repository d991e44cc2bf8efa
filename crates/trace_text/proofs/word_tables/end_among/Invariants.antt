use Rattle.std.proofs.Common.{◌≡◌, length, find}
use Rattle.page_parts.specs.TraceText.{end_text}
use Rattle.page_base.specs.Fields.{is_word}
use Rattle.trace_text.proofs.word_tables.end_among.Given as goal

abbrev pub invariant-loop-end : goal.invariant-loop-end
invariant-loop-end l = find (λ end. is_word (end_text end) l.word) l.rest ≡ find (λ end. is_word (end_text end) l.word) l.ends

abbrev pub decreases-loop-end : goal.decreases-loop-end
decreases-loop-end l = length l.rest
