use Rattle.std.proofs.Common.{◌≡◌, length, find}
use Rattle.page_parts.specs.Spelling.{priority_text}
use Rattle.page_base.specs.Fields.{is_word}
use Rattle.trace_text.proofs.word_tables.priority_among.Given as goal

abbrev pub invariant-loop-priority : goal.invariant-loop-priority
invariant-loop-priority l = find (λ priority. is_word (priority_text priority) l.word) l.rest ≡ find (λ priority. is_word (priority_text priority) l.word) l.priorities

abbrev pub decreases-loop-priority : goal.decreases-loop-priority
decreases-loop-priority l = length l.rest
