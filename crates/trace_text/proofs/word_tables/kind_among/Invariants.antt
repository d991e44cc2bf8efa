use Rattle.std.proofs.Common.{◌≡◌, length, find}
use Rattle.page_parts.specs.TraceText.{kind_text}
use Rattle.page_base.specs.Fields.{is_word}
use Rattle.trace_text.proofs.word_tables.kind_among.Given as goal

abbrev pub invariant-loop-kind : goal.invariant-loop-kind
invariant-loop-kind l = find (λ kind. is_word (kind_text kind) l.word) l.rest ≡ find (λ kind. is_word (kind_text kind) l.word) l.kinds

abbrev pub decreases-loop-kind : goal.decreases-loop-kind
decreases-loop-kind l = length l.rest
