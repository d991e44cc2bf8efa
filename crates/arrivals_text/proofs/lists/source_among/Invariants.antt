use Rattle.std.proofs.Common.{◌≡◌, length, find, Some}
use Rattle.page_parts.specs.TraceText.{source_text}
use Rattle.page_base.specs.Fields.{is_word}
use Rattle.arrivals_text.proofs.lists.source_among.Given as goal

abbrev pub invariant-loop-source : goal.invariant-loop-source
invariant-loop-source l = find (λ s. is_word (source_text (Some s)) l.word) l.rest ≡ find (λ s. is_word (source_text (Some s)) l.word) l.sources

abbrev pub decreases-loop-source : goal.decreases-loop-source
decreases-loop-source l = length l.rest
