use Rattle.std.proofs.Common.{◌≡◌, length, map}
use Rattle.page_parts.specs.Sources.{default_list}
use Rattle.arrivals_text.specs.Fields.{all_of, source_among, words_of}
use Rattle.arrivals_text.proofs.Rows.{with_front}
use Rattle.arrivals_text.proofs.lists.read_sources.Given as goal

abbrev pub invariant-loop-word : goal.invariant-loop-word
invariant-loop-word l = with_front l.sources.items (all_of (map (source_among default_list) (words_of l.rest))) ≡ all_of (map (source_among default_list) (words_of l.text))

abbrev pub decreases-loop-word : goal.decreases-loop-word
decreases-loop-word l = length l.rest
