use Rattle.std.proofs.Common.{◌≡◌, length, map}
use Rattle.arrivals_text.specs.Fields.{all_of, number_in, words_of}
use Rattle.arrivals_text.proofs.Rows.{with_front}
use Rattle.arrivals_text.proofs.lists.read_late.Given as goal

abbrev pub invariant-loop-word : goal.invariant-loop-word
invariant-loop-word l = with_front l.late.items (all_of (map (number_in 0 1000000) (words_of l.rest))) ≡ all_of (map (number_in 0 1000000) (words_of l.text))

abbrev pub decreases-loop-word : goal.decreases-loop-word
decreases-loop-word l = length l.rest
