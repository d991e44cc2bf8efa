use Rattle.std.proofs.Common.{◌≡◌, ◌≤◌, ◌+◌, length}
use Rattle.arrivals_text.specs.Arrivals.{lines_of, default_settings}
use Rattle.arrivals_text.specs.Reading.{goes, settled, draft_of}
use Rattle.arrivals_text.specs.declared.place.Place.TheVariants as place
use Rattle.arrivals_text.proofs.reading.read_lines.Given as goal

abbrev pub invariant-loop-line : goal.invariant-loop-line
invariant-loop-line l =
    (settled l.number (draft_of l.draft) (goes l.last (lines_of l.rest)) ≡ settled 0 default_settings (goes place.Start (lines_of l.bytes)))
    × (l.number + length l.rest ≤ length l.bytes)

abbrev pub decreases-loop-line : goal.decreases-loop-line
decreases-loop-line l = length l.rest
