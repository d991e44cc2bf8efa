use Rattle.std.proofs.Common.{◌≡◌, length}
use Rattle.std.specs.List.{list_any}
use Rattle.page_parts.specs.Sources.{same_source}
use Rattle.arrivals_text.proofs.lists.lists.Given as goal

abbrev pub invariant-loop-first : goal.invariant-loop-first
invariant-loop-first l = list_any (same_source l.source) l.rest ≡ list_any (same_source l.source) l.sources

abbrev pub decreases-loop-first : goal.decreases-loop-first
decreases-loop-first l = length l.rest
