use Rattle.page_interp.proofs.NameIndex.{IsSoughtTo}
use Rattle.page_interp.proofs.names.first_place.Given as goal

abbrev pub invariant-loop-place : goal.invariant-loop-place
invariant-loop-place l = IsSoughtTo l.place l.names l.name
