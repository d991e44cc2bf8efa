use Rattle.std.proofs.Common.{◌≡◌, drop}
use Rattle.lang_place.specs.NameSets.{has_name}
use Rattle.async_segments.specs.Written.{names_of}
use Rattle.async_segments.proofs.locals.has_name.Given as goal

abbrev pub invariant-loop-other : goal.invariant-loop-other
invariant-loop-other l = has_name (names_of (drop l.other-index l.other-items)) l.name ≡ has_name (names_of l.other-items) l.name
