use Rattle.std.proofs.Common.{◌≡◌, ◌+◌, ◌-◌, length}
use Rattle.timer_map.specs.Counted.{entries_of}
use Rattle.timer_map.proofs.counted.make_place.Given as goal

abbrev pub invariant-loop-places : goal.invariant-loop-places
invariant-loop-places g l = entries_of l.places.items ≡ entries_of l.initial.places.items

abbrev pub decreases-loop-places : goal.decreases-loop-places
decreases-loop-places g l = l.number + 1 - length l.places.items
