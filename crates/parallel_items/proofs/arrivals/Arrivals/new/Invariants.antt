use Rattle.std.proofs.Common.{◌≡◌, ◌++◌, map, length}
use Rattle.std.specs.Vec.Iter.{into_iter_items}
use Rattle.arrivals_text.specs.SeenParts.{arrival_of}
use Rattle.parallel_items.proofs.arrivals.Arrivals.new.Given as goal

abbrev pub invariant-loop-arrival : goal.invariant-loop-arrival
invariant-loop-arrival l =
    (goal.iterator-loop-arrival).can_next l.arrival-iterator
    × (goal.iterator-loop-arrival).is_finite l.arrival-iterator
    × (l.all.arrivals ≡ map arrival_of l.yielded)
    × (l.all.made ≡ length l.yielded)
    × (l.yielded ++ into_iter_items l.arrival-iterator ≡ l.fn.arrivals.items)
