use Rattle.std.proofs.Common.{◌≡◌, ◌++◌, map, drop}
use Rattle.arrivals_text.specs.SeenParts.{arrival_of}
use Rattle.page_state.proofs.state.first.copied_arrivals.Given as goal

-- those so far, and then those that are left, are all
abbrev pub invariant-loop-arrival : goal.invariant-loop-arrival
invariant-loop-arrival l = map arrival_of l.copies.items ++ map arrival_of (drop l.arrival-index l.arrivals) ≡ map arrival_of l.arrivals
