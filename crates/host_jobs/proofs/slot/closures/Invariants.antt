use Rattle.std.proofs.Common.{◌≡◌, map, take}
use Rattle.host_jobs.proofs.slot.closures.Given as goal

abbrev pub invariant-loop-slot : goal.invariant-loop-slot
invariant-loop-slot g l = l.closures.items ≡ map (λ slot. slot.closure) (take l.slot-index l.slots)
