use Rattle.std.proofs.Common.{◌≡◌, drop}
use Rattle.keyed_list.specs.Listed.{AreOrdered, remove_each}
use Rattle.keyed_list.proofs.list.take_out.Given as goal

abbrev pub invariant-loop-place : goal.invariant-loop-place
invariant-loop-place g l = record {
  gone : remove_each (drop l.place-index l.places) l.listed.entries ≡ remove_each l.places l.initial.listed.entries;
  ordered : AreOrdered l.listed.entries;
}
