use Rattle.std.proofs.Common.{◌≤◌, length}
use Rattle.page_interp.specs.StackClauses.{BlockBrings}
use Rattle.page_interp.proofs.blocks.assigned.Given as goal

abbrev pub invariant-done : goal.invariant-done
invariant-done g l = record {
  brings : BlockBrings g.H.Host.rules l.code l.fn.store l.fn.current l.stmts l.store l.current l.rest;
  no_longer : length l.rest ≤ length l.stmts;
  fuel : l.store.fuel ≤ l.fn.store.fuel;
}

abbrev pub decreases-done : goal.decreases-done
decreases-done g l = length l.rest
