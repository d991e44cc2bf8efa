use Rattle.std.proofs.Common.{◌≡◌, ◌≤◌, length}
use Rattle.page_interp.specs.Asked.{BlockAsks}
use Rattle.page_interp.proofs.answered.asked.Given as goal

abbrev pub invariant-asked : goal.invariant-asked
invariant-asked g l = record {
  asks : BlockAsks g.H.Host.rules g.H.Host.leaves l.code (g.H.Host.now l.fn.host) l.fn.run.store l.fn.run.current l.stmts (g.H.Host.now l.host) l.run.store l.run.current l.rest;
  stack : l.run.stack ≡ l.fn.run.stack;
  fuel : l.run.store.fuel ≤ l.fn.run.store.fuel;
}

abbrev pub decreases-asked : goal.decreases-asked
decreases-asked g l = length l.rest
