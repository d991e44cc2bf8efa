use Rattle.std.proofs.Common.{◌≡◌}
use Rattle.page_interp.proofs.AskedTurns.{TurnsTo}
use Rattle.page_interp.proofs.turns.next_turn.Given as goal

abbrev pub invariant-turns : goal.invariant-turns
invariant-turns g l = record {
  turns : TurnsTo g.H.Host.rules g.H.Host.leaves l.code (g.H.Host.now l.fn.host) l.fn.run.store l.fn.run.current l.test l.block (g.H.Host.now l.host) l.run.store l.run.current;
  stack : l.run.stack ≡ l.fn.run.stack;
}

abbrev pub decreases-turns : goal.decreases-turns
decreases-turns g l = l.run.store.fuel
