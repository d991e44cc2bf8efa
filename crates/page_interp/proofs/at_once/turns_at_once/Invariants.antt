use Rattle.std.proofs.Common.{◌≤◌}
use Rattle.page_interp.specs.StackClauses.{TurnComes}
use Rattle.page_interp.proofs.at_once.turns_at_once.Given as goal

abbrev pub invariant-turns : goal.invariant-turns
invariant-turns g l = record {
  comes : TurnComes g.H.Host.rules l.code l.test l.block l.fn.store l.fn.current l.store l.current;
  fuel : l.store.fuel ≤ l.fn.store.fuel;
}

abbrev pub decreases-turns : goal.decreases-turns
decreases-turns g l = l.store.fuel
