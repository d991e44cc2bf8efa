use Rattle.std.proofs.Common.{arith, refl, ◌∙◌}
use Rattle.page_interp.proofs.Steps.{still}
use Rattle.page_interp.proofs.Asked.{block_asks_none, block_asks_on, block_brought, block_stands_on, block_stops_on}
use Rattle.page_interp.proofs.answered.asked.Goals as goal

pub asked-init : goal.asked-init
asked-init g c = record { asks = block_asks_none g.H.Host.rules g.H.Host.leaves c.args.code.now c.args.run.now.store c.args.run.now.current (g.H.Host.now c.args.host.now) c.args.stmts.now; stack = refl; fuel = still _ }

pub first_asked-requires : goal.first_asked-requires
first_asked-requires g c = block_stands_on g.H.Host.rules g.H.Host.leaves c.args.code.now _ _ _ _ _ _ _ _ c.asked.invariant.asks c.requires

pub asked-preserved : goal.asked-preserved
asked-preserved g c = record {
  asks = block_asks_on g.H.Host.rules g.H.Host.leaves c.args.code.now _ _ _ _ _ _ _ _ _ _ _ _ c.asked.invariant.asks
      (block_asks_on g.H.Host.rules g.H.Host.leaves c.args.code.now _ _ _ _ _ _ _ _ _ _ _ _ (rw c.in-Ok-Some.field-0-is at c.in-Ok-Some.ensures.some)
      (block_brought g.H.Host.rules g.H.Host.leaves c.args.code.now (g.H.Host.now c.first_asked.new.host) _ _ _ _ _ _ c.assigned-rest.ensures.brings));
  stack = c.in-Ok-Some.ensures.stack ∙ c.asked.invariant.stack;
  fuel = let a = c.asked.invariant.fuel in let b = c.in-Ok-Some.ensures.fuel in let d = c.assigned-rest.ensures.fuel in omega (arith, a, b, d);
}

pub returns-in-Ok-None-clause-ok : goal.returns-in-Ok-None-clause-ok
returns-in-Ok-None-clause-ok g c =
    let none = c.in-Ok-None.field-0-is in
    rw ((rw none at c.in-Ok-None.ensures.host), (rw none at c.in-Ok-None.ensures.run)) c.asked.invariant.asks

pub returns-in-Err-clause-stops : goal.returns-in-Err-clause-stops
returns-in-Err-clause-stops g c = block_stops_on g.H.Host.rules g.H.Host.leaves c.args.code.now _ _ _ _ _ _ _ _ _ _ _ c.asked.invariant.asks c.in-Err.ensures.stops
