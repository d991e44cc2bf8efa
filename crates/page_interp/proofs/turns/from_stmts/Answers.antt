use Rattle.std.proofs.Common.{[], refl}
use Rattle.page_interp.specs.Frames.{stacked}
use Rattle.page_interp.proofs.AskedTurns.{memory_unsettled, stands_at, stmts_steps, stmts_stop}
use Rattle.page_interp.proofs.turns.from_stmts.Goals as goal

pub asked-requires : goal.asked-requires
asked-requires g c =
    stands_at g.H.Host.rules g.H.Host.leaves c.args.code.now (g.H.Host.now c.args.host.now) c.args.run.now.store _ c.args.run.now.current _ c.args.stmts.now _ c.requires c.assigned-first.ensures.brings

pub returns-in-Ok-clause-steps : goal.returns-in-Ok-clause-steps
returns-in-Ok-clause-steps g c =
    stmts_steps g.H.Host.rules g.H.Host.leaves c.args.code.now (g.H.Host.now c.args.host.now) _ c.args.run.now.store _ _ _ c.args.run.now.current _ _ _ (stacked c.args.run.now.stack.items) _ c.args.stmts c.in-Ok.rest _ c.from_rest.result c.assigned-first.ensures.brings c.in-Ok.ensures.ok (rw c.in-Ok.ensures.stack at c.from_rest.ensures.ok) c.from_rest.ensures.err c.from_rest.ensures.same

pub returns-in-Err-clause-steps : goal.returns-in-Err-clause-steps
returns-in-Err-clause-steps g c =
    stmts_stop g.H.Host.rules g.H.Host.leaves c.args.code.now (g.H.Host.now c.args.host.now) _ c.args.run.now.store _ _ c.args.run.now.current _ c.args.run.now.current (stacked c.args.run.now.stack.items) (stacked c.args.run.now.stack.items) c.args.stmts _ c.in-Err.exit c.assigned-first.ensures.brings c.in-Err.ensures.stops

pub returns-in-Ok-clause-unsettled : goal.returns-in-Ok-clause-unsettled
returns-in-Ok-clause-unsettled g c = memory_unsettled c.from_rest.result c.from_rest.ensures.err

pub returns-in-Err-clause-unsettled : goal.returns-in-Err-clause-unsettled
returns-in-Err-clause-unsettled g c = (c.in-Err.ensures.stops [] c.assigned-first.result refl).0
