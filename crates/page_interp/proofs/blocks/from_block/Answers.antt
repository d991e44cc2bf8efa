use Rattle.page_interp.proofs.SmallSteps.{pushes_moves, stays_moves, empty}
use Rattle.page_interp.proofs.StmtSteps.{block_pushes, block_stays}
use Rattle.page_interp.proofs.BlockSteps.{leads_after}
use Rattle.page_interp.proofs.blocks.from_block.Goals as goal

pub returns-in-Some-clause-ok : goal.returns-in-Some-clause-ok
returns-in-Some-clause-ok g c = leads_after g.H.Host.rules c.args.code.now c.args.run.now.store c.args.run.now.current c.from_first.result c.from_first.new.run.store c.from_first.new.run.current _ (pushes_moves g.H.Host.rules _ (block_pushes _ _ _ c.in-Some.ensures.cases.0)) c.from_first.ensures.ok

pub returns-in-None-clause-ok : goal.returns-in-None-clause-ok
returns-in-None-clause-ok g c = (stays_moves g.H.Host.rules _ (block_stays _ (empty _ c.in-None.ensures.cases))).goes _ _ _
