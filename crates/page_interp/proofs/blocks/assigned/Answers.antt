use Rattle.std.proofs.Common.{sym, ◌∙◌, arith}
use Rattle.page_interp.proofs.AtOnce.{block_stays, block_on}
use Rattle.page_interp.proofs.SmallSteps.{within}
use Rattle.page_interp.proofs.Steps.{still}
use Rattle.page_interp.proofs.blocks.assigned.Goals as goal

pub done-init : goal.done-init
done-init g c = record { brings = λ fs block rest q e. block_stays g.H.Host.rules c.args.code.now c.args.store.now c.args.current.now fs block rest (q ∙ sym e); no_longer = still _; fuel = still _ }

pub done-preserved : goal.done-preserved
done-preserved g c = record { brings = block_on g.H.Host.rules c.args.code.now _ _ _ _ _ _ _ _ _ c.done.invariant.brings c.in-Some.ensures.done; no_longer = let a = c.in-Some.ensures.shorter in let b = c.done.invariant.no_longer in omega (arith, a, b); fuel = within _ _ _ c.in-Some.ensures.fuel c.done.invariant.fuel }

pub returns-clause-brings : goal.returns-clause-brings
returns-clause-brings g c = rw (c.in_default.ensures.same_store, c.in_default.ensures.same_variables) c.done.invariant.brings

pub returns-clause-no_longer : goal.returns-clause-no_longer
returns-clause-no_longer g c = c.done.invariant.no_longer
