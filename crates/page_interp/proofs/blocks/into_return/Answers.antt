use Rattle.page_interp.proofs.BlockSteps.{return_direct, return_waits}
use Rattle.page_interp.proofs.blocks.into_return.Goals as goal

pub returns-in-Ok-Some-clause-ok : goal.returns-in-Ok-Some-clause-ok
returns-in-Ok-Some-clause-ok g c = λ s rest q. return_direct g.H.Host.rules c.args.code.now c.args.store.now c.args.current.now _ s rest c.args.expr c.in-Ok-Some.value q (rw c.in-Ok-Some.field-0-is at c.in-Ok-Some.ensures)

pub returns-in-Ok-None-clause-ok : goal.returns-in-Ok-None-clause-ok
returns-in-Ok-None-clause-ok g c = return_waits g.H.Host.rules c.args.code.now c.args.store.now c.args.current.now c.wait.result _ _ _ c.wait.ensures.pushed c.wait.ensures.next
