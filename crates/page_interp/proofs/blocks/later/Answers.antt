use Rattle.page_interp.proofs.blocks.later.Goals as goal

pub returns-clause-ok : goal.returns-clause-ok
returns-clause-ok g c = rw (← c.in_ok-push.ensures.pushed) c.from_stmt.ensures.ok
