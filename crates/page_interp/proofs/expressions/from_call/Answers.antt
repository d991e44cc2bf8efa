use Rattle.page_interp.proofs.AtOnce.{call_leads}
use Rattle.page_interp.proofs.expressions.from_call.Goals as goal

pub returns-in-Ok-clause-ok : goal.returns-in-Ok-clause-ok
returns-in-Ok-clause-ok g c = call_leads g.H.Host.rules c.args.code.now c.args.store.now c.args.current.now c.next_in_row.result _ _ _ _ _ _ c.in-Ok.ensures c.new-values.ensures.items c.next_in_row.ensures.ok
