use Rattle.page_interp.proofs.AtOnce.{takes_value}
use Rattle.page_interp.proofs.blocks.takes_call.Goals as goal

pub returns-in-Some-clause-done : goal.returns-in-Some-clause-done
returns-in-Some-clause-done g c = λ _.
    takes_value g.H.Host.rules c.args.code.now c.args.store.now c.args.current.now _ _ _ c.args.name.now c.args.expr.now c.in-Some.value c.in-Some.ensures.comes c.set.ensures
