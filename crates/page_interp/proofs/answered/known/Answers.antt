use Rattle.page_interp.proofs.DirectSteps.{if_so}
use Rattle.page_interp.proofs.Asked.{expr_known, look_fits}
use Rattle.page_interp.proofs.answered.known.Goals as goal

pub known_value-requires-clause-count : goal.known_value-requires-clause-count
known_value-requires-clause-count g c =
    (look_fits g.H.Host.rules g.H.Host.leaves c.args.code.now c.args.store.now c.args.current.now (g.H.Host.now c.args.host.now) c.args.expr.now c.in-Call.name c.in-Call.args c.deref.result.now c.in_ok-op.op c.in_ok-op.held.now c.args.current.now.locals c.in-Call.is c.deref.ensures.value c.in_ok-op.ensures c.requires).0

pub known_value-requires-clause-numbered : goal.known_value-requires-clause-numbered
known_value-requires-clause-numbered g c =
    (look_fits g.H.Host.rules g.H.Host.leaves c.args.code.now c.args.store.now c.args.current.now (g.H.Host.now c.args.host.now) c.args.expr.now c.in-Call.name c.in-Call.args c.deref.result.now c.in_ok-op.op c.in_ok-op.held.now c.args.current.now.locals c.in-Call.is c.deref.ensures.value c.in_ok-op.ensures c.requires).1

pub returns : goal.returns
returns g c = if_so c.known_value.result c.known_value.ensures
    (λ v k. expr_known g.H.Host.rules g.H.Host.leaves c.args.code.now c.args.store.now c.args.current.now (g.H.Host.now c.args.host.now) c.args.expr.now c.in-Call.name c.in-Call.args c.deref.result.now c.in_ok-op.op c.in_ok-op.held.now v c.args.current.now.locals c.in-Call.is c.deref.ensures.value c.in_ok-op.ensures k)
