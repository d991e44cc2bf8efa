use Rattle.page_interp.proofs.Steps.{still}
use Rattle.page_interp.proofs.Asked.{args_fit, expr_asks, expr_refused, known_asks, stands_numbered}
use Rattle.page_interp.proofs.answered.value.Goals as goal

pub gives_value-requires : goal.gives_value-requires
gives_value-requires g c =
    (args_fit g.H.Host.rules g.H.Host.leaves c.args.code.now c.args.store.now c.args.current.now (g.H.Host.now c.args.host.now) c.args.expr.now c.in-Call.name c.in-Call.args c.deref.result.now c.in-Some-plain_call.op c.in-Some-plain_call.values c.in-Call.is c.deref.ensures.value c.in-Some-plain_call.ensures c.requires).0

pub answer-requires-clause-count : goal.answer-requires-clause-count
answer-requires-clause-count g c =
    (args_fit g.H.Host.rules g.H.Host.leaves c.args.code.now c.args.store.now c.args.current.now (g.H.Host.now c.args.host.now) c.args.expr.now c.in-Call.name c.in-Call.args c.deref.result.now c.in-Some-plain_call.op c.in-Some-plain_call.values c.in-Call.is c.deref.ensures.value c.in-Some-plain_call.ensures c.requires).0

pub answer-requires-clause-numbered : goal.answer-requires-clause-numbered
answer-requires-clause-numbered g c =
    (args_fit g.H.Host.rules g.H.Host.leaves c.args.code.now c.args.store.now c.args.current.now (g.H.Host.now c.args.host.now) c.args.expr.now c.in-Call.name c.in-Call.args c.deref.result.now c.in-Some-plain_call.op c.in-Some-plain_call.values c.in-Call.is c.deref.ensures.value c.in-Some-plain_call.ensures c.requires).1

pub returns-in-Ok-clause-some : goal.returns-in-Ok-clause-some
returns-in-Ok-clause-some g c =
    expr_asks g.H.Host.rules g.H.Host.leaves c.args.code.now c.args.store.now c.args.current.now (g.H.Host.now c.args.host.now) _ c.args.expr.now c.in-Call.name c.in-Call.args c.deref.result.now c.in-Some-plain_call.op c.in-Some-plain_call.values c.in-Ok.value c.in-Call.is c.deref.ensures.value c.in-Some-plain_call.ensures c.in-Ok.ensures.ok

pub returns-in-Err-clause-stops : goal.returns-in-Err-clause-stops
returns-in-Err-clause-stops g c =
    expr_refused g.H.Host.rules g.H.Host.leaves c.args.code.now c.args.store.now c.args.current.now (g.H.Host.now c.args.host.now) _ c.args.expr.now c.in-Call.name c.in-Call.args c.deref.result.now c.in-Some-plain_call.op c.in-Some-plain_call.values c.in-Err.stop c.args.store.now c.in-Call.is c.deref.ensures.value c.in-Some-plain_call.ensures c.in-Err.ensures.err
    (stands_numbered g.H.Host.rules g.H.Host.leaves c.args.code.now c.args.store.now c.args.current.now (g.H.Host.now c.args.host.now) c.args.expr.now c.requires) (still _)

pub returns-in-Some-clause-some : goal.returns-in-Some-clause-some
returns-in-Some-clause-some g c = known_asks g.H.Host.rules g.H.Host.leaves c.args.code.now c.args.store.now c.args.current.now (g.H.Host.now c.args.host.now) c.args.expr.now c.in-Some.value c.in-Some.ensures
