use Rattle.std.proofs.Common.{refl, sym}
use Rattle.page_values.specs.declared.Value.TheVariants as value
use Rattle.page_interp.proofs.Steps.{still}
use Rattle.page_interp.proofs.Asked.{own_count, own_plain, args_fit, expr_asks, expr_refused, expr_wanting, stands_numbered, emptied_numbered, set_twice, sets_asked}
use Rattle.page_interp.proofs.answered.takes_own.Goals as goal

pub gives_for_own-requires : goal.gives_for_own-requires
gives_for_own-requires g c =
    own_count g.H.Host.rules g.H.Host.leaves c.args.code.now c.args.run.now.store c.args.run.now.current (g.H.Host.now c.args.host.now) c.args.expr.now c.args.target.now c.in-Call.name c.in-Call.args c.deref.result.now c.in-Some.op c.in-Some.second c.in-Call.is c.deref.ensures.value c.in-Some.ensures c.requires

pub returns-in-Err-clause-stops : goal.returns-in-Err-clause-stops
returns-in-Err-clause-stops g c =
    expr_wanting g.H.Host.rules g.H.Host.leaves c.args.code.now c.args.run.now.store c.args.run.now.current (g.H.Host.now c.args.host.now) c.args.expr.now c.take.new.store
    (emptied_numbered c.args.code.now c.args.run.now.store c.take.new.store c.args.run.now.current (record c.args.run.now.current { locals = c.take.new.locals }) c.args.target.now.name
    (record { names = refl; depth = refl; locals = c.in-Some-take.ensures.locals; globals = c.in-Some-take.ensures.globals; fuel = c.in-Some-take.ensures.fuel })
    (stands_numbered g.H.Host.rules g.H.Host.leaves c.args.code.now c.args.run.now.store c.args.run.now.current (g.H.Host.now c.args.host.now) c.args.expr.now c.requires))
    (rw c.in-Some-take.ensures.fuel (still _))

pub answer-requires-clause-count : goal.answer-requires-clause-count
answer-requires-clause-count g c =
    let plain = own_plain g.H.Host.rules c.args.code.now c.args.run.now.store c.args.run.now.current c.args.target.now c.in-Call.name c.deref.result.now c.in-Some.op c.in-Some-take.own c.in-Some.second c.in-Ok.values c.in-Some.ensures (sym c.in-Some-take.ensures.taken) c.in-Ok.ensures in
    (args_fit g.H.Host.rules g.H.Host.leaves c.args.code.now c.args.run.now.store c.args.run.now.current (g.H.Host.now c.args.host.now) c.args.expr.now c.in-Call.name c.in-Call.args c.deref.result.now c.in-Some.op c.in-Ok.values c.in-Call.is c.deref.ensures.value plain c.requires).0

pub answer-requires-clause-numbered : goal.answer-requires-clause-numbered
answer-requires-clause-numbered g c =
    let plain = own_plain g.H.Host.rules c.args.code.now c.args.run.now.store c.args.run.now.current c.args.target.now c.in-Call.name c.deref.result.now c.in-Some.op c.in-Some-take.own c.in-Some.second c.in-Ok.values c.in-Some.ensures (sym c.in-Some-take.ensures.taken) c.in-Ok.ensures in
    (args_fit g.H.Host.rules g.H.Host.leaves c.args.code.now c.args.run.now.store c.args.run.now.current (g.H.Host.now c.args.host.now) c.args.expr.now c.in-Call.name c.in-Call.args c.deref.result.now c.in-Some.op c.in-Ok.values c.in-Call.is c.deref.ensures.value plain c.requires).1

pub returns-in-Ok-answer-clause-done : goal.returns-in-Ok-answer-clause-done
returns-in-Ok-answer-clause-done g c = λ _.
    let plain = own_plain g.H.Host.rules c.args.code.now c.args.run.now.store c.args.run.now.current c.args.target.now c.in-Call.name c.deref.result.now c.in-Some.op c.in-Some-take.own c.in-Some.second c.in-Ok.values c.in-Some.ensures (sym c.in-Some-take.ensures.taken) c.in-Ok.ensures in
    sets_asked g.H.Host.rules g.H.Host.leaves c.args.code.now c.args.run.now.store c.args.run.now.current (g.H.Host.now c.args.host.now) _ c.args.target.now c.args.expr.now c.in-Ok-answer.value _ _
    (expr_asks g.H.Host.rules g.H.Host.leaves c.args.code.now c.args.run.now.store c.args.run.now.current (g.H.Host.now c.args.host.now) _ c.args.expr.now c.in-Call.name c.in-Call.args c.deref.result.now c.in-Some.op c.in-Ok.values c.in-Ok-answer.value c.in-Call.is c.deref.ensures.value plain c.in-Ok-answer.ensures.ok)
    (set_twice c.args.code.now c.args.run.now.store c.take.new.store _ c.args.run.now.current (record c.args.run.now.current { locals = c.take.new.locals }) _ c.args.target.now.name value.Unit c.in-Ok-answer.value
    (record { names = refl; depth = refl; locals = c.in-Some-take.ensures.locals; globals = c.in-Some-take.ensures.globals; fuel = c.in-Some-take.ensures.fuel }) c.set.ensures)

pub returns-in-Err-answer-clause-stops : goal.returns-in-Err-answer-clause-stops
returns-in-Err-answer-clause-stops g c =
    let plain = own_plain g.H.Host.rules c.args.code.now c.args.run.now.store c.args.run.now.current c.args.target.now c.in-Call.name c.deref.result.now c.in-Some.op c.in-Some-take.own c.in-Some.second c.in-Ok.values c.in-Some.ensures (sym c.in-Some-take.ensures.taken) c.in-Ok.ensures in
    expr_refused g.H.Host.rules g.H.Host.leaves c.args.code.now c.args.run.now.store c.args.run.now.current (g.H.Host.now c.args.host.now) _ c.args.expr.now c.in-Call.name c.in-Call.args c.deref.result.now c.in-Some.op c.in-Ok.values c.in-Err-answer.stop c.take.new.store c.in-Call.is c.deref.ensures.value plain c.in-Err-answer.ensures.err
    (emptied_numbered c.args.code.now c.args.run.now.store c.take.new.store c.args.run.now.current (record c.args.run.now.current { locals = c.take.new.locals }) c.args.target.now.name
    (record { names = refl; depth = refl; locals = c.in-Some-take.ensures.locals; globals = c.in-Some-take.ensures.globals; fuel = c.in-Some-take.ensures.fuel })
    (stands_numbered g.H.Host.rules g.H.Host.leaves c.args.code.now c.args.run.now.store c.args.run.now.current (g.H.Host.now c.args.host.now) c.args.expr.now c.requires))
    (rw c.in-Some-take.ensures.fuel (still _))
