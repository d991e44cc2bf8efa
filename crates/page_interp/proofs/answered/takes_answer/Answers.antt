use Rattle.page_interp.proofs.Asked.{sets_asked}
use Rattle.page_interp.proofs.answered.takes_answer.Goals as goal

pub returns-in-Ok-true-clause-done : goal.returns-in-Ok-true-clause-done
returns-in-Ok-true-clause-done g c = λ _. c.in-Ok-true.ensures.done c.in-Ok-true.field-0-test

pub value-requires : goal.value-requires
value-requires g c = rw (c.in-Ok-false.ensures.host c.in-Ok-false.field-0-test, c.in-Ok-false.ensures.run c.in-Ok-false.field-0-test) c.requires

pub returns-in-Ok-Some-clause-done : goal.returns-in-Ok-Some-clause-done
returns-in-Ok-Some-clause-done g c = λ _.
    sets_asked g.H.Host.rules g.H.Host.leaves c.args.code.now c.args.run.now.store c.args.run.now.current (g.H.Host.now c.args.host.now) _ c.args.target.now c.args.expr.now c.in-Ok-Some.value _ _
    (rw (c.in-Ok-false.ensures.host c.in-Ok-false.field-0-test, c.in-Ok-false.ensures.run c.in-Ok-false.field-0-test) at (rw c.in-Ok-Some.field-0-is at c.in-Ok-Some.ensures.some))
    (rw (c.in-Ok-false.ensures.run c.in-Ok-false.field-0-test) at c.set.ensures)

pub returns-in-Err-value-clause-stops : goal.returns-in-Err-value-clause-stops
returns-in-Err-value-clause-stops g c =
    let run = c.in-Ok-false.ensures.run c.in-Ok-false.field-0-test in
    rw run (rw (c.in-Ok-false.ensures.host c.in-Ok-false.field-0-test, run) at c.in-Err-value.ensures.stops)
