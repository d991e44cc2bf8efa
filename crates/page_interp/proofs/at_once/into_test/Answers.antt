use Rattle.std.proofs.Common.{refl, arith, sym, ap, ◌∙◌, Some, ◌-◌}
use Rattle.std.proofs.lemmas.Result.{err_from_is_err_and}
use Rattle.page_interp.specs.Frames.{stacked}
use Rattle.page_interp.proofs.FrameSteps.{test_false, test_no_bool}
use Rattle.page_interp.proofs.AtOnce.{test_enters}
use Rattle.page_interp.proofs.at_once.into_test.Goals as goal

pub returns-then-run-eq0-clause-err : goal.returns-then-run-eq0-clause-err
returns-then-run-eq0-clause-err g c = (c.if-run-eq0.true, refl)

pub returns-in_err-push-in-Some-true-clause-err : goal.returns-in_err-push-in-Some-true-clause-err
returns-in_err-push-in-Some-true-clause-err g c = let q = err_from_is_err_and c.from_residual.result c.from_residual.ensures.1 in rw (q.1, q.2, c.in_err-push-in-Some-true.ensures.err) (λ h. (h.globals, omega arith))

pub returns-in_ok-push-in-Some-true-clause-ok : goal.returns-in_ok-push-in-Some-true-clause-ok
returns-in_ok-push-in-Some-true-clause-ok g c =
    test_enters g.H.Host.rules c.args.code.now c.args.run.now.store c.args.run.now.current (stacked c.args.run.now.stack.items) c.args.test c.args.block c.args.value.now _ _ (c.args.run.now.store.fuel - 1)
    (sym c.in-Some-true.ensures ∙ ap Some c.in-Some-true.field-0-test) (let z = c.if-run-eq0.false in omega (arith, z)) refl c.in_ok-push-in-Some-true.ensures.pushed

pub returns-in-Some-false-clause-ok : goal.returns-in-Some-false-clause-ok
returns-in-Some-false-clause-ok g c = λ h. test_false g.H.Host.rules _ _ _ _ _ _ _ (sym c.in-Some-false.ensures ∙ ap Some c.in-Some-false.field-0-test) h

pub returns-in-None-clause-ok : goal.returns-in-None-clause-ok
returns-in-None-clause-ok g c = λ h. test_no_bool g.H.Host.rules _ _ _ _ _ _ _ _ (sym c.in-None.ensures) c.fault.ensures h
