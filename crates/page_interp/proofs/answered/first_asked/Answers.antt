use Rattle.std.proofs.Common.{refl, sym, ap, Ok, ◌∙◌}
use Rattle.page_interp.proofs.Asked.{expr_stands, value_stands, expr_done, expr_stops, value_stops, not_both, no_fault}
use Rattle.page_interp.proofs.answered.first_asked.Goals as goal
use Rattle.page_interp.proofs.answered.first_asked.Goals.{in-Var, in-Assign, in-Expr, in_default-stmt}

pub takes_answer-done-requires : goal.takes_answer-done-requires
takes_answer-done-requires g c =
    value_stands g.H.Host.rules g.H.Host.leaves c.args.code.now c.args.run.now.store c.args.run.now.current (g.H.Host.now c.args.host.now) c.in-Some.stmt.now c.in-Some.rest.now c.in-Var.name c.in-Var.expr (rw c.in-Var.is (refl, refl)) (rw c.in-Some.ensures.cases.0 at c.requires)

pub takes_answer-done-requires-in-Assign : goal.takes_answer-done-requires-in-Assign
takes_answer-done-requires-in-Assign g c =
    value_stands g.H.Host.rules g.H.Host.leaves c.args.code.now c.args.run.now.store c.args.run.now.current (g.H.Host.now c.args.host.now) c.in-Some.stmt.now c.in-Some.rest.now c.in-Assign.name c.in-Assign.expr (rw c.in-Assign.is (refl, refl)) (rw c.in-Some.ensures.cases.0 at c.requires)

pub asks-done-requires : goal.asks-done-requires
asks-done-requires g c =
    expr_stands g.H.Host.rules g.H.Host.leaves c.args.code.now c.args.run.now.store c.args.run.now.current (g.H.Host.now c.args.host.now) c.in-Some.stmt.now c.in-Some.rest.now c.in-Expr.expr c.in-Expr.is (rw c.in-Some.ensures.cases.0 at c.requires)

pub returns-in-Ok-true-clause-some : goal.returns-in-Ok-true-clause-some
returns-in-Ok-true-clause-some g c =
    let yes = c.in-Ok-true.is ∙ ap Ok c.in-Ok-true.field-0-test in
    elim c.match-stmt.branch [
      | in-Var w ↦ rw (w.host-is, w.run-is, c.in-Some.ensures.cases.0) ((rw (sym w.done-is ∙ yes) at w.takes_answer-done.ensures.done) refl c.in-Some.stmt.now c.in-Some.rest.now (rw w.in-Var.is (refl, refl)))
      | in-Assign w ↦ rw (w.host-is, w.run-is, c.in-Some.ensures.cases.0) ((rw (sym w.done-is ∙ yes) at w.takes_answer-done-in-Assign.ensures.done) refl c.in-Some.stmt.now c.in-Some.rest.now (rw w.in-Assign.is (refl, refl)))
      | in-Expr w ↦
          let comes = (rw (sym w.done-is ∙ yes) at w.asks-done.ensures.done) refl in
          rw (w.host-is, w.run-is, c.in-Some.ensures.cases.0) (expr_done g.H.Host.rules g.H.Host.leaves c.args.code.now c.args.run.now.store c.args.run.now.current (g.H.Host.now c.args.host.now) _ c.in-Some.stmt.now c.in-Some.rest.now w.in-Expr.expr comes.0 w.in-Expr.is comes.1)
      | in_default-stmt w ↦ absurd (not_both _ yes w.done-is)
    ]

pub returns-in-Err-clause-stops : goal.returns-in-Err-clause-stops
returns-in-Err-clause-stops g c =
    elim c.match-stmt.branch [
      | in-Var w ↦ rw (w.host-is, w.run-is, c.in-Some.ensures.cases.0) (value_stops g.H.Host.rules g.H.Host.leaves c.args.code.now c.args.run.now.store c.args.run.now.current (g.H.Host.now c.args.host.now) _ c.in-Some.stmt.now c.in-Some.rest.now w.in-Var.name w.in-Var.expr _ c.in-Err.exit (rw w.in-Var.is (refl, refl)) (rw (sym w.done-is ∙ c.in-Err.is) at w.takes_answer-done.ensures.stops))
      | in-Assign w ↦ rw (w.host-is, w.run-is, c.in-Some.ensures.cases.0) (value_stops g.H.Host.rules g.H.Host.leaves c.args.code.now c.args.run.now.store c.args.run.now.current (g.H.Host.now c.args.host.now) _ c.in-Some.stmt.now c.in-Some.rest.now w.in-Assign.name w.in-Assign.expr _ c.in-Err.exit (rw w.in-Assign.is (refl, refl)) (rw (sym w.done-is ∙ c.in-Err.is) at w.takes_answer-done-in-Assign.ensures.stops))
      | in-Expr w ↦ rw (w.host-is, w.run-is, c.in-Some.ensures.cases.0) (expr_stops g.H.Host.rules g.H.Host.leaves c.args.code.now c.args.run.now.store c.args.run.now.current (g.H.Host.now c.args.host.now) _ c.in-Some.stmt.now c.in-Some.rest.now w.in-Expr.expr _ c.in-Err.exit w.in-Expr.is (rw (sym w.done-is ∙ c.in-Err.is) at w.asks-done.ensures.stops))
      | in_default-stmt w ↦ absurd (no_fault _ c.in-Err.exit _ c.in-Err.is w.done-is)
    ]
