use Rattle.std.proofs.Common.{true≢false, refl, sym, ◌∙◌}
use Rattle.page_interp.proofs.BlockSteps.{if_passed, expr_done}
use Rattle.page_interp.proofs.blocks.first_done.Goals as goal
use Rattle.page_interp.proofs.blocks.first_done.Goals.{in-Var, in-Assign, in-If, in-Expr, in_default}

pub returns-then-done-clause-done : goal.returns-then-done-clause-done
returns-then-done-clause-done g c = elim c.match-stmt.branch [
  | in-Var w ↦ rw (w.store-is, w.current-is, c.in_ok-stmt.ensures.cases.0) (w.takes-done.ensures.done (sym w.done-is ∙ c.if-done.true) c.in_ok-stmt.stmt.now c.in_ok-stmt.rest.now (rw w.in-Var.is (refl, refl)))
  | in-Assign w ↦ rw (w.store-is, w.current-is, c.in_ok-stmt.ensures.cases.0) (w.takes-done-in-Assign.ensures.done (sym w.done-is ∙ c.if-done.true) c.in_ok-stmt.stmt.now c.in_ok-stmt.rest.now (rw w.in-Assign.is (refl, refl)))
  | in-If w ↦
      let yes = sym w.done-is ∙ c.if-done.true in
      rw (w.store-is, w.current-is, c.in_ok-stmt.ensures.cases.0) (if_passed g.H.Host.rules c.args.code.now c.args.store.now c.args.current.now c.in_ok-stmt.stmt.now c.in_ok-stmt.rest.now _ _ _ _ w.in-If.is (w.passes-done.ensures.fails yes) (sym w.deref.ensures.value ∙ w.passes-done.ensures.no_others yes) (w.passes-done.ensures.no_else yes))
  | in-Expr w ↦
      let comes = w.calls-done.ensures.done (sym w.done-is ∙ c.if-done.true) in
      rw (w.store-is, w.current-is, c.in_ok-stmt.ensures.cases.0) (expr_done g.H.Host.rules c.args.code.now c.args.store.now c.args.current.now _ c.in_ok-stmt.stmt.now c.in_ok-stmt.rest.now _ comes.0 w.in-Expr.is comes.1)
  | in_default w ↦ absurd (true≢false (sym c.if-done.true ∙ w.done-is))
]
