use Rattle.std.proofs.Common.{refl}
use Rattle.page_interp.proofs.SmallSteps.{pushed_moves, pushes_moves, stays_moves}
use Rattle.page_interp.proofs.StmtSteps.{ignore_pushes, throw_pushes, return_pushes, return_stays, if_pushes, var_moves, assign_moves, while_moves, try_moves}
use Rattle.page_interp.proofs.statements.from_stmt.Goals as goal

pub returns-in-Var-clause-ok : goal.returns-in-Var-clause-ok
returns-in-Var-clause-ok g c = pushed_moves _ _ _ _ _ _ c.within.ensures.pushed c.within.ensures.next (var_moves g.H.Host.rules _ _ _ _ _ _ c.in-Var.is refl refl)

pub returns-in-Assign-clause-ok : goal.returns-in-Assign-clause-ok
returns-in-Assign-clause-ok g c = pushed_moves _ _ _ _ _ _ c.within-in-Assign.ensures.pushed c.within-in-Assign.ensures.next (assign_moves g.H.Host.rules _ _ _ _ _ _ c.in-Assign.is refl refl)

pub returns-in-Expr-clause-ok : goal.returns-in-Expr-clause-ok
returns-in-Expr-clause-ok g c = pushed_moves _ _ _ _ _ _ c.wait.ensures.pushed c.wait.ensures.next (pushes_moves g.H.Host.rules _ (ignore_pushes _ _ _ c.in-Expr.is refl))

pub returns-in-If-clause-ok : goal.returns-in-If-clause-ok
returns-in-If-clause-ok g c = pushed_moves _ _ _ _ _ _ c.wait-in-If.ensures.pushed c.wait-in-If.ensures.next (pushes_moves g.H.Host.rules _ (if_pushes _ _ _ _ _ _ _ _ _ c.in-If.is refl c.deref.ensures.value c.deref-in-If.ensures.value refl))

pub returns-in-While-clause-ok : goal.returns-in-While-clause-ok
returns-in-While-clause-ok g c = pushed_moves _ _ _ _ _ _ c.within-in-While.ensures.pushed c.within-in-While.ensures.next (while_moves g.H.Host.rules _ _ _ _ _ _ _ c.in-While.is refl refl c.deref-in-While.ensures.value)

pub returns-in-None-clause-ok : goal.returns-in-None-clause-ok
returns-in-None-clause-ok g c = stays_moves g.H.Host.rules _ (return_stays _ _ c.in-Return.is c.in-None.is)

pub returns-in-Some-clause-ok : goal.returns-in-Some-clause-ok
returns-in-Some-clause-ok g c = pushed_moves _ _ _ _ _ _ c.wait-in-Some.ensures.pushed c.wait-in-Some.ensures.next (pushes_moves g.H.Host.rules _ (return_pushes _ _ _ _ c.in-Return.is c.in-Some.is refl))

pub returns-in-Throw-clause-ok : goal.returns-in-Throw-clause-ok
returns-in-Throw-clause-ok g c = pushed_moves _ _ _ _ _ _ c.wait-in-Throw.ensures.pushed c.wait-in-Throw.ensures.next (pushes_moves g.H.Host.rules _ (throw_pushes _ _ _ c.in-Throw.is refl))

pub returns-in-Try-clause-ok : goal.returns-in-Try-clause-ok
returns-in-Try-clause-ok g c = pushed_moves _ _ _ _ _ _ c.within-in-Try.ensures.pushed c.within-in-Try.ensures.next (try_moves g.H.Host.rules _ _ _ _ _ _ _ _ c.in-Try.is refl c.deref-in-Try-2.ensures.value c.deref-in-Try.ensures.value)
