use Rattle.std.proofs.Common.{refl}
use Rattle.lang_ast.proofs.Trees.{seen-Var, seen-Assign, seen-Expr, seen-If, seen-While, seen-Return, seen-Throw, seen-Try}
use Rattle.async_segments.proofs.awaits.mark_in_stmt.Goals as goal

pub returns-in-Var : goal.returns-in-Var
returns-in-Var c = rw (c.in-Var.is, seen-Var) refl

pub returns-in-Assign : goal.returns-in-Assign
returns-in-Assign c = rw (c.in-Assign.is, seen-Assign) refl

pub returns-in-Expr : goal.returns-in-Expr
returns-in-Expr c = rw (c.in-Expr.is, seen-Expr) c.mark_in_expr.ensures

pub returns-in-If : goal.returns-in-If
returns-in-If c = rw (c.in-If.is, seen-If) refl

pub returns-in-While : goal.returns-in-While
returns-in-While c = rw (c.in-While.is, seen-While) refl

pub returns-in-Return : goal.returns-in-Return
returns-in-Return c = rw (c.in-Return.is, seen-Return) refl

pub returns-in-Throw : goal.returns-in-Throw
returns-in-Throw c = rw (c.in-Throw.is, seen-Throw) refl

pub returns-in-Try : goal.returns-in-Try
returns-in-Try c = rw (c.in-Try.is, seen-Try) refl
