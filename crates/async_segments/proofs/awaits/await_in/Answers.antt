use Rattle.std.proofs.Common.{refl}
use Rattle.lang_ast.proofs.Trees.{seen-Var, seen-Assign, seen-Expr, seen-If, seen-While, seen-Return, seen-Throw, seen-Try}
use Rattle.async_segments.proofs.awaits.await_in.Goals as goal

pub returns-in-Var-clause-found : goal.returns-in-Var-clause-found
returns-in-Var-clause-found c = rw (c.in-Var.is, seen-Var) c.await_by.ensures.found

pub returns-in-Assign-clause-found : goal.returns-in-Assign-clause-found
returns-in-Assign-clause-found c = rw (c.in-Assign.is, seen-Assign) c.await_by-in-Assign.ensures.found

pub returns-in-Expr-clause-found : goal.returns-in-Expr-clause-found
returns-in-Expr-clause-found c = rw (c.in-Expr.is, seen-Expr) c.await_by-in-Expr.ensures.found

pub returns-in-Return-clause-found : goal.returns-in-Return-clause-found
returns-in-Return-clause-found c = rw (c.in-Return.is, seen-Return) c.await_returned.ensures.found

pub returns-in-If-clause-found : goal.returns-in-If-clause-found
returns-in-If-clause-found c = rw (c.in-If.is, seen-If) refl

pub returns-in-While-clause-found : goal.returns-in-While-clause-found
returns-in-While-clause-found c = rw (c.in-While.is, seen-While) refl

pub returns-in-Throw-clause-found : goal.returns-in-Throw-clause-found
returns-in-Throw-clause-found c = rw (c.in-Throw.is, seen-Throw) refl

pub returns-in-Try-clause-found : goal.returns-in-Try-clause-found
returns-in-Try-clause-found c = rw (c.in-Try.is, seen-Try) refl
