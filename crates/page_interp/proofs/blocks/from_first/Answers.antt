use Rattle.std.proofs.Common.{refl, ap, ◌∙◌}
use Rattle.lang_ast.specs.declared.tree.Stmt as S
use Rattle.page_interp.proofs.SmallSteps.{if_moves}
use Rattle.page_interp.proofs.BlockSteps.{expr_leads, if_direct, return_at}
use Rattle.page_interp.proofs.blocks.from_first.Goals as goal

pub returns-in_ok-push-in-Expr-clause-ok : goal.returns-in_ok-push-in-Expr-clause-ok
returns-in_ok-push-in-Expr-clause-ok g c =
    expr_leads g.H.Host.rules c.args.code.now c.args.run.now.store c.args.run.now.current c.from_expr.result c.from_expr.new.store _ _ _ _ _ _ _ c.in-Expr.is refl c.in_ok-push-in-Expr.ensures.pushed c.from_expr.ensures.ok

pub returns-in-Ok-Some-clause-ok : goal.returns-in-Ok-Some-clause-ok
returns-in-Ok-Some-clause-ok g c = if_direct g.H.Host.rules c.args.code.now c.args.run.now.store c.args.run.now.current c.into_branch.result _ _ _ _ _ _ _ _ _ _ _ c.in-Ok-Some.value c.in-If.is c.deref.ensures.value c.deref-in-Ok-Some.ensures.value refl (rw c.in-Ok-Some.field-0-is at c.in-Ok-Some.ensures) c.into_branch.ensures.ok

pub returns-in-Ok-None-clause-ok : goal.returns-in-Ok-None-clause-ok
returns-in-Ok-None-clause-ok g c = if_moves g.H.Host.rules _ _ _ _ _ _ _ c.later.ensures.ok

pub returns-in-Some-clause-ok : goal.returns-in-Some-clause-ok
returns-in-Some-clause-ok g c = return_at g.H.Host.rules c.args.code.now c.args.run.now.store c.args.run.now.current c.into_return.result _ _ _ _ _ (c.in-Return.is ∙ ap S.Return c.in-Some.is) c.into_return.ensures.ok

pub returns-in_default-clause-ok : goal.returns-in_default-clause-ok
returns-in_default-clause-ok g c = if_moves g.H.Host.rules _ _ _ _ _ _ _ c.later-in_default.ensures.ok

pub returns-in-None-clause-ok : goal.returns-in-None-clause-ok
returns-in-None-clause-ok g c = if_moves g.H.Host.rules _ _ _ _ _ _ _ c.later-in-None.ensures.ok
