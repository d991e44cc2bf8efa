use Rattle.std.proofs.Common.{◌<◌, ap, sym, rules, arith}
use Rattle.std.proofs.lemmas.List.{drop_all}
use Rattle.lang_ast.specs.Names.{in_block, in_others}
use Rattle.lang_ast.specs.Seen.{seen_stmt, seen_block, seen_others, seen_else}
use Rattle.lang_ast.specs.Sizes.{stmt_size, block_size, others_size, else_size}
use Rattle.lang_ast.proofs.Sizes as sizes
use Rattle.lang_ast.proofs.Trees.{seen-Var, seen-Assign, seen-Expr, seen-If, seen-While, seen-Return, seen-Throw, seen-Try}
use Rattle.lang_names.proofs.Adding.{adds_then, then_ok, goes_on, goes_to, front}
use Rattle.lang_names.proofs.collecting.+stmts.Goals as goal

pub in_stmt-returns-in_ok-add-in-Var : goal.in_stmt-returns-in_ok-add-in-Var
in_stmt-returns-in_ok-add-in-Var t c = rw (c.in-Var.is, seen-Var) (then_ok _ _ c.in_expr.result c.in_ok-add-in-Var.ensures c.in_expr.ensures)

pub in_stmt-returns-in_ok-add-in-Assign : goal.in_stmt-returns-in_ok-add-in-Assign
in_stmt-returns-in_ok-add-in-Assign t c = rw (c.in-Assign.is, seen-Assign) (then_ok _ _ c.in_expr-in-Assign.result c.in_ok-add-in-Assign.ensures c.in_expr-in-Assign.ensures)

pub in_stmt-returns-in-Expr : goal.in_stmt-returns-in-Expr
in_stmt-returns-in-Expr t c = rw (c.in-Expr.is, seen-Expr) c.in_expr-in-Expr.ensures

pub in_stmt-returns-in_ok-in_others-in-If : goal.in_stmt-returns-in_ok-in_others-in-If
in_stmt-returns-in_ok-in_others-in-If t c = rw (c.in-If.is, seen-If) (then_ok _ _ c.in_else.result (adds_then (adds_then c.in_ok-in_expr-in-If.ensures c.in_ok-in_block-in-If.ensures) c.in_ok-in_others-in-If.ensures) c.in_else.ensures)

pub in_stmt-returns-in_ok-in_expr-in-While : goal.in_stmt-returns-in_ok-in_expr-in-While
in_stmt-returns-in_ok-in_expr-in-While t c = rw (c.in-While.is, seen-While) (then_ok _ _ c.in_block-in-While.result c.in_ok-in_expr-in-While.ensures c.in_block-in-While.ensures)

pub in_stmt-returns-in-Return : goal.in_stmt-returns-in-Return
in_stmt-returns-in-Return t c = rw (c.in-Return.is, seen-Return) c.in_returned.ensures

pub in_stmt-returns-in-Throw : goal.in_stmt-returns-in-Throw
in_stmt-returns-in-Throw t c = rw (c.in-Throw.is, seen-Throw) c.in_expr-in-Throw.ensures

pub in_stmt-returns-in_ok-add-in-Try : goal.in_stmt-returns-in_ok-add-in-Try
in_stmt-returns-in_ok-add-in-Try t c = rw (c.in-Try.is, seen-Try) (then_ok _ _ c.in_block-in-Try-2.result c.in_ok-in_block-in-Try.ensures (then_ok _ _ c.in_block-in-Try-2.result c.in_ok-add-in-Try.ensures c.in_block-in-Try-2.ensures))

pub in_block-loop-stmt-preserved : goal.in_block-loop-stmt-preserved
in_block-loop-stmt-preserved t c = goes_on _ (ap (λ es. in_block (seen_block es)) (front _ _ _ c.stmt-item.is c.loop-stmt-test.true)) c.loop-stmt.invariant c.in_ok-in_stmt.ensures

pub in_block-returns : goal.in_block-returns
in_block-returns t c = rw (sym c.deref-stmt-items.ensures.value) (goes_to _ (ap (λ es. in_block (seen_block es)) (drop_all _ _ c.loop-stmt-test.false)) c.loop-stmt.invariant)

pub in_others-loop-other-preserved : goal.in_others-loop-other-preserved
in_others-loop-other-preserved t c = goes_on _ (ap (λ es. in_others (seen_others es)) (front _ _ _ c.other-item.is c.loop-other-test.true)) c.loop-other.invariant (adds_then c.in_ok-in_expr.ensures c.in_ok-in_block.ensures)

pub in_others-returns : goal.in_others-returns
in_others-returns t c = rw (sym c.deref-other-items.ensures.value) (goes_to _ (ap (λ es. in_others (seen_others es)) (drop_all _ _ c.loop-other-test.false)) c.loop-other.invariant)

pub in_block-in_stmt-requires : goal.in_block-in_stmt-requires
in_block-in_stmt-requires t c =
    let smaller : stmt_size (seen_stmt c.stmt-item.result) < block_size (seen_block c.args.block.now.items) = rw (sym c.deref-stmt-items.ensures.value) (sizes.in_block _ _ _ c.stmt-item.is c.loop-stmt-test.true) in
    search rules

pub in_others-in_block-requires : goal.in_others-in_block-requires
in_others-in_block-requires t c =
    let smaller : block_size (seen_block c.other-item.result.1.items) < others_size (seen_others c.args.others.now.items) = rw (sym c.deref-other-items.ensures.value) (let h = sizes.in_others _ _ _ c.other-item.is c.loop-other-test.true in omega (arith, h)) in
    search rules

pub in_stmt-in_block-requires : goal.in_stmt-in_block-requires
in_stmt-in_block-requires t c =
    let smaller : block_size (seen_block c.in-If.block.items) < stmt_size (seen_stmt c.args.stmt.now) = rw (c.in-If.is, seen-If) (omega arith) in
    search rules

pub in_stmt-in_others-requires : goal.in_stmt-in_others-requires
in_stmt-in_others-requires t c =
    let smaller : others_size (seen_others c.in-If.others.items) < stmt_size (seen_stmt c.args.stmt.now) = rw (c.in-If.is, seen-If) (omega arith) in
    search rules

pub in_stmt-in_else-requires : goal.in_stmt-in_else-requires
in_stmt-in_else-requires t c =
    let smaller : else_size (seen_else c.in-If.last) < stmt_size (seen_stmt c.args.stmt.now) = rw (c.in-If.is, seen-If) (omega arith) in
    search rules

pub in_stmt-in_block-requires-in-While : goal.in_stmt-in_block-requires-in-While
in_stmt-in_block-requires-in-While t c =
    let smaller : block_size (seen_block c.in-While.block.items) < stmt_size (seen_stmt c.args.stmt.now) = rw (c.in-While.is, seen-While) (omega arith) in
    search rules

pub in_stmt-in_block-requires-in-Try : goal.in_stmt-in_block-requires-in-Try
in_stmt-in_block-requires-in-Try t c =
    let smaller : block_size (seen_block c.in-Try.block.items) < stmt_size (seen_stmt c.args.stmt.now) = rw (c.in-Try.is, seen-Try) (omega arith) in
    search rules

pub in_stmt-in_block-requires-in-Try-2 : goal.in_stmt-in_block-requires-in-Try-2
in_stmt-in_block-requires-in-Try-2 t c =
    let smaller : block_size (seen_block c.in-Try.handler.items) < stmt_size (seen_stmt c.args.stmt.now) = rw (c.in-Try.is, seen-Try) (omega arith) in
    search rules
