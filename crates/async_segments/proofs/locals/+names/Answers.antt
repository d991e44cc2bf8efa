use Rattle.std.proofs.Common.{◌<◌, ap, sym, rules, arith}
use Rattle.std.proofs.lemmas.List.{drop_all}
use Rattle.lang_meaning.specs.Evaluation.{names_in, names_in_others}
use Rattle.lang_ast.specs.Seen.{seen_stmt, seen_block, seen_others, seen_else}
use Rattle.lang_ast.specs.Sizes.{stmt_size, block_size, others_size, else_size}
use Rattle.lang_ast.proofs.Sizes as sizes
use Rattle.lang_ast.proofs.Trees.{seen-Var, seen-Assign, seen-Expr, seen-If, seen-While, seen-Return, seen-Throw, seen-Try}
use Rattle.async_segments.proofs.Writing.{front}
use Rattle.async_segments.proofs.NewNames.{names_none, names_then, names_then_ok, names_on, names_to}
use Rattle.async_segments.proofs.locals.+names.Goals as goal

pub add_of-returns-in-Var : goal.add_of-returns-in-Var
add_of-returns-in-Var t c = rw (c.in-Var.is, seen-Var) c.add.ensures

pub add_of-returns-in-Assign : goal.add_of-returns-in-Assign
add_of-returns-in-Assign t c = rw (c.in-Assign.is, seen-Assign) (names_none c.args.names.now.items)

pub add_of-returns-in-Expr : goal.add_of-returns-in-Expr
add_of-returns-in-Expr t c = rw (c.in-Expr.is, seen-Expr) (names_none c.args.names.now.items)

pub add_of-returns-in_ok-add_of_others-in-If : goal.add_of-returns-in_ok-add_of_others-in-If
add_of-returns-in_ok-add_of_others-in-If t c = rw (c.in-If.is, seen-If)
    (names_then_ok _ _ c.add_of_else.result (names_then c.in_ok-add_all-in-If.ensures c.in_ok-add_of_others-in-If.ensures) c.add_of_else.ensures)

pub add_of-returns-in-While : goal.add_of-returns-in-While
add_of-returns-in-While t c = rw (c.in-While.is, seen-While) c.add_all-in-While.ensures

pub add_of-returns-in-Return : goal.add_of-returns-in-Return
add_of-returns-in-Return t c = rw (c.in-Return.is, seen-Return) (names_none c.args.names.now.items)

pub add_of-returns-in-Throw : goal.add_of-returns-in-Throw
add_of-returns-in-Throw t c = rw (c.in-Throw.is, seen-Throw) (names_none c.args.names.now.items)

pub add_of-returns-in_ok-add-in-Try : goal.add_of-returns-in_ok-add-in-Try
add_of-returns-in_ok-add-in-Try t c = rw (c.in-Try.is, seen-Try)
    (names_then_ok _ _ c.add_all-in-Try-2.result c.in_ok-add_all-in-Try.ensures (names_then_ok _ _ c.add_all-in-Try-2.result c.in_ok-add-in-Try.ensures c.add_all-in-Try-2.ensures))

pub add_all-loop-stmt-preserved : goal.add_all-loop-stmt-preserved
add_all-loop-stmt-preserved t c = names_on _ (ap (λ ss. names_in (seen_block ss)) (front _ _ _ c.stmt-item.is c.loop-stmt-test.true)) c.loop-stmt.invariant c.in_ok-add_of.ensures

pub add_all-returns : goal.add_all-returns
add_all-returns t c = rw (sym c.deref-stmt-items.ensures.value) (names_to _ (ap (λ ss. names_in (seen_block ss)) (drop_all _ _ c.loop-stmt-test.false)) c.loop-stmt.invariant)

pub add_of_others-loop-other-preserved : goal.add_of_others-loop-other-preserved
add_of_others-loop-other-preserved t c = names_on _ (ap (λ ps. names_in_others (seen_others ps)) (front _ _ _ c.other-item.is c.loop-other-test.true)) c.loop-other.invariant c.in_ok-add_all.ensures

pub add_of_others-returns : goal.add_of_others-returns
add_of_others-returns t c = rw (sym c.deref-other-items.ensures.value) (names_to _ (ap (λ ps. names_in_others (seen_others ps)) (drop_all _ _ c.loop-other-test.false)) c.loop-other.invariant)

pub add_all-add_of-requires : goal.add_all-add_of-requires
add_all-add_of-requires t c =
    let smaller : stmt_size (seen_stmt c.stmt-item.result) < block_size (seen_block c.args.block.now.items) = rw (sym c.deref-stmt-items.ensures.value) (sizes.in_block _ _ _ c.stmt-item.is c.loop-stmt-test.true) in
    search rules

pub add_of_others-add_all-requires : goal.add_of_others-add_all-requires
add_of_others-add_all-requires t c =
    let smaller : block_size (seen_block c.other-item.result.1.items) < others_size (seen_others c.args.others.now.items) = rw (sym c.deref-other-items.ensures.value) (let h = sizes.in_others _ _ _ c.other-item.is c.loop-other-test.true in omega (arith, h)) in
    search rules

pub add_of-add_all-requires : goal.add_of-add_all-requires
add_of-add_all-requires t c =
    let smaller : block_size (seen_block c.in-If.block.items) < stmt_size (seen_stmt c.args.stmt.now) = rw (c.in-If.is, seen-If) (omega arith) in
    search rules

pub add_of-add_of_others-requires : goal.add_of-add_of_others-requires
add_of-add_of_others-requires t c =
    let smaller : others_size (seen_others c.in-If.others.items) < stmt_size (seen_stmt c.args.stmt.now) = rw (c.in-If.is, seen-If) (omega arith) in
    search rules

pub add_of-add_of_else-requires : goal.add_of-add_of_else-requires
add_of-add_of_else-requires t c =
    let smaller : else_size (seen_else c.in-If.last) < stmt_size (seen_stmt c.args.stmt.now) = rw (c.in-If.is, seen-If) (omega arith) in
    search rules

pub add_of-add_all-requires-in-While : goal.add_of-add_all-requires-in-While
add_of-add_all-requires-in-While t c =
    let smaller : block_size (seen_block c.in-While.block.items) < stmt_size (seen_stmt c.args.stmt.now) = rw (c.in-While.is, seen-While) (omega arith) in
    search rules

pub add_of-add_all-requires-in-Try : goal.add_of-add_all-requires-in-Try
add_of-add_all-requires-in-Try t c =
    let smaller : block_size (seen_block c.in-Try.block.items) < stmt_size (seen_stmt c.args.stmt.now) = rw (c.in-Try.is, seen-Try) (omega arith) in
    search rules

pub add_of-add_all-requires-in-Try-2 : goal.add_of-add_all-requires-in-Try-2
add_of-add_all-requires-in-Try-2 t c =
    let smaller : block_size (seen_block c.in-Try.handler.items) < stmt_size (seen_stmt c.args.stmt.now) = rw (c.in-Try.is, seen-Try) (omega arith) in
    search rules
