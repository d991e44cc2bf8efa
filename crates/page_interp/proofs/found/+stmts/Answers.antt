use Rattle.std.proofs.Common.{◌<◌, sym, rules, arith}
use Rattle.lang_ast.specs.Seen.{seen_stmt, seen_block, seen_others, seen_else}
use Rattle.lang_ast.specs.Sizes.{stmt_size, block_size, others_size, else_size}
use Rattle.lang_ast.proofs.Sizes as sizes
use Rattle.lang_ast.proofs.Trees.{seen-If, seen-While, seen-Try}
use Rattle.page_interp.proofs.found.+stmts.Goals as goal

pub in_block-in_stmt-requires : goal.in_block-in_stmt-requires
in_block-in_stmt-requires t c =
    let smaller : stmt_size (seen_stmt c.stmt-item.result) < block_size (seen_block c.args.block.now.items) = rw (sym c.deref-stmt-items.ensures.value) (sizes.in_block _ _ _ c.stmt-item.is c.loop-stmt-test.true) in
    search rules

pub in_others-in_block-requires : goal.in_others-in_block-requires
in_others-in_block-requires t c =
    let smaller : block_size (seen_block c.other-item.result.1.items) < others_size (seen_others c.args.others.now.items) = rw (sym c.deref-other-items.ensures.value) (let h = sizes.in_others _ _ _ c.other-item.is c.loop-other-test.true in omega (arith, h)) in
    search rules

pub in_stmt-in_block-requires : goal.in_stmt-in_block-requires
in_stmt-in_block-requires t c =
    let smaller : block_size (seen_block c.in-If.block.items) < stmt_size (seen_stmt c.args.stmt.now) = rw (c.in-If.is, seen-If) (omega arith) in
    search rules

pub in_stmt-in_others-requires : goal.in_stmt-in_others-requires
in_stmt-in_others-requires t c =
    let smaller : others_size (seen_others c.in-If.others.items) < stmt_size (seen_stmt c.args.stmt.now) = rw (c.in-If.is, seen-If) (omega arith) in
    search rules

pub in_stmt-in_else-requires : goal.in_stmt-in_else-requires
in_stmt-in_else-requires t c =
    let smaller : else_size (seen_else c.in-If.last) < stmt_size (seen_stmt c.args.stmt.now) = rw (c.in-If.is, seen-If) (omega arith) in
    search rules

pub in_stmt-in_block-requires-in-While : goal.in_stmt-in_block-requires-in-While
in_stmt-in_block-requires-in-While t c =
    let smaller : block_size (seen_block c.in-While.block.items) < stmt_size (seen_stmt c.args.stmt.now) = rw (c.in-While.is, seen-While) (omega arith) in
    search rules

pub in_stmt-in_block-requires-in-Try : goal.in_stmt-in_block-requires-in-Try
in_stmt-in_block-requires-in-Try t c =
    let smaller : block_size (seen_block c.in-Try.block.items) < stmt_size (seen_stmt c.args.stmt.now) = rw (c.in-Try.is, seen-Try) (omega arith) in
    search rules

pub in_stmt-in_block-requires-in-Try-2 : goal.in_stmt-in_block-requires-in-Try-2
in_stmt-in_block-requires-in-Try-2 t c =
    let smaller : block_size (seen_block c.in-Try.handler.items) < stmt_size (seen_stmt c.args.stmt.now) = rw (c.in-Try.is, seen-Try) (omega arith) in
    search rules
