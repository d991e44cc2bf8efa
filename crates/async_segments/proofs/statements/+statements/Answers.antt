use Rattle.std.proofs.Common.{◌<◌, refl, ap, sym, ◌∙◌, rules, arith}
use Rattle.std.proofs.lemmas.List.{drop_all}
use Rattle.lang_ast.specs.Seen.{seen_name, seen_expr, seen_stmt, seen_block, seen_others, seen_else}
use Rattle.lang_ast.specs.Sizes.{stmt_size, block_size, others_size, else_size}
use Rattle.lang_ast.proofs.Sizes as sizes
use Rattle.lang_ast.proofs.Trees.{seen-Var, seen-Assign, seen-Expr, seen-If, seen-While, seen-Return, seen-Throw, seen-Try}
use Rattle.page_types.specs.Tree.{AssignStmt, ExprStmt, ThrowStmt}
use Rattle.lang_parse.specs.Grammar.{stmts_spelling, else_ifs_spelling}
use Rattle.async_segments.specs.Written.{all_as_in, others_as_in}
use Rattle.async_segments.proofs.Writing.{then_ok, ok_as, adds_then, adds_as, adds_none, goes_on, goes_to, front}
use Rattle.async_segments.proofs.Flags.{as_kept, as_var, as_if, as_while, as_try, all_step, all_end, others_step, others_end, else_some, else_none}
use Rattle.async_segments.proofs.statements.+statements.Goals as goal

pub write_stmt-returns-in_ok-write_var-in-Var : goal.write_stmt-returns-in_ok-write_var-in-Var
write_stmt-returns-in_ok-write_var-in-Var t c = rw (c.in-Var.is, seen-Var)
    (ok_as _ _ c.write_assigned.result (as_var c.args.in_segment (seen_name c.in-Var.name) (seen_expr c.in-Var.value))
    (then_ok _ _ c.write_assigned.result c.in_ok-write_var-in-Var.ensures c.write_assigned.ensures))

pub write_stmt-returns-in-Assign : goal.write_stmt-returns-in-Assign
write_stmt-returns-in-Assign t c = rw (c.in-Assign.is, seen-Assign)
    (ok_as _ _ c.write_assigned-in-Assign.result (as_kept c.args.in_segment (AssignStmt (seen_name c.in-Assign.name) (seen_expr c.in-Assign.value)) refl) c.write_assigned-in-Assign.ensures)

pub write_stmt-returns-in-Expr : goal.write_stmt-returns-in-Expr
write_stmt-returns-in-Expr t c = rw (c.in-Expr.is, seen-Expr)
    (ok_as _ _ c.write_ended.result (as_kept c.args.in_segment (ExprStmt (seen_expr c.in-Expr.value)) refl) c.write_ended.ensures)

pub write_stmt-returns-in_ok-write_others-in-If : goal.write_stmt-returns-in_ok-write_others-in-If
write_stmt-returns-in_ok-write_others-in-If t c = rw (c.in-If.is, seen-If)
    (ok_as _ _ c.write_else.result (as_if c.args.in_segment (seen_expr c.in-If.condition) (seen_block c.in-If.block.items) (seen_others c.in-If.others.items) (seen_else c.in-If.last))
    (then_ok _ _ c.write_else.result (adds_then (adds_then (adds_then c.in_ok-word-in-If.ensures c.in_ok-write_condition-in-If.ensures) c.in_ok-write_block-in-If.ensures) c.in_ok-write_others-in-If.ensures) c.write_else.ensures))

pub write_stmt-returns-in_ok-write_condition-in-While : goal.write_stmt-returns-in_ok-write_condition-in-While
write_stmt-returns-in_ok-write_condition-in-While t c = rw (c.in-While.is, seen-While)
    (ok_as _ _ c.write_block-in-While.result (as_while c.args.in_segment (seen_expr c.in-While.condition) (seen_block c.in-While.block.items))
    (then_ok _ _ c.write_block-in-While.result c.in_ok-word-in-While.ensures (then_ok _ _ c.write_block-in-While.result c.in_ok-write_condition-in-While.ensures c.write_block-in-While.ensures)))

pub write_stmt-returns-in-Return : goal.write_stmt-returns-in-Return
write_stmt-returns-in-Return t c = rw (c.in-Return.is, seen-Return) c.write_returning.ensures

pub write_stmt-returns-in_ok-word-in-Throw : goal.write_stmt-returns-in_ok-word-in-Throw
write_stmt-returns-in_ok-word-in-Throw t c = rw (c.in-Throw.is, seen-Throw)
    (ok_as _ _ c.write_ended-in-Throw.result (as_kept c.args.in_segment (ThrowStmt (seen_expr c.in-Throw.value)) refl)
    (then_ok _ _ c.write_ended-in-Throw.result c.in_ok-word-in-Throw.ensures c.write_ended-in-Throw.ensures))

pub write_stmt-returns-in_ok-write_caught-in-Try : goal.write_stmt-returns-in_ok-write_caught-in-Try
write_stmt-returns-in_ok-write_caught-in-Try t c = rw (c.in-Try.is, seen-Try)
    (ok_as _ _ c.write_block-in-Try-2.result (as_try c.args.in_segment (seen_block c.in-Try.block.items) (seen_name c.in-Try.name) (seen_block c.in-Try.handler.items))
    (then_ok _ _ c.write_block-in-Try-2.result (adds_then (adds_then c.in_ok-word-in-Try.ensures c.in_ok-write_block-in-Try.ensures) (adds_then c.in_ok-word-in-Try-2.ensures c.in_ok-write_caught-in-Try.ensures)) c.write_block-in-Try-2.ensures))

pub write_block-loop-stmt-preserved : goal.write_block-loop-stmt-preserved
write_block-loop-stmt-preserved t c = goes_on _
    (ap (λ ss. stmts_spelling (all_as_in c.args.in_segment (seen_block ss))) (front _ _ _ c.stmt-item.is c.loop-stmt-test.true) ∙ all_step c.args.in_segment (seen_stmt c.stmt-item.result) _)
    c.loop-stmt.invariant c.in_ok-write_stmt.ensures

pub write_block-returns : goal.write_block-returns
write_block-returns t c = rw (sym c.deref-stmt-items.ensures.value)
    (then_ok _ _ c.sign-2.result c.in_ok-sign.ensures
    (then_ok _ _ c.sign-2.result (goes_to _ (ap (λ ss. stmts_spelling (all_as_in c.args.in_segment (seen_block ss))) (drop_all _ _ c.loop-stmt-test.false) ∙ all_end c.args.in_segment) c.loop-stmt.invariant) c.sign-2.ensures))

pub write_others-loop-other-preserved : goal.write_others-loop-other-preserved
write_others-loop-other-preserved t c = goes_on _
    (ap (λ ps. else_ifs_spelling (others_as_in c.args.in_segment (seen_others ps))) (front _ _ _ c.other-item.is c.loop-other-test.true) ∙
    others_step c.args.in_segment (seen_expr c.other-item.result.0) (seen_block c.other-item.result.1.items) _)
    c.loop-other.invariant (adds_then c.in_ok-word.ensures (adds_then c.in_ok-word-2.ensures (adds_then c.in_ok-write_condition.ensures c.in_ok-write_block.ensures)))

pub write_others-returns : goal.write_others-returns
write_others-returns t c = rw (sym c.deref-other-items.ensures.value)
    (goes_to _ (ap (λ ps. else_ifs_spelling (others_as_in c.args.in_segment (seen_others ps))) (drop_all _ _ c.loop-other-test.false) ∙ others_end c.args.in_segment) c.loop-other.invariant)

pub write_else-returns-in_ok-word-in-Some : goal.write_else-returns-in_ok-word-in-Some
write_else-returns-in_ok-word-in-Some t c = rw c.in-Some.is
    (ok_as _ _ c.write_block.result (else_some c.args.in_segment (seen_block c.in-Some.block.items)) (then_ok _ _ c.write_block.result c.in_ok-word-in-Some.ensures c.write_block.ensures))

pub write_else-returns-in-None : goal.write_else-returns-in-None
write_else-returns-in-None t c = rw c.in-None.is (adds_as (else_none c.args.in_segment) (adds_none c.args.into.now.items))

pub write_block-write_stmt-requires : goal.write_block-write_stmt-requires
write_block-write_stmt-requires t c =
    let smaller : stmt_size (seen_stmt c.stmt-item.result) < block_size (seen_block c.args.block.now.items) = rw (sym c.deref-stmt-items.ensures.value) (sizes.in_block _ _ _ c.stmt-item.is c.loop-stmt-test.true) in
    search rules

pub write_others-write_block-requires : goal.write_others-write_block-requires
write_others-write_block-requires t c =
    let smaller : block_size (seen_block c.other-item.result.1.items) < others_size (seen_others c.args.others.now.items) = rw (sym c.deref-other-items.ensures.value) (let h = sizes.in_others _ _ _ c.other-item.is c.loop-other-test.true in omega (arith, h)) in
    search rules

pub write_stmt-write_block-requires : goal.write_stmt-write_block-requires
write_stmt-write_block-requires t c =
    let smaller : block_size (seen_block c.in-If.block.items) < stmt_size (seen_stmt c.args.stmt.now) = rw (c.in-If.is, seen-If) (omega arith) in
    search rules

pub write_stmt-write_others-requires : goal.write_stmt-write_others-requires
write_stmt-write_others-requires t c =
    let smaller : others_size (seen_others c.in-If.others.items) < stmt_size (seen_stmt c.args.stmt.now) = rw (c.in-If.is, seen-If) (omega arith) in
    search rules

pub write_stmt-write_else-requires : goal.write_stmt-write_else-requires
write_stmt-write_else-requires t c =
    let smaller : else_size (seen_else c.in-If.last) < stmt_size (seen_stmt c.args.stmt.now) = rw (c.in-If.is, seen-If) (omega arith) in
    search rules

pub write_stmt-write_block-requires-in-While : goal.write_stmt-write_block-requires-in-While
write_stmt-write_block-requires-in-While t c =
    let smaller : block_size (seen_block c.in-While.block.items) < stmt_size (seen_stmt c.args.stmt.now) = rw (c.in-While.is, seen-While) (omega arith) in
    search rules

pub write_stmt-write_block-requires-in-Try : goal.write_stmt-write_block-requires-in-Try
write_stmt-write_block-requires-in-Try t c =
    let smaller : block_size (seen_block c.in-Try.block.items) < stmt_size (seen_stmt c.args.stmt.now) = rw (c.in-Try.is, seen-Try) (omega arith) in
    search rules

pub write_stmt-write_block-requires-in-Try-2 : goal.write_stmt-write_block-requires-in-Try-2
write_stmt-write_block-requires-in-Try-2 t c =
    let smaller : block_size (seen_block c.in-Try.handler.items) < stmt_size (seen_stmt c.args.stmt.now) = rw (c.in-Try.is, seen-Try) (omega arith) in
    search rules
