use Rattle.std.proofs.Common.{refl, ap, arith}
use Rattle.lang_meaning.specs.Evaluation.{names_in, names_in_stmt}
use Rattle.lang_ast.specs.Seen.{seen_stmt, seen_block}
use Rattle.lang_ast.proofs.Sizes.{in_block}
use Rattle.lang_parse.proofs.NameSteps.{block_names, others_names, adding_next, adds_same, on_ok, in_if_block, in_if_others, in_if_last, if_adds_last, if_adds_none, in_while, while_adds, in_try, in_handler, try_adds, var_adds, assign_adds, expr_adds, return_adds, throw_adds, in_others}
use Rattle.lang_parse.proofs.globals.+names.Goals as goal

pub add_names-add_names_of-requires : goal.add_names-add_names_of-requires
add_names-add_names_of-requires t c = let h = in_block c.args.statements.now c.loop-statement.statement-index c.statement-item.result c.statement-item.is c.loop-statement-test.true in let d = c.decreases in (omega (arith, h, d), tt)

pub add_names-loop-statement-preserved : goal.add_names-loop-statement-preserved
add_names-loop-statement-preserved t c = adding_next block_names c.args.names.now.keys c.args.statements.now _ _ c.loop-statement.statement-index c.statement-item.result (names_in_stmt (seen_stmt c.statement-item.result)) (λ rest. refl)
    c.loop-statement-test.true c.statement-item.is c.loop-statement.invariant c.in_ok-add_names_of.ensures.added

pub add_names_of_others-add_names-requires : goal.add_names_of_others-add_names-requires
add_names_of_others-add_names-requires t c = let h = in_others c.args.others.now c.loop-other.other-index c.other-item.result _ c.other-item.is c.loop-other-test.true c.deref.ensures.value in let d = c.decreases in (omega (arith, h, d), tt)

pub add_names_of_others-loop-other-preserved : goal.add_names_of_others-loop-other-preserved
add_names_of_others-loop-other-preserved t c = adding_next others_names c.args.names.now.keys c.args.others.now _ _ c.loop-other.other-index c.other-item.result (names_in (seen_block c.other-item.result.1.items)) (λ rest. refl)
    c.loop-other-test.true c.other-item.is c.loop-other.invariant (adds_same _ _ _ _ (ap (λ z. names_in (seen_block z)) c.deref.ensures.value) c.in_ok-add_names.ensures.added)

pub add_names_of-add_names-requires : goal.add_names_of-add_names-requires
add_names_of-add_names-requires t c = let h = in_if_block c.args.statement.now c.in-If.field-0 c.in-If.block c.in-If.others c.in-If.last c.in-If.is _ c.deref.ensures.value in let d = c.decreases in (omega (arith, h, d), tt)

pub add_names_of-add_names_of_others-requires : goal.add_names_of-add_names_of_others-requires
add_names_of-add_names_of_others-requires t c = let h = in_if_others c.args.statement.now c.in-If.field-0 c.in-If.block c.in-If.others c.in-If.last c.in-If.is _ c.deref-in-If.ensures.value in let d = c.decreases in (omega (arith, h, d), tt)

pub add_names_of-add_names-requires-in-Some : goal.add_names_of-add_names-requires-in-Some
add_names_of-add_names-requires-in-Some t c = let h = in_if_last c.args.statement.now c.in-If.field-0 c.in-If.block c.in-If.others c.in-If.last c.in-If.is c.in-Some.block _ c.in-Some.is c.deref-in-Some.ensures.value in let d = c.decreases in (omega (arith, h, d), tt)

pub add_names_of-add_names-requires-in-While : goal.add_names_of-add_names-requires-in-While
add_names_of-add_names-requires-in-While t c = let h = in_while c.args.statement.now c.in-While.field-0 c.in-While.block c.in-While.is _ c.deref-in-While.ensures.value in let d = c.decreases in (omega (arith, h, d), tt)

pub add_names_of-add_names-requires-in-Try : goal.add_names_of-add_names-requires-in-Try
add_names_of-add_names-requires-in-Try t c = let h = in_try c.args.statement.now c.in-Try.block c.in-Try.name c.in-Try.handler c.in-Try.is _ c.deref-in-Try.ensures.value in let d = c.decreases in (omega (arith, h, d), tt)

pub add_names_of-add_names-requires-in-Try-2 : goal.add_names_of-add_names-requires-in-Try-2
add_names_of-add_names-requires-in-Try-2 t c = let h = in_handler c.args.statement.now c.in-Try.block c.in-Try.name c.in-Try.handler c.in-Try.is _ c.deref-in-Try-2.ensures.value in let d = c.decreases in (omega (arith, h, d), tt)

pub add_names_of-returns-in-Var-clause-added : goal.add_names_of-returns-in-Var-clause-added
add_names_of-returns-in-Var-clause-added t c = on_ok c.add_name.result _ _ (var_adds c.args.statement.now c.in-Var.name c.in-Var.field-1 _ _ c.in-Var.is) c.add_name.ensures.added

pub add_names_of-returns-in-Some-clause-added : goal.add_names_of-returns-in-Some-clause-added
add_names_of-returns-in-Some-clause-added t c = on_ok c.add_names-in-Some.result _ _ (if_adds_last c.args.statement.now c.in-If.field-0 c.in-If.block c.in-If.others c.in-If.last c.in-If.is _ _ _ _ _ c.deref.ensures.value c.deref-in-If.ensures.value c.in_ok-add_names-in-If.ensures.added c.in_ok-add_names_of_others-in-If.ensures.added c.in-Some.block _ _ c.in-Some.is c.deref-in-Some.ensures.value) c.add_names-in-Some.ensures.added

pub add_names_of-returns-in-None-clause-added : goal.add_names_of-returns-in-None-clause-added
add_names_of-returns-in-None-clause-added t c = if_adds_none c.args.statement.now c.in-If.field-0 c.in-If.block c.in-If.others c.in-If.last c.in-If.is _ _ _ _ _ c.deref.ensures.value c.deref-in-If.ensures.value c.in_ok-add_names-in-If.ensures.added c.in_ok-add_names_of_others-in-If.ensures.added c.in-None.is

pub add_names_of-returns-in-While-clause-added : goal.add_names_of-returns-in-While-clause-added
add_names_of-returns-in-While-clause-added t c = on_ok c.add_names-in-While.result _ _ (while_adds c.args.statement.now c.in-While.field-0 c.in-While.block c.in-While.is _ c.deref-in-While.ensures.value _ _) c.add_names-in-While.ensures.added

pub add_names_of-returns-in_ok-add_name-in-Try-clause-added : goal.add_names_of-returns-in_ok-add_name-in-Try-clause-added
add_names_of-returns-in_ok-add_name-in-Try-clause-added t c = on_ok c.add_names-in-Try-2.result _ _ (try_adds c.args.statement.now c.in-Try.block c.in-Try.name c.in-Try.handler c.in-Try.is _ _ _ _ _ _ c.deref-in-Try.ensures.value c.deref-in-Try-2.ensures.value c.in_ok-add_names-in-Try.ensures.added c.in_ok-add_name-in-Try.ensures.added) c.add_names-in-Try-2.ensures.added

pub add_names_of-returns-in-Assign-clause-added : goal.add_names_of-returns-in-Assign-clause-added
add_names_of-returns-in-Assign-clause-added t c = assign_adds c.args.statement.now c.in-Assign.field-0 c.in-Assign.field-1 _ c.in-Assign.is

pub add_names_of-returns-in-Expr-clause-added : goal.add_names_of-returns-in-Expr-clause-added
add_names_of-returns-in-Expr-clause-added t c = expr_adds c.args.statement.now c.in-Expr.field-0 _ c.in-Expr.is

pub add_names_of-returns-in-Return-clause-added : goal.add_names_of-returns-in-Return-clause-added
add_names_of-returns-in-Return-clause-added t c = return_adds c.args.statement.now c.in-Return.field-0 _ c.in-Return.is

pub add_names_of-returns-in-Throw-clause-added : goal.add_names_of-returns-in-Throw-clause-added
add_names_of-returns-in-Throw-clause-added t c = throw_adds c.args.statement.now c.in-Throw.field-0 _ c.in-Throw.is
