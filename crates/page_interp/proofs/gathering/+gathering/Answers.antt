use Rattle.std.proofs.Common.{◌<◌, rules, arith, append_assoc, sym}
use Rattle.std.proofs.lemmas.List.{append-nil}
use Rattle.lang_ast.specs.Seen.{seen_stmt, seen_block, seen_others}
use Rattle.lang_ast.specs.Sizes.{stmt_size, block_size, others_size}
use Rattle.lang_ast.proofs.Trees.{seen-If, seen-Try, seen-Assign, seen-Expr, seen-Return, seen-Throw}
use Rattle.page_interp.proofs.gathering.+gathering.Goals as goal

pub names_in_stmt-names_in-requires : goal.names_in_stmt-names_in-requires
names_in_stmt-names_in-requires t c =
    let smaller : block_size (seen_block c.in-If.block.items) < stmt_size (seen_stmt c.args.stmt.now) = rw (c.in-If.is, seen-If) (omega arith) in
    search rules

pub names_in_stmt-names_in_others-requires : goal.names_in_stmt-names_in_others-requires
names_in_stmt-names_in_others-requires t c =
    let smaller : others_size (seen_others c.in-If.others.items) < stmt_size (seen_stmt c.args.stmt.now) = rw (c.in-If.is, seen-If) (omega arith) in
    search rules

pub names_in_stmt-returns-in_ok-names_in_others-in-If : goal.names_in_stmt-returns-in_ok-names_in_others-in-If
names_in_stmt-returns-in_ok-names_in_others-in-If t c = rw (c.in-If.is, seen-If) (grind (rules, append_assoc))

pub names_in_stmt-returns-in_ok-push-in-Try : goal.names_in_stmt-returns-in_ok-push-in-Try
names_in_stmt-returns-in_ok-push-in-Try t c = rw (c.in-Try.is, seen-Try) (grind (rules, append_assoc))

pub names_in_stmt-returns-in-Assign : goal.names_in_stmt-returns-in-Assign
names_in_stmt-returns-in-Assign t c = rw (c.in-Assign.is, seen-Assign) (sym (append-nil _))

pub names_in_stmt-returns-in-Expr : goal.names_in_stmt-returns-in-Expr
names_in_stmt-returns-in-Expr t c = rw (c.in-Expr.is, seen-Expr) (sym (append-nil _))

pub names_in_stmt-returns-in-Return : goal.names_in_stmt-returns-in-Return
names_in_stmt-returns-in-Return t c = rw (c.in-Return.is, seen-Return) (sym (append-nil _))

pub names_in_stmt-returns-in-Throw : goal.names_in_stmt-returns-in-Throw
names_in_stmt-returns-in-Throw t c = rw (c.in-Throw.is, seen-Throw) (sym (append-nil _))
