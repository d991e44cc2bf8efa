use Rattle.std.proofs.Common.{refl}
use Rattle.lang_ast.specs.Seen.{seen_stmt}
use Rattle.async_segments.proofs.Writing.{adds_as}
use Rattle.async_segments.proofs.Flags.{one_spelling}
use Rattle.async_segments.proofs.items.write_plain.Goals as goal

pub returns-in_ok-write_function-in-Fn-clause-written : goal.returns-in_ok-write_function-in-Fn-clause-written
returns-in_ok-write_function-in-Fn-clause-written c = rw c.in-Fn.is c.in_ok-write_function-in-Fn.ensures

pub returns-in_ok-write_function-in-Fn-clause-count : goal.returns-in_ok-write_function-in-Fn-clause-count
returns-in_ok-write_function-in-Fn-clause-count c = rw c.in-Fn.is refl

pub returns-in_ok-write_stmt-in-Stmt-clause-written : goal.returns-in_ok-write_stmt-in-Stmt-clause-written
returns-in_ok-write_stmt-in-Stmt-clause-written c = rw c.in-Stmt.is (adds_as (one_spelling (seen_stmt c.in-Stmt.stmt)) c.in_ok-write_stmt-in-Stmt.ensures)

pub returns-in_ok-write_stmt-in-Stmt-clause-count : goal.returns-in_ok-write_stmt-in-Stmt-clause-count
returns-in_ok-write_stmt-in-Stmt-clause-count c = rw c.in-Stmt.is refl
