use Rattle.std.proofs.Common.{◌+◌}
use Rattle.lang_ast.specs.Seen.{seen_stmt}
use Rattle.async_segments.proofs.ScriptLemmas.{if_ok, if_err}
use Rattle.async_segments.proofs.ItemLemmas.{writes_fn, refuses_fn, refuses_stmt}
use Rattle.async_segments.proofs.items.write_marked.Goals as goal

pub returns-in-Fn-clause-written : goal.returns-in-Fn-clause-written
returns-in-Fn-clause-written c = rw c.in-Fn.is (if_ok c.write_marked_function.result (λ n. writes_fn c.in-Fn.function _ _ (n + 3)) c.write_marked_function.ensures.written)

pub returns-in-Fn-clause-refused : goal.returns-in-Fn-clause-refused
returns-in-Fn-clause-refused c = rw c.in-Fn.is (if_err c.write_marked_function.result (refuses_fn c.in-Fn.function) c.write_marked_function.ensures.refused)

pub returns-in-Stmt-clause-refused : goal.returns-in-Stmt-clause-refused
returns-in-Stmt-clause-refused c = rw c.in-Stmt.is (λ refused. refuses_stmt (seen_stmt c.in-Stmt.field-0))
