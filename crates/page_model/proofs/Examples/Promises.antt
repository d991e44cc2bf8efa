-- Worked examples, computed: promises.
use Rattle.std.specs.Prelude.{◌≡◌, [], ◌∷◌, pos, codes, refl}
use Rattle.page_types.specs.Tree.{Number, TextLiteral, UnitLiteral, Name, Call, no_exprs, with_expr, VarStmt, ExprStmt, no_stmts, with_stmt, FnItem, StmtItem, Program}
use Rattle.page_parts.specs.Setup.{Setup, Rank}
use Rattle.page_parts.specs.Sources.{default_list}
use Rattle.page_model.specs.Turns.{run, run_by}
use Rattle.page_model.specs.PageTrace.{page_trace}
use Rattle.page_model.proofs.Examples.Sample.{named, four_hosts, logs_of, rows}

--     fn a(v) { log("a"); }
--     fn b(v) { log("b"); }
--     fn c(v) { log("c"); }
--     fn x(v) { log("x"); }
--     var p = promise();
--     resolve(p, resolved(1));
--     then(p, x, unit);
--     then(then(then(resolved(0), a, unit), b, unit), c, unit);
abbrev resolving_with_a_promise_takes_two_jobs_more_script : Program
resolving_with_a_promise_takes_two_jobs_more_script =
    record {
      items =
          (FnItem (named "a") ((named "v") ∷ []) (with_stmt (ExprStmt (Call (named "log") (with_expr (TextLiteral (codes "a")) no_exprs))) no_stmts)) ∷
          (FnItem (named "b") ((named "v") ∷ []) (with_stmt (ExprStmt (Call (named "log") (with_expr (TextLiteral (codes "b")) no_exprs))) no_stmts)) ∷
          (FnItem (named "c") ((named "v") ∷ []) (with_stmt (ExprStmt (Call (named "log") (with_expr (TextLiteral (codes "c")) no_exprs))) no_stmts)) ∷
          (FnItem (named "x") ((named "v") ∷ []) (with_stmt (ExprStmt (Call (named "log") (with_expr (TextLiteral (codes "x")) no_exprs))) no_stmts)) ∷
          (StmtItem (VarStmt (named "p") (Call (named "promise") no_exprs))) ∷
          (StmtItem (ExprStmt (Call (named "resolve") (with_expr (Name (named "p")) (with_expr (Call (named "resolved") (with_expr (Number (pos 1)) no_exprs)) no_exprs))))) ∷
          (StmtItem (ExprStmt (Call (named "then") (with_expr (Name (named "p")) (with_expr (Name (named "x")) (with_expr UnitLiteral no_exprs)))))) ∷
          (StmtItem (ExprStmt (Call (named "then") (with_expr (Call (named "then") (with_expr (Call (named "then") (with_expr (Call (named "resolved") (with_expr (Number (pos 0)) no_exprs)) (with_expr (Name (named "a")) (with_expr UnitLiteral no_exprs)))) (with_expr (Name (named "b")) (with_expr UnitLiteral no_exprs)))) (with_expr (Name (named "c")) (with_expr UnitLiteral no_exprs)))))) ∷
          [];
      names = codes "a" ∷ codes "b" ∷ codes "c" ∷ codes "x" ∷ [];
    }

abbrev resolving_with_a_promise_takes_two_jobs_more_setup : Setup
resolving_with_a_promise_takes_two_jobs_more_setup =
    record { form = 1; trace = 1; policy = (Rank default_list); fuel = 1000000; until = 10000000; refresh = 60; late = []; latencies = []; arrivals = [] }

resolving_with_a_promise_takes_two_jobs_more : logs_of (page_trace resolving_with_a_promise_takes_two_jobs_more_script resolving_with_a_promise_takes_two_jobs_more_setup four_hosts ([])) ≡ rows (
    codes "0 \"a\"" ∷
    codes "0 \"b\"" ∷
    codes "0 \"x\"" ∷
    codes "0 \"c\"" ∷
    [])
unfolding page_trace run run_by
resolving_with_a_promise_takes_two_jobs_more = refl

--     rejected("x");
abbrev rejection_without_handler_is_notified_script : Program
rejection_without_handler_is_notified_script =
    record {
      items =
          (StmtItem (ExprStmt (Call (named "rejected") (with_expr (TextLiteral (codes "x")) no_exprs)))) ∷
          [];
      names = [];
    }

abbrev rejection_without_handler_is_notified_setup : Setup
rejection_without_handler_is_notified_setup =
    record { form = 1; trace = 1; policy = (Rank default_list); fuel = 1000000; until = 10000000; refresh = 60; late = []; latencies = []; arrivals = [] }

rejection_without_handler_is_notified : page_trace rejection_without_handler_is_notified_script rejection_without_handler_is_notified_setup four_hosts ([]) ≡ rows (
    codes "trace 1" ∷
    codes "0 turn 1 dom" ∷
    codes "0 call 1" ∷
    codes "0 settle 1 err \"x\"" ∷
    codes "0 ret" ∷
    codes "0 turn 2 dom" ∷
    codes "0 unhandled 1" ∷
    codes "0 end done" ∷
    [])
unfolding page_trace run run_by
rejection_without_handler_is_notified = refl

--     var p = rejected("x");
--     fn g(v) {}
--     fn h() { then(p, unit, g); }
--     queueMicrotask(h);
abbrev rejection_handled_in_a_microtask_script : Program
rejection_handled_in_a_microtask_script =
    record {
      items =
          (StmtItem (VarStmt (named "p") (Call (named "rejected") (with_expr (TextLiteral (codes "x")) no_exprs)))) ∷
          (FnItem (named "g") ((named "v") ∷ []) no_stmts) ∷
          (FnItem (named "h") ([]) (with_stmt (ExprStmt (Call (named "then") (with_expr (Name (named "p")) (with_expr UnitLiteral (with_expr (Name (named "g")) no_exprs))))) no_stmts)) ∷
          (StmtItem (ExprStmt (Call (named "queueMicrotask") (with_expr (Name (named "h")) no_exprs)))) ∷
          [];
      names = codes "g" ∷ codes "h" ∷ [];
    }

abbrev rejection_handled_in_a_microtask_setup : Setup
rejection_handled_in_a_microtask_setup =
    record { form = 1; trace = 1; policy = (Rank default_list); fuel = 1000000; until = 10000000; refresh = 60; late = []; latencies = []; arrivals = [] }

rejection_handled_in_a_microtask : page_trace rejection_handled_in_a_microtask_script rejection_handled_in_a_microtask_setup four_hosts ([]) ≡ rows (
    codes "trace 1" ∷
    codes "0 turn 1 dom" ∷
    codes "0 call 1" ∷
    codes "0 settle 1 err \"x\"" ∷
    codes "0 reg 2 micro" ∷
    codes "0 job 1 micro 2" ∷
    codes "0 ret" ∷
    codes "0 run 1" ∷
    codes "0 call 2" ∷
    codes "0 reg 3 then" ∷
    codes "0 job 2 react 1" ∷
    codes "0 ret" ∷
    codes "0 run 2" ∷
    codes "0 call 3" ∷
    codes "0 ret" ∷
    codes "0 settle 2 ok unit" ∷
    codes "0 end done" ∷
    [])
unfolding page_trace run run_by
rejection_handled_in_a_microtask = refl
