-- Worked examples, computed: promises over several tasks.
use Rattle.std.specs.Prelude.{◌≡◌, [], ◌∷◌, pos, codes, refl}
use Rattle.page_types.specs.declared.CompareSign.TheVariants.{Equals}
use Rattle.page_types.specs.Tree.{Compare, Number, TextLiteral, UnitLiteral, Name, Call, no_exprs, with_expr, VarStmt, AssignStmt, ExprStmt, ThrowStmt, no_stmts, with_stmt, FnItem, StmtItem, Program}
use Rattle.page_parts.specs.Setup.{Setup, Rank}
use Rattle.page_parts.specs.Sources.{default_list}
use Rattle.page_model.specs.Turns.{run, run_by}
use Rattle.page_model.specs.PageTrace.{page_trace}
use Rattle.page_model.proofs.Examples.Sample.{named, four_hosts, rows}

-- A promise is resolved with a pending one, which a later task settles. The job of the adoption runs in the first task, the outcome passes by a job more
-- in the second, and a second resolution in between does nothing.
--     var q = promise();
--     var p = promise();
--     fn f(v) { log(v); }
--     fn g() { resolve(q, 7); log("g"); }
--     then(p, f, unit);
--     resolve(p, q);
--     resolve(p, 1);
--     setTimeout(g, 1);
abbrev promise_adopted_across_tasks_script : Program
promise_adopted_across_tasks_script =
    record {
      items =
          (StmtItem (VarStmt (named "q") (Call (named "promise") no_exprs))) ∷
          (StmtItem (VarStmt (named "p") (Call (named "promise") no_exprs))) ∷
          (FnItem (named "f") ((named "v") ∷ []) (with_stmt (ExprStmt (Call (named "log") (with_expr (Name (named "v")) no_exprs))) no_stmts)) ∷
          (FnItem (named "g") ([]) (with_stmt (ExprStmt (Call (named "resolve") (with_expr (Name (named "q")) (with_expr (Number (pos 7)) no_exprs)))) (with_stmt (ExprStmt (Call (named "log") (with_expr (TextLiteral (codes "g")) no_exprs))) no_stmts))) ∷
          (StmtItem (ExprStmt (Call (named "then") (with_expr (Name (named "p")) (with_expr (Name (named "f")) (with_expr UnitLiteral no_exprs)))))) ∷
          (StmtItem (ExprStmt (Call (named "resolve") (with_expr (Name (named "p")) (with_expr (Name (named "q")) no_exprs))))) ∷
          (StmtItem (ExprStmt (Call (named "resolve") (with_expr (Name (named "p")) (with_expr (Number (pos 1)) no_exprs))))) ∷
          (StmtItem (ExprStmt (Call (named "setTimeout") (with_expr (Name (named "g")) (with_expr (Number (pos 1)) no_exprs))))) ∷
          [];
      names = codes "f" ∷ codes "g" ∷ [];
    }

abbrev promise_adopted_across_tasks_setup : Setup
promise_adopted_across_tasks_setup =
    record { form = 1; trace = 1; policy = (Rank default_list); fuel = 1000000; until = 10000000; refresh = 60; late = []; latencies = []; arrivals = [] }

promise_adopted_across_tasks : page_trace promise_adopted_across_tasks_script promise_adopted_across_tasks_setup four_hosts ([]) ≡ rows (
    codes "trace 1" ∷
    codes "0 turn 1 dom" ∷
    codes "0 call 1" ∷
    codes "0 reg 2 then" ∷
    codes "0 job 1 adopt 2" ∷
    codes "0 reg 3 timeout" ∷
    codes "0 arm 3 1000 1" ∷
    codes "0 ret" ∷
    codes "0 run 1" ∷
    codes "1000 wait 1000" ∷
    codes "1000 due 3" ∷
    codes "1000 turn 2 timer" ∷
    codes "1000 call 3" ∷
    codes "1000 settle 1 ok 7" ∷
    codes "1000 job 2 react 1" ∷
    codes "1000 log \"g\"" ∷
    codes "1000 ret" ∷
    codes "1000 run 2" ∷
    codes "1000 settle 2 ok 7" ∷
    codes "1000 job 3 react 2" ∷
    codes "1000 run 3" ∷
    codes "1000 call 2" ∷
    codes "1000 log 7" ∷
    codes "1000 ret" ∷
    codes "1000 settle 3 ok unit" ∷
    codes "1000 end done" ∷
    [])
unfolding page_trace run run_by
promise_adopted_across_tasks = refl

-- Resolving a promise with itself rejects it with TypeError. A later rejection does nothing, and the handler that is added in the same script keeps the
-- rejection from being notified about.
--     var p = promise();
--     fn h(r) { log(r); }
--     resolve(p, p);
--     reject(p, 1);
--     then(p, unit, h);
abbrev promise_resolved_with_itself_script : Program
promise_resolved_with_itself_script =
    record {
      items =
          (StmtItem (VarStmt (named "p") (Call (named "promise") no_exprs))) ∷
          (FnItem (named "h") ((named "r") ∷ []) (with_stmt (ExprStmt (Call (named "log") (with_expr (Name (named "r")) no_exprs))) no_stmts)) ∷
          (StmtItem (ExprStmt (Call (named "resolve") (with_expr (Name (named "p")) (with_expr (Name (named "p")) no_exprs))))) ∷
          (StmtItem (ExprStmt (Call (named "reject") (with_expr (Name (named "p")) (with_expr (Number (pos 1)) no_exprs))))) ∷
          (StmtItem (ExprStmt (Call (named "then") (with_expr (Name (named "p")) (with_expr UnitLiteral (with_expr (Name (named "h")) no_exprs)))))) ∷
          [];
      names = codes "h" ∷ [];
    }

abbrev promise_resolved_with_itself_setup : Setup
promise_resolved_with_itself_setup =
    record { form = 1; trace = 1; policy = (Rank default_list); fuel = 1000000; until = 10000000; refresh = 60; late = []; latencies = []; arrivals = [] }

promise_resolved_with_itself : page_trace promise_resolved_with_itself_script promise_resolved_with_itself_setup four_hosts ([]) ≡ rows (
    codes "trace 1" ∷
    codes "0 turn 1 dom" ∷
    codes "0 call 1" ∷
    codes "0 settle 1 err TypeError(\"\")" ∷
    codes "0 reg 2 then" ∷
    codes "0 job 1 react 1" ∷
    codes "0 ret" ∷
    codes "0 run 1" ∷
    codes "0 call 2" ∷
    codes "0 log TypeError(\"\")" ∷
    codes "0 ret" ∷
    codes "0 settle 2 ok unit" ∷
    codes "0 end done" ∷
    [])
unfolding page_trace run run_by
promise_resolved_with_itself = refl

-- A rejection is notified about, and a later task handles it: the handler runs in that task's checkpoint, and rejectionhandled is fired by a task after
-- it.
--     var p = rejected("x");
--     fn u(q, r) { log("u"); log(q == p); log(r); }
--     fn k(q, r) { log("k"); log(r); }
--     fn g(r) { log("g"); }
--     fn t() { then(p, unit, g); }
--     listen(unit, "unhandledrejection", u);
--     listen(unit, "rejectionhandled", k);
--     setTimeout(t, 1);
abbrev rejection_handled_late_script : Program
rejection_handled_late_script =
    record {
      items =
          (StmtItem (VarStmt (named "p") (Call (named "rejected") (with_expr (TextLiteral (codes "x")) no_exprs)))) ∷
          (FnItem (named "u") ((named "q") ∷ (named "r") ∷ []) (with_stmt (ExprStmt (Call (named "log") (with_expr (TextLiteral (codes "u")) no_exprs))) (with_stmt (ExprStmt (Call (named "log") (with_expr (Compare (Name (named "q")) Equals (Name (named "p"))) no_exprs))) (with_stmt (ExprStmt (Call (named "log") (with_expr (Name (named "r")) no_exprs))) no_stmts)))) ∷
          (FnItem (named "k") ((named "q") ∷ (named "r") ∷ []) (with_stmt (ExprStmt (Call (named "log") (with_expr (TextLiteral (codes "k")) no_exprs))) (with_stmt (ExprStmt (Call (named "log") (with_expr (Name (named "r")) no_exprs))) no_stmts))) ∷
          (FnItem (named "g") ((named "r") ∷ []) (with_stmt (ExprStmt (Call (named "log") (with_expr (TextLiteral (codes "g")) no_exprs))) no_stmts)) ∷
          (FnItem (named "t") ([]) (with_stmt (ExprStmt (Call (named "then") (with_expr (Name (named "p")) (with_expr UnitLiteral (with_expr (Name (named "g")) no_exprs))))) no_stmts)) ∷
          (StmtItem (ExprStmt (Call (named "listen") (with_expr UnitLiteral (with_expr (TextLiteral (codes "unhandledrejection")) (with_expr (Name (named "u")) no_exprs)))))) ∷
          (StmtItem (ExprStmt (Call (named "listen") (with_expr UnitLiteral (with_expr (TextLiteral (codes "rejectionhandled")) (with_expr (Name (named "k")) no_exprs)))))) ∷
          (StmtItem (ExprStmt (Call (named "setTimeout") (with_expr (Name (named "t")) (with_expr (Number (pos 1)) no_exprs))))) ∷
          [];
      names = codes "u" ∷ codes "k" ∷ codes "g" ∷ codes "t" ∷ [];
    }

abbrev rejection_handled_late_setup : Setup
rejection_handled_late_setup =
    record { form = 1; trace = 1; policy = (Rank default_list); fuel = 1000000; until = 10000000; refresh = 60; late = []; latencies = []; arrivals = [] }

rejection_handled_late : page_trace rejection_handled_late_script rejection_handled_late_setup four_hosts ([]) ≡ rows (
    codes "trace 1" ∷
    codes "0 turn 1 dom" ∷
    codes "0 call 1" ∷
    codes "0 settle 1 err \"x\"" ∷
    codes "0 reg 2 listener" ∷
    codes "0 reg 3 listener" ∷
    codes "0 reg 4 timeout" ∷
    codes "0 arm 4 1000 1" ∷
    codes "0 ret" ∷
    codes "0 turn 2 dom" ∷
    codes "0 unhandled 1" ∷
    codes "0 call 2" ∷
    codes "0 log \"u\"" ∷
    codes "0 log true" ∷
    codes "0 log \"x\"" ∷
    codes "0 ret" ∷
    codes "1000 wait 1000" ∷
    codes "1000 due 4" ∷
    codes "1000 turn 3 timer" ∷
    codes "1000 call 4" ∷
    codes "1000 reg 5 then" ∷
    codes "1000 job 1 react 1" ∷
    codes "1000 ret" ∷
    codes "1000 run 1" ∷
    codes "1000 call 5" ∷
    codes "1000 log \"g\"" ∷
    codes "1000 ret" ∷
    codes "1000 settle 2 ok unit" ∷
    codes "1000 turn 4 dom" ∷
    codes "1000 handled 1" ∷
    codes "1000 call 3" ∷
    codes "1000 log \"k\"" ∷
    codes "1000 log \"x\"" ∷
    codes "1000 ret" ∷
    codes "1000 end done" ∷
    [])
unfolding page_trace run run_by
rejection_handled_late = refl

-- The listener of the first of two rejections handles both. The first does not become outstanding, and the second is not notified about any more, so
-- rejectionhandled is fired for neither.
--     var p = rejected("x");
--     var o = rejected("y");
--     fn g(r) { log(r); }
--     fn u(q, r) { then(p, unit, g); then(o, unit, g); }
--     fn k(q, r) { log("k"); }
--     listen(unit, "unhandledrejection", u);
--     listen(unit, "rejectionhandled", k);
abbrev rejection_handled_inside_its_listener_script : Program
rejection_handled_inside_its_listener_script =
    record {
      items =
          (StmtItem (VarStmt (named "p") (Call (named "rejected") (with_expr (TextLiteral (codes "x")) no_exprs)))) ∷
          (StmtItem (VarStmt (named "o") (Call (named "rejected") (with_expr (TextLiteral (codes "y")) no_exprs)))) ∷
          (FnItem (named "g") ((named "r") ∷ []) (with_stmt (ExprStmt (Call (named "log") (with_expr (Name (named "r")) no_exprs))) no_stmts)) ∷
          (FnItem (named "u") ((named "q") ∷ (named "r") ∷ []) (with_stmt (ExprStmt (Call (named "then") (with_expr (Name (named "p")) (with_expr UnitLiteral (with_expr (Name (named "g")) no_exprs))))) (with_stmt (ExprStmt (Call (named "then") (with_expr (Name (named "o")) (with_expr UnitLiteral (with_expr (Name (named "g")) no_exprs))))) no_stmts))) ∷
          (FnItem (named "k") ((named "q") ∷ (named "r") ∷ []) (with_stmt (ExprStmt (Call (named "log") (with_expr (TextLiteral (codes "k")) no_exprs))) no_stmts)) ∷
          (StmtItem (ExprStmt (Call (named "listen") (with_expr UnitLiteral (with_expr (TextLiteral (codes "unhandledrejection")) (with_expr (Name (named "u")) no_exprs)))))) ∷
          (StmtItem (ExprStmt (Call (named "listen") (with_expr UnitLiteral (with_expr (TextLiteral (codes "rejectionhandled")) (with_expr (Name (named "k")) no_exprs)))))) ∷
          [];
      names = codes "g" ∷ codes "u" ∷ codes "k" ∷ [];
    }

abbrev rejection_handled_inside_its_listener_setup : Setup
rejection_handled_inside_its_listener_setup =
    record { form = 1; trace = 1; policy = (Rank default_list); fuel = 1000000; until = 10000000; refresh = 60; late = []; latencies = []; arrivals = [] }

rejection_handled_inside_its_listener : page_trace rejection_handled_inside_its_listener_script rejection_handled_inside_its_listener_setup four_hosts ([]) ≡ rows (
    codes "trace 1" ∷
    codes "0 turn 1 dom" ∷
    codes "0 call 1" ∷
    codes "0 settle 1 err \"x\"" ∷
    codes "0 settle 2 err \"y\"" ∷
    codes "0 reg 2 listener" ∷
    codes "0 reg 3 listener" ∷
    codes "0 ret" ∷
    codes "0 turn 2 dom" ∷
    codes "0 unhandled 1" ∷
    codes "0 call 2" ∷
    codes "0 reg 4 then" ∷
    codes "0 job 1 react 1" ∷
    codes "0 reg 5 then" ∷
    codes "0 job 2 react 2" ∷
    codes "0 ret" ∷
    codes "0 run 1" ∷
    codes "0 call 4" ∷
    codes "0 log \"x\"" ∷
    codes "0 ret" ∷
    codes "0 settle 3 ok unit" ∷
    codes "0 run 2" ∷
    codes "0 call 5" ∷
    codes "0 log \"y\"" ∷
    codes "0 ret" ∷
    codes "0 settle 4 ok unit" ∷
    codes "0 end done" ∷
    [])
unfolding page_trace run run_by
rejection_handled_inside_its_listener = refl

-- A microtask makes a rejected promise and the next one handles it. Both run in one checkpoint, whose end finds nothing to notify about.
--     var p = unit;
--     fn g(r) { log(r); }
--     fn b() { then(p, unit, g); }
--     fn a() { p = rejected("x"); queueMicrotask(b); }
--     queueMicrotask(a);
abbrev rejection_handled_in_its_own_checkpoint_script : Program
rejection_handled_in_its_own_checkpoint_script =
    record {
      items =
          (StmtItem (VarStmt (named "p") UnitLiteral)) ∷
          (FnItem (named "g") ((named "r") ∷ []) (with_stmt (ExprStmt (Call (named "log") (with_expr (Name (named "r")) no_exprs))) no_stmts)) ∷
          (FnItem (named "b") ([]) (with_stmt (ExprStmt (Call (named "then") (with_expr (Name (named "p")) (with_expr UnitLiteral (with_expr (Name (named "g")) no_exprs))))) no_stmts)) ∷
          (FnItem (named "a") ([]) (with_stmt (AssignStmt (named "p") (Call (named "rejected") (with_expr (TextLiteral (codes "x")) no_exprs))) (with_stmt (ExprStmt (Call (named "queueMicrotask") (with_expr (Name (named "b")) no_exprs))) no_stmts))) ∷
          (StmtItem (ExprStmt (Call (named "queueMicrotask") (with_expr (Name (named "a")) no_exprs)))) ∷
          [];
      names = codes "g" ∷ codes "b" ∷ codes "a" ∷ [];
    }

abbrev rejection_handled_in_its_own_checkpoint_setup : Setup
rejection_handled_in_its_own_checkpoint_setup =
    record { form = 1; trace = 1; policy = (Rank default_list); fuel = 1000000; until = 10000000; refresh = 60; late = []; latencies = []; arrivals = [] }

rejection_handled_in_its_own_checkpoint : page_trace rejection_handled_in_its_own_checkpoint_script rejection_handled_in_its_own_checkpoint_setup four_hosts ([]) ≡ rows (
    codes "trace 1" ∷
    codes "0 turn 1 dom" ∷
    codes "0 call 1" ∷
    codes "0 reg 2 micro" ∷
    codes "0 job 1 micro 2" ∷
    codes "0 ret" ∷
    codes "0 run 1" ∷
    codes "0 call 2" ∷
    codes "0 settle 1 err \"x\"" ∷
    codes "0 reg 3 micro" ∷
    codes "0 job 2 micro 3" ∷
    codes "0 ret" ∷
    codes "0 run 2" ∷
    codes "0 call 3" ∷
    codes "0 reg 4 then" ∷
    codes "0 job 3 react 1" ∷
    codes "0 ret" ∷
    codes "0 run 3" ∷
    codes "0 call 4" ∷
    codes "0 log \"x\"" ∷
    codes "0 ret" ∷
    codes "0 settle 2 ok unit" ∷
    codes "0 end done" ∷
    [])
unfolding page_trace run run_by
rejection_handled_in_its_own_checkpoint = refl

-- A timer's task comes between the checkpoint that queued the notification and its task, and resolves another promise with the rejected one. By then
-- that one is handled, so its task fires nothing; the other one is rejected in its place and notified about.
--     var p = rejected("x");
--     var q = promise();
--     fn t() { resolve(q, p); }
--     setTimeout(t, 0);
abbrev rejection_handled_before_its_notification_script : Program
rejection_handled_before_its_notification_script =
    record {
      items =
          (StmtItem (VarStmt (named "p") (Call (named "rejected") (with_expr (TextLiteral (codes "x")) no_exprs)))) ∷
          (StmtItem (VarStmt (named "q") (Call (named "promise") no_exprs))) ∷
          (FnItem (named "t") ([]) (with_stmt (ExprStmt (Call (named "resolve") (with_expr (Name (named "q")) (with_expr (Name (named "p")) no_exprs)))) no_stmts)) ∷
          (StmtItem (ExprStmt (Call (named "setTimeout") (with_expr (Name (named "t")) (with_expr (Number (pos 0)) no_exprs))))) ∷
          [];
      names = codes "t" ∷ [];
    }

abbrev rejection_handled_before_its_notification_setup : Setup
rejection_handled_before_its_notification_setup =
    record { form = 1; trace = 1; policy = (Rank default_list); fuel = 1000000; until = 10000000; refresh = 60; late = []; latencies = []; arrivals = [] }

rejection_handled_before_its_notification : page_trace rejection_handled_before_its_notification_script rejection_handled_before_its_notification_setup four_hosts ([]) ≡ rows (
    codes "trace 1" ∷
    codes "0 turn 1 dom" ∷
    codes "0 call 1" ∷
    codes "0 settle 1 err \"x\"" ∷
    codes "0 reg 2 timeout" ∷
    codes "0 arm 2 0 1" ∷
    codes "0 ret" ∷
    codes "0 due 2" ∷
    codes "0 turn 2 timer" ∷
    codes "0 call 2" ∷
    codes "0 job 1 adopt 2" ∷
    codes "0 ret" ∷
    codes "0 run 1" ∷
    codes "0 job 2 react 1" ∷
    codes "0 run 2" ∷
    codes "0 settle 2 err \"x\"" ∷
    codes "0 turn 3 dom" ∷
    codes "0 turn 4 dom" ∷
    codes "0 unhandled 2" ∷
    codes "0 end done" ∷
    [])
unfolding page_trace run run_by
rejection_handled_before_its_notification = refl

-- Resolving a promise with an outstanding rejected one handles that one, by the job of the adoption: its task is queued before that of the new
-- rejection.
--     var p = rejected("x");
--     var q = promise();
--     fn t() { resolve(q, p); }
--     setTimeout(t, 1);
abbrev outstanding_rejection_handled_by_adoption_script : Program
outstanding_rejection_handled_by_adoption_script =
    record {
      items =
          (StmtItem (VarStmt (named "p") (Call (named "rejected") (with_expr (TextLiteral (codes "x")) no_exprs)))) ∷
          (StmtItem (VarStmt (named "q") (Call (named "promise") no_exprs))) ∷
          (FnItem (named "t") ([]) (with_stmt (ExprStmt (Call (named "resolve") (with_expr (Name (named "q")) (with_expr (Name (named "p")) no_exprs)))) no_stmts)) ∷
          (StmtItem (ExprStmt (Call (named "setTimeout") (with_expr (Name (named "t")) (with_expr (Number (pos 1)) no_exprs))))) ∷
          [];
      names = codes "t" ∷ [];
    }

abbrev outstanding_rejection_handled_by_adoption_setup : Setup
outstanding_rejection_handled_by_adoption_setup =
    record { form = 1; trace = 1; policy = (Rank default_list); fuel = 1000000; until = 10000000; refresh = 60; late = []; latencies = []; arrivals = [] }

outstanding_rejection_handled_by_adoption : page_trace outstanding_rejection_handled_by_adoption_script outstanding_rejection_handled_by_adoption_setup four_hosts ([]) ≡ rows (
    codes "trace 1" ∷
    codes "0 turn 1 dom" ∷
    codes "0 call 1" ∷
    codes "0 settle 1 err \"x\"" ∷
    codes "0 reg 2 timeout" ∷
    codes "0 arm 2 1000 1" ∷
    codes "0 ret" ∷
    codes "0 turn 2 dom" ∷
    codes "0 unhandled 1" ∷
    codes "1000 wait 1000" ∷
    codes "1000 due 2" ∷
    codes "1000 turn 3 timer" ∷
    codes "1000 call 2" ∷
    codes "1000 job 1 adopt 2" ∷
    codes "1000 ret" ∷
    codes "1000 run 1" ∷
    codes "1000 job 2 react 1" ∷
    codes "1000 run 2" ∷
    codes "1000 settle 2 err \"x\"" ∷
    codes "1000 turn 4 dom" ∷
    codes "1000 handled 1" ∷
    codes "1000 turn 5 dom" ∷
    codes "1000 unhandled 2" ∷
    codes "1000 end done" ∷
    [])
unfolding page_trace run run_by
outstanding_rejection_handled_by_adoption = refl

-- A throw of a then handler rejects the derived promise and is not reported. The next one passes it on, having no handler for it, and the last of the
-- chain is notified about.
--     fn t(v) { throw v; }
--     fn f(v) { log("no"); }
--     then(then(resolved(3), t, unit), f, unit);
abbrev throw_of_a_then_handler_script : Program
throw_of_a_then_handler_script =
    record {
      items =
          (FnItem (named "t") ((named "v") ∷ []) (with_stmt (ThrowStmt (Name (named "v"))) no_stmts)) ∷
          (FnItem (named "f") ((named "v") ∷ []) (with_stmt (ExprStmt (Call (named "log") (with_expr (TextLiteral (codes "no")) no_exprs))) no_stmts)) ∷
          (StmtItem (ExprStmt (Call (named "then") (with_expr (Call (named "then") (with_expr (Call (named "resolved") (with_expr (Number (pos 3)) no_exprs)) (with_expr (Name (named "t")) (with_expr UnitLiteral no_exprs)))) (with_expr (Name (named "f")) (with_expr UnitLiteral no_exprs)))))) ∷
          [];
      names = codes "t" ∷ codes "f" ∷ [];
    }

abbrev throw_of_a_then_handler_setup : Setup
throw_of_a_then_handler_setup =
    record { form = 1; trace = 1; policy = (Rank default_list); fuel = 1000000; until = 10000000; refresh = 60; late = []; latencies = []; arrivals = [] }

throw_of_a_then_handler : page_trace throw_of_a_then_handler_script throw_of_a_then_handler_setup four_hosts ([]) ≡ rows (
    codes "trace 1" ∷
    codes "0 turn 1 dom" ∷
    codes "0 call 1" ∷
    codes "0 settle 1 ok 3" ∷
    codes "0 reg 2 then" ∷
    codes "0 job 1 react 1" ∷
    codes "0 reg 3 then" ∷
    codes "0 ret" ∷
    codes "0 run 1" ∷
    codes "0 call 2" ∷
    codes "0 throw 3" ∷
    codes "0 settle 2 err 3" ∷
    codes "0 job 2 react 2" ∷
    codes "0 run 2" ∷
    codes "0 settle 3 err 3" ∷
    codes "0 turn 2 dom" ∷
    codes "0 unhandled 3" ∷
    codes "0 end done" ∷
    [])
unfolding page_trace run run_by
throw_of_a_then_handler = refl
