-- Worked examples, computed: promises over several tasks, further ones.
use Rattle.std.specs.Prelude.{◌≡◌, [], ◌∷◌, Some, pos, codes, refl}
use Rattle.page_types.specs.Values.{IntValue}
use Rattle.page_types.specs.declared.CompareSign.TheVariants.{Equals}
use Rattle.page_types.specs.declared.Source.TheVariants.{Dom}
use Rattle.page_types.specs.Tree.{Compare, Number, TextLiteral, UnitLiteral, Name, Call, no_exprs, with_expr, VarStmt, ExprStmt, IfStmt, ReturnStmt, TryStmt, no_stmts, with_stmt, no_else_ifs, no_else, FnItem, StmtItem, Program}
use Rattle.page_parts.specs.Setup.{Setup, Rank}
use Rattle.page_parts.specs.Sources.{default_list}
use Rattle.page_model.specs.Turns.{run, run_by}
use Rattle.page_model.specs.PageTrace.{page_trace}
use Rattle.page_model.proofs.Examples.Sample.{named, four_hosts, rows}

-- A handler answers a promise that a later task rejects: the derived promise adopts it, and the reason passes to the handler of the derived one. Each
-- promise on the way has a handler, so nothing is notified about.
--     var p = promise();
--     fn h(v) { return p; }
--     fn f(v) { log(v); }
--     fn k() { reject(p, "no"); }
--     then(then(resolved(1), h, unit), unit, f);
--     setTimeout(k, 0);
abbrev handler_answers_a_promise_script : Program
handler_answers_a_promise_script =
    record {
      items =
          (StmtItem (VarStmt (named "p") (Call (named "promise") no_exprs))) ∷
          (FnItem (named "h") ((named "v") ∷ []) (with_stmt (ReturnStmt (Some (Name (named "p")))) no_stmts)) ∷
          (FnItem (named "f") ((named "v") ∷ []) (with_stmt (ExprStmt (Call (named "log") (with_expr (Name (named "v")) no_exprs))) no_stmts)) ∷
          (FnItem (named "k") ([]) (with_stmt (ExprStmt (Call (named "reject") (with_expr (Name (named "p")) (with_expr (TextLiteral (codes "no")) no_exprs)))) no_stmts)) ∷
          (StmtItem (ExprStmt (Call (named "then") (with_expr (Call (named "then") (with_expr (Call (named "resolved") (with_expr (Number (pos 1)) no_exprs)) (with_expr (Name (named "h")) (with_expr UnitLiteral no_exprs)))) (with_expr UnitLiteral (with_expr (Name (named "f")) no_exprs)))))) ∷
          (StmtItem (ExprStmt (Call (named "setTimeout") (with_expr (Name (named "k")) (with_expr (Number (pos 0)) no_exprs))))) ∷
          [];
      names = codes "h" ∷ codes "f" ∷ codes "k" ∷ [];
    }

abbrev handler_answers_a_promise_setup : Setup
handler_answers_a_promise_setup =
    record { form = 1; trace = 1; policy = (Rank default_list); fuel = 1000000; until = 10000000; refresh = 60; late = []; latencies = []; arrivals = [] }

handler_answers_a_promise : page_trace handler_answers_a_promise_script handler_answers_a_promise_setup four_hosts ([]) ≡ rows (
    codes "trace 1" ∷
    codes "0 turn 1 dom" ∷
    codes "0 call 1" ∷
    codes "0 settle 2 ok 1" ∷
    codes "0 reg 2 then" ∷
    codes "0 job 1 react 2" ∷
    codes "0 reg 3 then" ∷
    codes "0 reg 4 timeout" ∷
    codes "0 arm 4 0 1" ∷
    codes "0 ret" ∷
    codes "0 run 1" ∷
    codes "0 call 2" ∷
    codes "0 ret" ∷
    codes "0 job 2 adopt 3" ∷
    codes "0 run 2" ∷
    codes "0 due 4" ∷
    codes "0 turn 2 timer" ∷
    codes "0 call 4" ∷
    codes "0 settle 1 err \"no\"" ∷
    codes "0 job 3 react 1" ∷
    codes "0 ret" ∷
    codes "0 run 3" ∷
    codes "0 settle 3 err \"no\"" ∷
    codes "0 job 4 react 3" ∷
    codes "0 run 4" ∷
    codes "0 call 3" ∷
    codes "0 log \"no\"" ∷
    codes "0 ret" ∷
    codes "0 settle 4 ok unit" ∷
    codes "0 end done" ∷
    [])
unfolding page_trace run run_by
handler_answers_a_promise = refl

-- A reaction made in a background task runs in a timer's task, and yields with the background priority in which it was made: the user-visible task goes
-- first.
--     var p = promise();
--     fn y(v) { log("y"); }
--     fn r(v) { then(yieldTask(), y, unit); }
--     fn a() { then(p, r, unit); }
--     fn b() { log("b"); }
--     fn t() { postTask(b, unit, unit, 0); resolve(p, 1); }
--     postTask(a, "background", unit, 0);
--     setTimeout(t, 1);
abbrev reaction_keeps_the_state_of_its_making_script : Program
reaction_keeps_the_state_of_its_making_script =
    record {
      items =
          (StmtItem (VarStmt (named "p") (Call (named "promise") no_exprs))) ∷
          (FnItem (named "y") ((named "v") ∷ []) (with_stmt (ExprStmt (Call (named "log") (with_expr (TextLiteral (codes "y")) no_exprs))) no_stmts)) ∷
          (FnItem (named "r") ((named "v") ∷ []) (with_stmt (ExprStmt (Call (named "then") (with_expr (Call (named "yieldTask") no_exprs) (with_expr (Name (named "y")) (with_expr UnitLiteral no_exprs))))) no_stmts)) ∷
          (FnItem (named "a") ([]) (with_stmt (ExprStmt (Call (named "then") (with_expr (Name (named "p")) (with_expr (Name (named "r")) (with_expr UnitLiteral no_exprs))))) no_stmts)) ∷
          (FnItem (named "b") ([]) (with_stmt (ExprStmt (Call (named "log") (with_expr (TextLiteral (codes "b")) no_exprs))) no_stmts)) ∷
          (FnItem (named "t") ([]) (with_stmt (ExprStmt (Call (named "postTask") (with_expr (Name (named "b")) (with_expr UnitLiteral (with_expr UnitLiteral (with_expr (Number (pos 0)) no_exprs)))))) (with_stmt (ExprStmt (Call (named "resolve") (with_expr (Name (named "p")) (with_expr (Number (pos 1)) no_exprs)))) no_stmts))) ∷
          (StmtItem (ExprStmt (Call (named "postTask") (with_expr (Name (named "a")) (with_expr (TextLiteral (codes "background")) (with_expr UnitLiteral (with_expr (Number (pos 0)) no_exprs))))))) ∷
          (StmtItem (ExprStmt (Call (named "setTimeout") (with_expr (Name (named "t")) (with_expr (Number (pos 1)) no_exprs))))) ∷
          [];
      names = codes "y" ∷ codes "r" ∷ codes "a" ∷ codes "b" ∷ codes "t" ∷ [];
    }

abbrev reaction_keeps_the_state_of_its_making_setup : Setup
reaction_keeps_the_state_of_its_making_setup =
    record { form = 1; trace = 1; policy = (Rank default_list); fuel = 1000000; until = 10000000; refresh = 60; late = []; latencies = []; arrivals = [] }

reaction_keeps_the_state_of_its_making : page_trace reaction_keeps_the_state_of_its_making_script reaction_keeps_the_state_of_its_making_setup four_hosts ([]) ≡ rows (
    codes "trace 1" ∷
    codes "0 turn 1 dom" ∷
    codes "0 call 1" ∷
    codes "0 reg 2 post" ∷
    codes "0 enq 2 background task 2" ∷
    codes "0 reg 3 timeout" ∷
    codes "0 arm 3 1000 1" ∷
    codes "0 ret" ∷
    codes "0 turn 2 sched" ∷
    codes "0 call 2" ∷
    codes "0 reg 4 then" ∷
    codes "0 ret" ∷
    codes "0 settle 2 ok unit" ∷
    codes "1000 wait 1000" ∷
    codes "1000 due 3" ∷
    codes "1000 turn 3 timer" ∷
    codes "1000 call 3" ∷
    codes "1000 reg 5 post" ∷
    codes "1000 enq 5 user-visible task 4" ∷
    codes "1000 settle 1 ok 1" ∷
    codes "1000 job 1 react 1" ∷
    codes "1000 ret" ∷
    codes "1000 run 1" ∷
    codes "1000 call 4" ∷
    codes "1000 reg 6 yield" ∷
    codes "1000 enq 6 background cont 5" ∷
    codes "1000 reg 7 then" ∷
    codes "1000 ret" ∷
    codes "1000 settle 3 ok unit" ∷
    codes "1000 turn 4 sched" ∷
    codes "1000 call 5" ∷
    codes "1000 log \"b\"" ∷
    codes "1000 ret" ∷
    codes "1000 settle 4 ok unit" ∷
    codes "1000 turn 5 sched" ∷
    codes "1000 call 6" ∷
    codes "1000 settle 5 ok unit" ∷
    codes "1000 job 2 react 5" ∷
    codes "1000 ret" ∷
    codes "1000 run 2" ∷
    codes "1000 call 7" ∷
    codes "1000 log \"y\"" ∷
    codes "1000 ret" ∷
    codes "1000 settle 6 ok unit" ∷
    codes "1000 end done" ∷
    [])
unfolding page_trace run run_by
reaction_keeps_the_state_of_its_making = refl

-- An argument of a wrong kind rejects the promise of postTask and of host, with no registration, and is thrown by setTimeout.
--     fn g(r) { log(r); }
--     then(postTask(1, unit, unit, 0), unit, g);
--     then(host(0, unit, unit), unit, g);
--     try { setTimeout(1, 0); } catch (e) { log(e); }
abbrev faults_as_rejected_promises_script : Program
faults_as_rejected_promises_script =
    record {
      items =
          (FnItem (named "g") ((named "r") ∷ []) (with_stmt (ExprStmt (Call (named "log") (with_expr (Name (named "r")) no_exprs))) no_stmts)) ∷
          (StmtItem (ExprStmt (Call (named "then") (with_expr (Call (named "postTask") (with_expr (Number (pos 1)) (with_expr UnitLiteral (with_expr UnitLiteral (with_expr (Number (pos 0)) no_exprs))))) (with_expr UnitLiteral (with_expr (Name (named "g")) no_exprs)))))) ∷
          (StmtItem (ExprStmt (Call (named "then") (with_expr (Call (named "host") (with_expr (Number (pos 0)) (with_expr UnitLiteral (with_expr UnitLiteral no_exprs)))) (with_expr UnitLiteral (with_expr (Name (named "g")) no_exprs)))))) ∷
          (StmtItem (TryStmt (with_stmt (ExprStmt (Call (named "setTimeout") (with_expr (Number (pos 1)) (with_expr (Number (pos 0)) no_exprs)))) no_stmts) (named "e") (with_stmt (ExprStmt (Call (named "log") (with_expr (Name (named "e")) no_exprs))) no_stmts))) ∷
          [];
      names = codes "g" ∷ [];
    }

abbrev faults_as_rejected_promises_setup : Setup
faults_as_rejected_promises_setup =
    record { form = 1; trace = 1; policy = (Rank default_list); fuel = 1000000; until = 10000000; refresh = 60; late = []; latencies = []; arrivals = [] }

faults_as_rejected_promises : page_trace faults_as_rejected_promises_script faults_as_rejected_promises_setup four_hosts ([]) ≡ rows (
    codes "trace 1" ∷
    codes "0 turn 1 dom" ∷
    codes "0 call 1" ∷
    codes "0 settle 1 err TypeError(\"\")" ∷
    codes "0 reg 2 then" ∷
    codes "0 job 1 react 1" ∷
    codes "0 settle 3 err TypeError(\"\")" ∷
    codes "0 reg 3 then" ∷
    codes "0 job 2 react 3" ∷
    codes "0 log TypeError(\"\")" ∷
    codes "0 ret" ∷
    codes "0 run 1" ∷
    codes "0 call 2" ∷
    codes "0 log TypeError(\"\")" ∷
    codes "0 ret" ∷
    codes "0 settle 2 ok unit" ∷
    codes "0 run 2" ∷
    codes "0 call 3" ∷
    codes "0 log TypeError(\"\")" ∷
    codes "0 ret" ∷
    codes "0 settle 4 ok unit" ∷
    codes "0 end done" ∷
    [])
unfolding page_trace run run_by
faults_as_rejected_promises = refl

-- The listener of a rejection makes another rejected promise. The checkpoint after the listener queues a task for it.
--     fn u(p, r) { log(r); if (r == 1) { rejected(2); } }
--     listen(unit, "unhandledrejection", u);
--     rejected(1);
abbrev rejection_made_by_the_listener_of_another_script : Program
rejection_made_by_the_listener_of_another_script =
    record {
      items =
          (FnItem (named "u") ((named "p") ∷ (named "r") ∷ []) (with_stmt (ExprStmt (Call (named "log") (with_expr (Name (named "r")) no_exprs))) (with_stmt (IfStmt (Compare (Name (named "r")) Equals (Number (pos 1))) (with_stmt (ExprStmt (Call (named "rejected") (with_expr (Number (pos 2)) no_exprs))) no_stmts) no_else_ifs no_else) no_stmts))) ∷
          (StmtItem (ExprStmt (Call (named "listen") (with_expr UnitLiteral (with_expr (TextLiteral (codes "unhandledrejection")) (with_expr (Name (named "u")) no_exprs)))))) ∷
          (StmtItem (ExprStmt (Call (named "rejected") (with_expr (Number (pos 1)) no_exprs)))) ∷
          [];
      names = codes "u" ∷ [];
    }

abbrev rejection_made_by_the_listener_of_another_setup : Setup
rejection_made_by_the_listener_of_another_setup =
    record { form = 1; trace = 1; policy = (Rank default_list); fuel = 1000000; until = 10000000; refresh = 60; late = []; latencies = []; arrivals = [] }

rejection_made_by_the_listener_of_another : page_trace rejection_made_by_the_listener_of_another_script rejection_made_by_the_listener_of_another_setup four_hosts ([]) ≡ rows (
    codes "trace 1" ∷
    codes "0 turn 1 dom" ∷
    codes "0 call 1" ∷
    codes "0 reg 2 listener" ∷
    codes "0 settle 1 err 1" ∷
    codes "0 ret" ∷
    codes "0 turn 2 dom" ∷
    codes "0 unhandled 1" ∷
    codes "0 call 2" ∷
    codes "0 log 1" ∷
    codes "0 settle 2 err 2" ∷
    codes "0 ret" ∷
    codes "0 turn 3 dom" ∷
    codes "0 unhandled 2" ∷
    codes "0 call 2" ∷
    codes "0 log 2" ∷
    codes "0 ret" ∷
    codes "0 end done" ∷
    [])
unfolding page_trace run run_by
rejection_made_by_the_listener_of_another = refl

-- A settled promise queues a job for each reaction in the order of the handlers; one added later queues its own behind them, and one added by a handler
-- behind all.
--     var p = promise();
--     fn a(v) { log("a"); then(p, d, unit); }
--     fn b(v) { log("b"); }
--     fn d(v) { log("d"); }
--     then(p, a, unit);
--     then(p, b, unit);
--     resolve(p, 1);
--     then(p, b, unit);
abbrev reactions_in_order_script : Program
reactions_in_order_script =
    record {
      items =
          (StmtItem (VarStmt (named "p") (Call (named "promise") no_exprs))) ∷
          (FnItem (named "a") ((named "v") ∷ []) (with_stmt (ExprStmt (Call (named "log") (with_expr (TextLiteral (codes "a")) no_exprs))) (with_stmt (ExprStmt (Call (named "then") (with_expr (Name (named "p")) (with_expr (Name (named "d")) (with_expr UnitLiteral no_exprs))))) no_stmts))) ∷
          (FnItem (named "b") ((named "v") ∷ []) (with_stmt (ExprStmt (Call (named "log") (with_expr (TextLiteral (codes "b")) no_exprs))) no_stmts)) ∷
          (FnItem (named "d") ((named "v") ∷ []) (with_stmt (ExprStmt (Call (named "log") (with_expr (TextLiteral (codes "d")) no_exprs))) no_stmts)) ∷
          (StmtItem (ExprStmt (Call (named "then") (with_expr (Name (named "p")) (with_expr (Name (named "a")) (with_expr UnitLiteral no_exprs)))))) ∷
          (StmtItem (ExprStmt (Call (named "then") (with_expr (Name (named "p")) (with_expr (Name (named "b")) (with_expr UnitLiteral no_exprs)))))) ∷
          (StmtItem (ExprStmt (Call (named "resolve") (with_expr (Name (named "p")) (with_expr (Number (pos 1)) no_exprs))))) ∷
          (StmtItem (ExprStmt (Call (named "then") (with_expr (Name (named "p")) (with_expr (Name (named "b")) (with_expr UnitLiteral no_exprs)))))) ∷
          [];
      names = codes "a" ∷ codes "b" ∷ codes "d" ∷ [];
    }

abbrev reactions_in_order_setup : Setup
reactions_in_order_setup =
    record { form = 1; trace = 1; policy = (Rank default_list); fuel = 1000000; until = 10000000; refresh = 60; late = []; latencies = []; arrivals = [] }

reactions_in_order : page_trace reactions_in_order_script reactions_in_order_setup four_hosts ([]) ≡ rows (
    codes "trace 1" ∷
    codes "0 turn 1 dom" ∷
    codes "0 call 1" ∷
    codes "0 reg 2 then" ∷
    codes "0 reg 3 then" ∷
    codes "0 settle 1 ok 1" ∷
    codes "0 job 1 react 1" ∷
    codes "0 job 2 react 1" ∷
    codes "0 reg 4 then" ∷
    codes "0 job 3 react 1" ∷
    codes "0 ret" ∷
    codes "0 run 1" ∷
    codes "0 call 2" ∷
    codes "0 log \"a\"" ∷
    codes "0 reg 5 then" ∷
    codes "0 job 4 react 1" ∷
    codes "0 ret" ∷
    codes "0 settle 2 ok unit" ∷
    codes "0 run 2" ∷
    codes "0 call 3" ∷
    codes "0 log \"b\"" ∷
    codes "0 ret" ∷
    codes "0 settle 3 ok unit" ∷
    codes "0 run 3" ∷
    codes "0 call 4" ∷
    codes "0 log \"b\"" ∷
    codes "0 ret" ∷
    codes "0 settle 4 ok unit" ∷
    codes "0 run 4" ∷
    codes "0 call 5" ∷
    codes "0 log \"d\"" ∷
    codes "0 ret" ∷
    codes "0 settle 5 ok unit" ∷
    codes "0 end done" ∷
    [])
unfolding page_trace run run_by
reactions_in_order = refl

-- Two promises that are resolved with one another wait for ever: their jobs subscribe, and nothing is pending.
--     var p = promise();
--     var q = promise();
--     resolve(p, q);
--     resolve(q, p);
abbrev promises_that_adopt_each_other_script : Program
promises_that_adopt_each_other_script =
    record {
      items =
          (StmtItem (VarStmt (named "p") (Call (named "promise") no_exprs))) ∷
          (StmtItem (VarStmt (named "q") (Call (named "promise") no_exprs))) ∷
          (StmtItem (ExprStmt (Call (named "resolve") (with_expr (Name (named "p")) (with_expr (Name (named "q")) no_exprs))))) ∷
          (StmtItem (ExprStmt (Call (named "resolve") (with_expr (Name (named "q")) (with_expr (Name (named "p")) no_exprs))))) ∷
          [];
      names = [];
    }

abbrev promises_that_adopt_each_other_setup : Setup
promises_that_adopt_each_other_setup =
    record { form = 1; trace = 1; policy = (Rank default_list); fuel = 1000000; until = 10000000; refresh = 60; late = []; latencies = []; arrivals = [] }

promises_that_adopt_each_other : page_trace promises_that_adopt_each_other_script promises_that_adopt_each_other_setup four_hosts ([]) ≡ rows (
    codes "trace 1" ∷
    codes "0 turn 1 dom" ∷
    codes "0 call 1" ∷
    codes "0 job 1 adopt 1" ∷
    codes "0 job 2 adopt 2" ∷
    codes "0 ret" ∷
    codes "0 run 1" ∷
    codes "0 run 2" ∷
    codes "0 end done" ∷
    [])
unfolding page_trace run run_by
promises_that_adopt_each_other = refl

-- An arrival on the dom source has the name of the rejection event: the listener hears both, in the order of the tasks. The arrival brings one value, so
-- the listener's second parameter is unit, and it writes no line of a rejection.
--     fn u(p, r) { log(p); log(r); }
--     listen(unit, "unhandledrejection", u);
--     rejected(4);
abbrev arrival_named_as_a_rejection_script : Program
arrival_named_as_a_rejection_script =
    record {
      items =
          (FnItem (named "u") ((named "p") ∷ (named "r") ∷ []) (with_stmt (ExprStmt (Call (named "log") (with_expr (Name (named "p")) no_exprs))) (with_stmt (ExprStmt (Call (named "log") (with_expr (Name (named "r")) no_exprs))) no_stmts))) ∷
          (StmtItem (ExprStmt (Call (named "listen") (with_expr UnitLiteral (with_expr (TextLiteral (codes "unhandledrejection")) (with_expr (Name (named "u")) no_exprs)))))) ∷
          (StmtItem (ExprStmt (Call (named "rejected") (with_expr (Number (pos 4)) no_exprs)))) ∷
          [];
      names = codes "u" ∷ [];
    }

abbrev arrival_named_as_a_rejection_setup : Setup
arrival_named_as_a_rejection_setup =
    record { form = 1; trace = 1; policy = (Rank default_list); fuel = 1000000; until = 10000000; refresh = 60; late = []; latencies = []; arrivals = record { at = 0; source = Dom; name = codes "unhandledrejection"; value = (IntValue (pos 9)) } ∷ [] }

arrival_named_as_a_rejection : page_trace arrival_named_as_a_rejection_script arrival_named_as_a_rejection_setup four_hosts ([]) ≡ rows (
    codes "trace 1" ∷
    codes "0 turn 1 dom" ∷
    codes "0 call 1" ∷
    codes "0 reg 2 listener" ∷
    codes "0 settle 1 err 4" ∷
    codes "0 ret" ∷
    codes "0 turn 2 dom" ∷
    codes "0 unhandled 1" ∷
    codes "0 call 2" ∷
    codes "0 log promise#1" ∷
    codes "0 log 4" ∷
    codes "0 ret" ∷
    codes "0 turn 3 dom" ∷
    codes "0 call 2" ∷
    codes "0 log 9" ∷
    codes "0 log unit" ∷
    codes "0 ret" ∷
    codes "0 end done" ∷
    [])
unfolding page_trace run run_by
arrival_named_as_a_rejection = refl
