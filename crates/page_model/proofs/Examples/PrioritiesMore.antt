-- Worked examples, computed: priorities, followers and continuations, further ones.
use Rattle.std.specs.Prelude.{◌≡◌, [], ◌∷◌, Some, pos, codes, refl}
use Rattle.page_types.specs.Values.{IntValue}
use Rattle.page_types.specs.declared.Source.TheVariants.{User}
use Rattle.page_types.specs.Tree.{Number, TextLiteral, UnitLiteral, Name, Call, no_exprs, with_expr, VarStmt, ExprStmt, ReturnStmt, no_stmts, with_stmt, FnItem, StmtItem, Program}
use Rattle.page_parts.specs.Setup.{Setup, Fifo, Rank, Fair}
use Rattle.page_parts.specs.Sources.{default_list}
use Rattle.page_model.specs.Turns.{run, run_by}
use Rattle.page_model.specs.PageTrace.{page_trace}
use Rattle.page_model.proofs.Examples.Sample.{named, four_hosts, logs_of, rows}

-- The callback has returned, and a microtask of its checkpoint aborts the signal: the promise is not settled yet and is rejected, and the value of the
-- callback is ignored. Nothing is dropped, as the task had begun.
--     fn m() { abort(c, "late"); }
--     fn a() { queueMicrotask(m); return 5; }
--     fn g(v) { log(v); }
--     var c = controller();
--     then(postTask(a, unit, signal(c), 0), g, g);
abbrev abort_in_the_checkpoint_of_a_posted_callback_script : Program
abort_in_the_checkpoint_of_a_posted_callback_script =
    record {
      items =
          (FnItem (named "m") ([]) (with_stmt (ExprStmt (Call (named "abort") (with_expr (Name (named "c")) (with_expr (TextLiteral (codes "late")) no_exprs)))) no_stmts)) ∷
          (FnItem (named "a") ([]) (with_stmt (ExprStmt (Call (named "queueMicrotask") (with_expr (Name (named "m")) no_exprs))) (with_stmt (ReturnStmt (Some (Number (pos 5)))) no_stmts))) ∷
          (FnItem (named "g") ((named "v") ∷ []) (with_stmt (ExprStmt (Call (named "log") (with_expr (Name (named "v")) no_exprs))) no_stmts)) ∷
          (StmtItem (VarStmt (named "c") (Call (named "controller") no_exprs))) ∷
          (StmtItem (ExprStmt (Call (named "then") (with_expr (Call (named "postTask") (with_expr (Name (named "a")) (with_expr UnitLiteral (with_expr (Call (named "signal") (with_expr (Name (named "c")) no_exprs)) (with_expr (Number (pos 0)) no_exprs))))) (with_expr (Name (named "g")) (with_expr (Name (named "g")) no_exprs)))))) ∷
          [];
      names = codes "m" ∷ codes "a" ∷ codes "g" ∷ [];
    }

abbrev abort_in_the_checkpoint_of_a_posted_callback_setup : Setup
abort_in_the_checkpoint_of_a_posted_callback_setup =
    record { form = 1; trace = 1; policy = (Rank default_list); fuel = 1000000; until = 10000000; refresh = 60; late = []; latencies = []; arrivals = [] }

abort_in_the_checkpoint_of_a_posted_callback : page_trace abort_in_the_checkpoint_of_a_posted_callback_script abort_in_the_checkpoint_of_a_posted_callback_setup four_hosts ([]) ≡ rows (
    codes "trace 1" ∷
    codes "0 turn 1 dom" ∷
    codes "0 call 1" ∷
    codes "0 reg 2 post" ∷
    codes "0 enq 2 user-visible task 2" ∷
    codes "0 reg 3 then" ∷
    codes "0 ret" ∷
    codes "0 turn 2 sched" ∷
    codes "0 call 2" ∷
    codes "0 reg 4 micro" ∷
    codes "0 job 1 micro 4" ∷
    codes "0 ret" ∷
    codes "0 run 1" ∷
    codes "0 call 4" ∷
    codes "0 abort 1" ∷
    codes "0 settle 1 err \"late\"" ∷
    codes "0 job 2 react 1" ∷
    codes "0 ret" ∷
    codes "0 run 2" ∷
    codes "0 call 3" ∷
    codes "0 log \"late\"" ∷
    codes "0 ret" ∷
    codes "0 settle 2 ok unit" ∷
    codes "0 end done" ∷
    [])
unfolding page_trace run run_by
abort_in_the_checkpoint_of_a_posted_callback = refl

-- By the default list the scheduler's tasks go before the timer.
--     fn t() { log("t"); }
--     fn a() { log("a"); }
--     setTimeout(t, 0);
--     postTask(a, unit, unit, 0);
--     postTask(a, unit, unit, 0);
--     postTask(a, unit, unit, 0);
abbrev sched_by_rank_and_timer_by_fairness_1_script : Program
sched_by_rank_and_timer_by_fairness_1_script =
    record {
      items =
          (FnItem (named "t") ([]) (with_stmt (ExprStmt (Call (named "log") (with_expr (TextLiteral (codes "t")) no_exprs))) no_stmts)) ∷
          (FnItem (named "a") ([]) (with_stmt (ExprStmt (Call (named "log") (with_expr (TextLiteral (codes "a")) no_exprs))) no_stmts)) ∷
          (StmtItem (ExprStmt (Call (named "setTimeout") (with_expr (Name (named "t")) (with_expr (Number (pos 0)) no_exprs))))) ∷
          (StmtItem (ExprStmt (Call (named "postTask") (with_expr (Name (named "a")) (with_expr UnitLiteral (with_expr UnitLiteral (with_expr (Number (pos 0)) no_exprs))))))) ∷
          (StmtItem (ExprStmt (Call (named "postTask") (with_expr (Name (named "a")) (with_expr UnitLiteral (with_expr UnitLiteral (with_expr (Number (pos 0)) no_exprs))))))) ∷
          (StmtItem (ExprStmt (Call (named "postTask") (with_expr (Name (named "a")) (with_expr UnitLiteral (with_expr UnitLiteral (with_expr (Number (pos 0)) no_exprs))))))) ∷
          [];
      names = codes "t" ∷ codes "a" ∷ [];
    }

abbrev sched_by_rank_and_timer_by_fairness_1_setup : Setup
sched_by_rank_and_timer_by_fairness_1_setup =
    record { form = 1; trace = 1; policy = (Rank default_list); fuel = 1000000; until = 10000000; refresh = 60; late = []; latencies = []; arrivals = [] }

sched_by_rank_and_timer_by_fairness_1 : logs_of (page_trace sched_by_rank_and_timer_by_fairness_1_script sched_by_rank_and_timer_by_fairness_1_setup four_hosts ([])) ≡ rows (
    codes "0 \"a\"" ∷
    codes "0 \"a\"" ∷
    codes "0 \"a\"" ∷
    codes "0 \"t\"" ∷
    [])
unfolding page_trace run run_by
sched_by_rank_and_timer_by_fairness_1 = refl

-- The same script under a fair policy of 2: the timer was passed over twice, so it goes third.
--     fn t() { log("t"); }
--     fn a() { log("a"); }
--     setTimeout(t, 0);
--     postTask(a, unit, unit, 0);
--     postTask(a, unit, unit, 0);
--     postTask(a, unit, unit, 0);
abbrev sched_by_rank_and_timer_by_fairness_2_script : Program
sched_by_rank_and_timer_by_fairness_2_script =
    record {
      items =
          (FnItem (named "t") ([]) (with_stmt (ExprStmt (Call (named "log") (with_expr (TextLiteral (codes "t")) no_exprs))) no_stmts)) ∷
          (FnItem (named "a") ([]) (with_stmt (ExprStmt (Call (named "log") (with_expr (TextLiteral (codes "a")) no_exprs))) no_stmts)) ∷
          (StmtItem (ExprStmt (Call (named "setTimeout") (with_expr (Name (named "t")) (with_expr (Number (pos 0)) no_exprs))))) ∷
          (StmtItem (ExprStmt (Call (named "postTask") (with_expr (Name (named "a")) (with_expr UnitLiteral (with_expr UnitLiteral (with_expr (Number (pos 0)) no_exprs))))))) ∷
          (StmtItem (ExprStmt (Call (named "postTask") (with_expr (Name (named "a")) (with_expr UnitLiteral (with_expr UnitLiteral (with_expr (Number (pos 0)) no_exprs))))))) ∷
          (StmtItem (ExprStmt (Call (named "postTask") (with_expr (Name (named "a")) (with_expr UnitLiteral (with_expr UnitLiteral (with_expr (Number (pos 0)) no_exprs))))))) ∷
          [];
      names = codes "t" ∷ codes "a" ∷ [];
    }

abbrev sched_by_rank_and_timer_by_fairness_2_setup : Setup
sched_by_rank_and_timer_by_fairness_2_setup =
    record { form = 1; trace = 1; policy = (Fair 2); fuel = 1000000; until = 10000000; refresh = 60; late = []; latencies = []; arrivals = [] }

sched_by_rank_and_timer_by_fairness_2 : page_trace sched_by_rank_and_timer_by_fairness_2_script sched_by_rank_and_timer_by_fairness_2_setup four_hosts ([]) ≡ rows (
    codes "trace 1" ∷
    codes "0 turn 1 dom" ∷
    codes "0 call 1" ∷
    codes "0 reg 2 timeout" ∷
    codes "0 arm 2 0 1" ∷
    codes "0 reg 3 post" ∷
    codes "0 enq 3 user-visible task 2" ∷
    codes "0 reg 4 post" ∷
    codes "0 enq 4 user-visible task 3" ∷
    codes "0 reg 5 post" ∷
    codes "0 enq 5 user-visible task 4" ∷
    codes "0 ret" ∷
    codes "0 due 2" ∷
    codes "0 turn 2 sched" ∷
    codes "0 call 3" ∷
    codes "0 log \"a\"" ∷
    codes "0 ret" ∷
    codes "0 settle 1 ok unit" ∷
    codes "0 turn 3 sched" ∷
    codes "0 call 4" ∷
    codes "0 log \"a\"" ∷
    codes "0 ret" ∷
    codes "0 settle 2 ok unit" ∷
    codes "0 turn 4 timer" ∷
    codes "0 call 2" ∷
    codes "0 log \"t\"" ∷
    codes "0 ret" ∷
    codes "0 turn 5 sched" ∷
    codes "0 call 5" ∷
    codes "0 log \"a\"" ∷
    codes "0 ret" ∷
    codes "0 settle 3 ok unit" ∷
    codes "0 end done" ∷
    [])
unfolding page_trace run run_by
sched_by_rank_and_timer_by_fairness_2 = refl

-- The first task of the scheduler is the one that is next, not the oldest: while a user-blocking task of number 4 waits, the background task of number 2
-- does not count, and the timer of number 3 is served.
--     fn t() { log("t"); }
--     fn b() { log("b"); }
--     fn u() { log("u"); }
--     postTask(b, "background", unit, 0);
--     setTimeout(t, 1);
--     postTask(u, "user-blocking", unit, 1);
--     busy(1000);
abbrev fifo_looks_at_the_scheduler_task_that_is_next_script : Program
fifo_looks_at_the_scheduler_task_that_is_next_script =
    record {
      items =
          (FnItem (named "t") ([]) (with_stmt (ExprStmt (Call (named "log") (with_expr (TextLiteral (codes "t")) no_exprs))) no_stmts)) ∷
          (FnItem (named "b") ([]) (with_stmt (ExprStmt (Call (named "log") (with_expr (TextLiteral (codes "b")) no_exprs))) no_stmts)) ∷
          (FnItem (named "u") ([]) (with_stmt (ExprStmt (Call (named "log") (with_expr (TextLiteral (codes "u")) no_exprs))) no_stmts)) ∷
          (StmtItem (ExprStmt (Call (named "postTask") (with_expr (Name (named "b")) (with_expr (TextLiteral (codes "background")) (with_expr UnitLiteral (with_expr (Number (pos 0)) no_exprs))))))) ∷
          (StmtItem (ExprStmt (Call (named "setTimeout") (with_expr (Name (named "t")) (with_expr (Number (pos 1)) no_exprs))))) ∷
          (StmtItem (ExprStmt (Call (named "postTask") (with_expr (Name (named "u")) (with_expr (TextLiteral (codes "user-blocking")) (with_expr UnitLiteral (with_expr (Number (pos 1)) no_exprs))))))) ∷
          (StmtItem (ExprStmt (Call (named "busy") (with_expr (Number (pos 1000)) no_exprs)))) ∷
          [];
      names = codes "t" ∷ codes "b" ∷ codes "u" ∷ [];
    }

abbrev fifo_looks_at_the_scheduler_task_that_is_next_setup : Setup
fifo_looks_at_the_scheduler_task_that_is_next_setup =
    record { form = 1; trace = 1; policy = Fifo; fuel = 1000000; until = 10000000; refresh = 60; late = []; latencies = []; arrivals = [] }

fifo_looks_at_the_scheduler_task_that_is_next : page_trace fifo_looks_at_the_scheduler_task_that_is_next_script fifo_looks_at_the_scheduler_task_that_is_next_setup four_hosts ([]) ≡ rows (
    codes "trace 1" ∷
    codes "0 turn 1 dom" ∷
    codes "0 call 1" ∷
    codes "0 reg 2 post" ∷
    codes "0 enq 2 background task 2" ∷
    codes "0 reg 3 timeout" ∷
    codes "0 arm 3 1000 1" ∷
    codes "0 reg 4 post" ∷
    codes "0 arm 4 1000 0" ∷
    codes "1000 ret" ∷
    codes "1000 due 3" ∷
    codes "1000 due 4" ∷
    codes "1000 enq 4 user-blocking task 4" ∷
    codes "1000 turn 2 timer" ∷
    codes "1000 call 3" ∷
    codes "1000 log \"t\"" ∷
    codes "1000 ret" ∷
    codes "1000 turn 3 sched" ∷
    codes "1000 call 4" ∷
    codes "1000 log \"u\"" ∷
    codes "1000 ret" ∷
    codes "1000 settle 2 ok unit" ∷
    codes "1000 turn 4 sched" ∷
    codes "1000 call 2" ∷
    codes "1000 log \"b\"" ∷
    codes "1000 ret" ∷
    codes "1000 settle 1 ok unit" ∷
    codes "1000 end done" ∷
    [])
unfolding page_trace run run_by
fifo_looks_at_the_scheduler_task_that_is_next = refl

-- A timer's callback has no scheduling state: its continuation is user-visible, behind the user-blocking task and before the user-visible one.
--     fn y(v) { log("y"); }
--     fn w() { log("w"); }
--     fn b() { log("b"); }
--     fn t() { postTask(b, "user-blocking", unit, 0); postTask(w, "user-visible", unit, 0); then(yieldTask(), y, unit); }
--     setTimeout(t, 0);
abbrev yield_in_a_timer_callback_script : Program
yield_in_a_timer_callback_script =
    record {
      items =
          (FnItem (named "y") ((named "v") ∷ []) (with_stmt (ExprStmt (Call (named "log") (with_expr (TextLiteral (codes "y")) no_exprs))) no_stmts)) ∷
          (FnItem (named "w") ([]) (with_stmt (ExprStmt (Call (named "log") (with_expr (TextLiteral (codes "w")) no_exprs))) no_stmts)) ∷
          (FnItem (named "b") ([]) (with_stmt (ExprStmt (Call (named "log") (with_expr (TextLiteral (codes "b")) no_exprs))) no_stmts)) ∷
          (FnItem (named "t") ([]) (with_stmt (ExprStmt (Call (named "postTask") (with_expr (Name (named "b")) (with_expr (TextLiteral (codes "user-blocking")) (with_expr UnitLiteral (with_expr (Number (pos 0)) no_exprs)))))) (with_stmt (ExprStmt (Call (named "postTask") (with_expr (Name (named "w")) (with_expr (TextLiteral (codes "user-visible")) (with_expr UnitLiteral (with_expr (Number (pos 0)) no_exprs)))))) (with_stmt (ExprStmt (Call (named "then") (with_expr (Call (named "yieldTask") no_exprs) (with_expr (Name (named "y")) (with_expr UnitLiteral no_exprs))))) no_stmts)))) ∷
          (StmtItem (ExprStmt (Call (named "setTimeout") (with_expr (Name (named "t")) (with_expr (Number (pos 0)) no_exprs))))) ∷
          [];
      names = codes "y" ∷ codes "w" ∷ codes "b" ∷ codes "t" ∷ [];
    }

abbrev yield_in_a_timer_callback_setup : Setup
yield_in_a_timer_callback_setup =
    record { form = 1; trace = 1; policy = (Rank default_list); fuel = 1000000; until = 10000000; refresh = 60; late = []; latencies = []; arrivals = [] }

yield_in_a_timer_callback : page_trace yield_in_a_timer_callback_script yield_in_a_timer_callback_setup four_hosts ([]) ≡ rows (
    codes "trace 1" ∷
    codes "0 turn 1 dom" ∷
    codes "0 call 1" ∷
    codes "0 reg 2 timeout" ∷
    codes "0 arm 2 0 1" ∷
    codes "0 ret" ∷
    codes "0 due 2" ∷
    codes "0 turn 2 timer" ∷
    codes "0 call 2" ∷
    codes "0 reg 3 post" ∷
    codes "0 enq 3 user-blocking task 3" ∷
    codes "0 reg 4 post" ∷
    codes "0 enq 4 user-visible task 4" ∷
    codes "0 reg 5 yield" ∷
    codes "0 enq 5 user-visible cont 5" ∷
    codes "0 reg 6 then" ∷
    codes "0 ret" ∷
    codes "0 turn 3 sched" ∷
    codes "0 call 3" ∷
    codes "0 log \"b\"" ∷
    codes "0 ret" ∷
    codes "0 settle 1 ok unit" ∷
    codes "0 turn 4 sched" ∷
    codes "0 call 5" ∷
    codes "0 settle 3 ok unit" ∷
    codes "0 job 1 react 3" ∷
    codes "0 ret" ∷
    codes "0 run 1" ∷
    codes "0 call 6" ∷
    codes "0 log \"y\"" ∷
    codes "0 ret" ∷
    codes "0 settle 4 ok unit" ∷
    codes "0 turn 5 sched" ∷
    codes "0 call 4" ∷
    codes "0 log \"w\"" ∷
    codes "0 ret" ∷
    codes "0 settle 2 ok unit" ∷
    codes "0 end done" ∷
    [])
unfolding page_trace run run_by
yield_in_a_timer_callback = refl

-- A fair policy of 1 over three sources with two tasks each: first the default list, then the greatest count, ties by the default list; each has its
-- second turn in the same order.
--     fn e(v) { log(v); }
--     fn t() { log("t"); }
--     fn a() { log("a"); }
--     listen(unit, "e", e);
--     setTimeout(t, 0);
--     setTimeout(t, 0);
--     postTask(a, unit, unit, 0);
--     postTask(a, unit, unit, 0);
abbrev fair_takes_the_greatest_count_script : Program
fair_takes_the_greatest_count_script =
    record {
      items =
          (FnItem (named "e") ((named "v") ∷ []) (with_stmt (ExprStmt (Call (named "log") (with_expr (Name (named "v")) no_exprs))) no_stmts)) ∷
          (FnItem (named "t") ([]) (with_stmt (ExprStmt (Call (named "log") (with_expr (TextLiteral (codes "t")) no_exprs))) no_stmts)) ∷
          (FnItem (named "a") ([]) (with_stmt (ExprStmt (Call (named "log") (with_expr (TextLiteral (codes "a")) no_exprs))) no_stmts)) ∷
          (StmtItem (ExprStmt (Call (named "listen") (with_expr UnitLiteral (with_expr (TextLiteral (codes "e")) (with_expr (Name (named "e")) no_exprs)))))) ∷
          (StmtItem (ExprStmt (Call (named "setTimeout") (with_expr (Name (named "t")) (with_expr (Number (pos 0)) no_exprs))))) ∷
          (StmtItem (ExprStmt (Call (named "setTimeout") (with_expr (Name (named "t")) (with_expr (Number (pos 0)) no_exprs))))) ∷
          (StmtItem (ExprStmt (Call (named "postTask") (with_expr (Name (named "a")) (with_expr UnitLiteral (with_expr UnitLiteral (with_expr (Number (pos 0)) no_exprs))))))) ∷
          (StmtItem (ExprStmt (Call (named "postTask") (with_expr (Name (named "a")) (with_expr UnitLiteral (with_expr UnitLiteral (with_expr (Number (pos 0)) no_exprs))))))) ∷
          [];
      names = codes "e" ∷ codes "t" ∷ codes "a" ∷ [];
    }

abbrev fair_takes_the_greatest_count_setup : Setup
fair_takes_the_greatest_count_setup =
    record { form = 1; trace = 1; policy = (Fair 1); fuel = 1000000; until = 10000000; refresh = 60; late = []; latencies = []; arrivals = record { at = 0; source = User; name = codes "e"; value = (IntValue (pos 1)) } ∷ record { at = 0; source = User; name = codes "e"; value = (IntValue (pos 2)) } ∷ [] }

fair_takes_the_greatest_count : logs_of (page_trace fair_takes_the_greatest_count_script fair_takes_the_greatest_count_setup four_hosts ([])) ≡ rows (
    codes "0 1" ∷
    codes "0 \"a\"" ∷
    codes "0 \"t\"" ∷
    codes "0 2" ∷
    codes "0 \"a\"" ∷
    codes "0 \"t\"" ∷
    [])
unfolding page_trace run run_by
fair_takes_the_greatest_count = refl

-- A delayed task, a host answer and a waiting task have one signal. Its abort rejects and drops them in the order in which they were asked for; one task
-- notifies about all three. The delay is waited for all the same.
--     fn a() { log("a"); }
--     var c = taskController("user-blocking");
--     var s = signal(c);
--     postTask(a, unit, s, 5);
--     host(0, 7, s);
--     postTask(a, unit, s, 0);
--     abort(c, 0);
abbrev abort_of_all_kinds_at_once_script : Program
abort_of_all_kinds_at_once_script =
    record {
      items =
          (FnItem (named "a") ([]) (with_stmt (ExprStmt (Call (named "log") (with_expr (TextLiteral (codes "a")) no_exprs))) no_stmts)) ∷
          (StmtItem (VarStmt (named "c") (Call (named "taskController") (with_expr (TextLiteral (codes "user-blocking")) no_exprs)))) ∷
          (StmtItem (VarStmt (named "s") (Call (named "signal") (with_expr (Name (named "c")) no_exprs)))) ∷
          (StmtItem (ExprStmt (Call (named "postTask") (with_expr (Name (named "a")) (with_expr UnitLiteral (with_expr (Name (named "s")) (with_expr (Number (pos 5)) no_exprs))))))) ∷
          (StmtItem (ExprStmt (Call (named "host") (with_expr (Number (pos 0)) (with_expr (Number (pos 7)) (with_expr (Name (named "s")) no_exprs)))))) ∷
          (StmtItem (ExprStmt (Call (named "postTask") (with_expr (Name (named "a")) (with_expr UnitLiteral (with_expr (Name (named "s")) (with_expr (Number (pos 0)) no_exprs))))))) ∷
          (StmtItem (ExprStmt (Call (named "abort") (with_expr (Name (named "c")) (with_expr (Number (pos 0)) no_exprs))))) ∷
          [];
      names = codes "a" ∷ [];
    }

abbrev abort_of_all_kinds_at_once_setup : Setup
abort_of_all_kinds_at_once_setup =
    record { form = 1; trace = 1; policy = (Rank default_list); fuel = 1000000; until = 10000000; refresh = 60; late = []; latencies = []; arrivals = [] }

abort_of_all_kinds_at_once : page_trace abort_of_all_kinds_at_once_script abort_of_all_kinds_at_once_setup four_hosts ([]) ≡ rows (
    codes "trace 1" ∷
    codes "0 turn 1 dom" ∷
    codes "0 call 1" ∷
    codes "0 prio 1 user-blocking" ∷
    codes "0 reg 2 post" ∷
    codes "0 arm 2 5000 0" ∷
    codes "0 reg 3 host" ∷
    codes "0 arm 3 0 0" ∷
    codes "0 reg 4 post" ∷
    codes "0 enq 4 s1 task 2" ∷
    codes "0 abort 1" ∷
    codes "0 settle 1 err 0" ∷
    codes "0 drop 2" ∷
    codes "0 settle 2 err 0" ∷
    codes "0 drop 3" ∷
    codes "0 settle 3 err 0" ∷
    codes "0 drop 4" ∷
    codes "0 ret" ∷
    codes "0 turn 2 dom" ∷
    codes "0 unhandled 1" ∷
    codes "0 unhandled 2" ∷
    codes "0 unhandled 3" ∷
    codes "5000 wait 5000" ∷
    codes "5000 due 2" ∷
    codes "5000 end done" ∷
    [])
unfolding page_trace run run_by
abort_of_all_kinds_at_once = refl

-- A listener that a background task's abort runs is part of that task: what it yields is a background continuation, behind the user-visible task that is
-- posted after it.
--     fn y(v) { log("y"); }
--     fn l(s) { then(yieldTask(), y, unit); }
--     fn w() { log("w"); }
--     fn a() { abort(d, unit); postTask(w, unit, unit, 0); }
--     var d = controller();
--     listen(signal(d), "abort", l);
--     postTask(a, "background", unit, 0);
abbrev yield_in_a_listener_inside_a_posted_task_script : Program
yield_in_a_listener_inside_a_posted_task_script =
    record {
      items =
          (FnItem (named "y") ((named "v") ∷ []) (with_stmt (ExprStmt (Call (named "log") (with_expr (TextLiteral (codes "y")) no_exprs))) no_stmts)) ∷
          (FnItem (named "l") ((named "s") ∷ []) (with_stmt (ExprStmt (Call (named "then") (with_expr (Call (named "yieldTask") no_exprs) (with_expr (Name (named "y")) (with_expr UnitLiteral no_exprs))))) no_stmts)) ∷
          (FnItem (named "w") ([]) (with_stmt (ExprStmt (Call (named "log") (with_expr (TextLiteral (codes "w")) no_exprs))) no_stmts)) ∷
          (FnItem (named "a") ([]) (with_stmt (ExprStmt (Call (named "abort") (with_expr (Name (named "d")) (with_expr UnitLiteral no_exprs)))) (with_stmt (ExprStmt (Call (named "postTask") (with_expr (Name (named "w")) (with_expr UnitLiteral (with_expr UnitLiteral (with_expr (Number (pos 0)) no_exprs)))))) no_stmts))) ∷
          (StmtItem (VarStmt (named "d") (Call (named "controller") no_exprs))) ∷
          (StmtItem (ExprStmt (Call (named "listen") (with_expr (Call (named "signal") (with_expr (Name (named "d")) no_exprs)) (with_expr (TextLiteral (codes "abort")) (with_expr (Name (named "l")) no_exprs)))))) ∷
          (StmtItem (ExprStmt (Call (named "postTask") (with_expr (Name (named "a")) (with_expr (TextLiteral (codes "background")) (with_expr UnitLiteral (with_expr (Number (pos 0)) no_exprs))))))) ∷
          [];
      names = codes "y" ∷ codes "l" ∷ codes "w" ∷ codes "a" ∷ [];
    }

abbrev yield_in_a_listener_inside_a_posted_task_setup : Setup
yield_in_a_listener_inside_a_posted_task_setup =
    record { form = 1; trace = 1; policy = (Rank default_list); fuel = 1000000; until = 10000000; refresh = 60; late = []; latencies = []; arrivals = [] }

yield_in_a_listener_inside_a_posted_task : page_trace yield_in_a_listener_inside_a_posted_task_script yield_in_a_listener_inside_a_posted_task_setup four_hosts ([]) ≡ rows (
    codes "trace 1" ∷
    codes "0 turn 1 dom" ∷
    codes "0 call 1" ∷
    codes "0 reg 2 listener" ∷
    codes "0 reg 3 post" ∷
    codes "0 enq 3 background task 2" ∷
    codes "0 ret" ∷
    codes "0 turn 2 sched" ∷
    codes "0 call 3" ∷
    codes "0 abort 1" ∷
    codes "0 call 2" ∷
    codes "0 reg 4 yield" ∷
    codes "0 enq 4 background cont 3" ∷
    codes "0 reg 5 then" ∷
    codes "0 ret" ∷
    codes "0 reg 6 post" ∷
    codes "0 enq 6 user-visible task 4" ∷
    codes "0 ret" ∷
    codes "0 settle 1 ok unit" ∷
    codes "0 turn 3 sched" ∷
    codes "0 call 6" ∷
    codes "0 log \"w\"" ∷
    codes "0 ret" ∷
    codes "0 settle 4 ok unit" ∷
    codes "0 turn 4 sched" ∷
    codes "0 call 4" ∷
    codes "0 settle 2 ok unit" ∷
    codes "0 job 1 react 2" ∷
    codes "0 ret" ∷
    codes "0 run 1" ∷
    codes "0 call 5" ∷
    codes "0 log \"y\"" ∷
    codes "0 ret" ∷
    codes "0 settle 3 ok unit" ∷
    codes "0 end done" ∷
    [])
unfolding page_trace run run_by
yield_in_a_listener_inside_a_posted_task = refl
