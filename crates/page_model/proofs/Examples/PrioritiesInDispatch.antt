-- Worked examples, computed: priorities, followers and continuations.
use Rattle.std.specs.Prelude.{◌≡◌, [], ◌∷◌, pos, codes, refl}
use Rattle.page_types.specs.Tree.{Number, TextLiteral, UnitLiteral, Name, Call, ListLiteral, no_exprs, with_expr, VarStmt, ExprStmt, TryStmt, no_stmts, with_stmt, FnItem, StmtItem, Program}
use Rattle.page_parts.specs.Setup.{Setup, Rank}
use Rattle.page_parts.specs.Sources.{default_list}
use Rattle.page_model.specs.Turns.{run, run_by}
use Rattle.page_model.specs.PageTrace.{page_trace}
use Rattle.page_model.proofs.Examples.Sample.{named, four_hosts, rows}

-- A listener of a priority change changes another signal's priority: all of that change happens inside the listener, and the tasks of both signals run
-- by the new priorities.
--     fn l(s, old) { log(old); setPriority(d, "background"); log("l"); }
--     fn k(s, old) { log(old); }
--     fn a() { log("a"); }
--     fn b() { log("b"); }
--     var c = taskController("background");
--     var d = taskController("user-blocking");
--     listen(signal(c), "prioritychange", l);
--     listen(signal(d), "prioritychange", k);
--     postTask(b, unit, signal(d), 0);
--     postTask(a, unit, signal(c), 0);
--     setPriority(c, "user-visible");
abbrev listener_changes_another_priority_script : Program
listener_changes_another_priority_script =
    record {
      items =
          (FnItem (named "l") ((named "s") ∷ (named "old") ∷ []) (with_stmt (ExprStmt (Call (named "log") (with_expr (Name (named "old")) no_exprs))) (with_stmt (ExprStmt (Call (named "setPriority") (with_expr (Name (named "d")) (with_expr (TextLiteral (codes "background")) no_exprs)))) (with_stmt (ExprStmt (Call (named "log") (with_expr (TextLiteral (codes "l")) no_exprs))) no_stmts)))) ∷
          (FnItem (named "k") ((named "s") ∷ (named "old") ∷ []) (with_stmt (ExprStmt (Call (named "log") (with_expr (Name (named "old")) no_exprs))) no_stmts)) ∷
          (FnItem (named "a") ([]) (with_stmt (ExprStmt (Call (named "log") (with_expr (TextLiteral (codes "a")) no_exprs))) no_stmts)) ∷
          (FnItem (named "b") ([]) (with_stmt (ExprStmt (Call (named "log") (with_expr (TextLiteral (codes "b")) no_exprs))) no_stmts)) ∷
          (StmtItem (VarStmt (named "c") (Call (named "taskController") (with_expr (TextLiteral (codes "background")) no_exprs)))) ∷
          (StmtItem (VarStmt (named "d") (Call (named "taskController") (with_expr (TextLiteral (codes "user-blocking")) no_exprs)))) ∷
          (StmtItem (ExprStmt (Call (named "listen") (with_expr (Call (named "signal") (with_expr (Name (named "c")) no_exprs)) (with_expr (TextLiteral (codes "prioritychange")) (with_expr (Name (named "l")) no_exprs)))))) ∷
          (StmtItem (ExprStmt (Call (named "listen") (with_expr (Call (named "signal") (with_expr (Name (named "d")) no_exprs)) (with_expr (TextLiteral (codes "prioritychange")) (with_expr (Name (named "k")) no_exprs)))))) ∷
          (StmtItem (ExprStmt (Call (named "postTask") (with_expr (Name (named "b")) (with_expr UnitLiteral (with_expr (Call (named "signal") (with_expr (Name (named "d")) no_exprs)) (with_expr (Number (pos 0)) no_exprs))))))) ∷
          (StmtItem (ExprStmt (Call (named "postTask") (with_expr (Name (named "a")) (with_expr UnitLiteral (with_expr (Call (named "signal") (with_expr (Name (named "c")) no_exprs)) (with_expr (Number (pos 0)) no_exprs))))))) ∷
          (StmtItem (ExprStmt (Call (named "setPriority") (with_expr (Name (named "c")) (with_expr (TextLiteral (codes "user-visible")) no_exprs))))) ∷
          [];
      names = codes "l" ∷ codes "k" ∷ codes "a" ∷ codes "b" ∷ [];
    }

abbrev listener_changes_another_priority_setup : Setup
listener_changes_another_priority_setup =
    record { form = 1; trace = 1; policy = (Rank default_list); fuel = 1000000; until = 10000000; refresh = 60; late = []; latencies = []; arrivals = [] }

listener_changes_another_priority : page_trace listener_changes_another_priority_script listener_changes_another_priority_setup four_hosts ([]) ≡ rows (
    codes "trace 1" ∷
    codes "0 turn 1 dom" ∷
    codes "0 call 1" ∷
    codes "0 prio 1 background" ∷
    codes "0 prio 2 user-blocking" ∷
    codes "0 reg 2 listener" ∷
    codes "0 reg 3 listener" ∷
    codes "0 reg 4 post" ∷
    codes "0 enq 4 s2 task 2" ∷
    codes "0 reg 5 post" ∷
    codes "0 enq 5 s1 task 3" ∷
    codes "0 prio 1 user-visible" ∷
    codes "0 call 2" ∷
    codes "0 log \"background\"" ∷
    codes "0 prio 2 background" ∷
    codes "0 call 3" ∷
    codes "0 log \"user-blocking\"" ∷
    codes "0 ret" ∷
    codes "0 log \"l\"" ∷
    codes "0 ret" ∷
    codes "0 ret" ∷
    codes "0 turn 2 sched" ∷
    codes "0 call 5" ∷
    codes "0 log \"a\"" ∷
    codes "0 ret" ∷
    codes "0 settle 2 ok unit" ∷
    codes "0 turn 3 sched" ∷
    codes "0 call 4" ∷
    codes "0 log \"b\"" ∷
    codes "0 ret" ∷
    codes "0 settle 1 ok unit" ∷
    codes "0 end done" ∷
    [])
unfolding page_trace run run_by
listener_changes_another_priority = refl

-- The listener posts a task on the signal that is changing, which has its new priority by then: the task goes behind the one posted before on that
-- signal and before the user-visible one. A change to the same priority does nothing.
--     fn l(s, old) { postTask(b, unit, s, 0); postTask(a, "user-visible", unit, 0); }
--     fn a() { log("a"); }
--     fn b() { log("b"); }
--     fn e() { log("e"); }
--     var c = taskController("background");
--     listen(signal(c), "prioritychange", l);
--     postTask(e, unit, signal(c), 0);
--     setPriority(c, "user-blocking");
--     setPriority(c, "user-blocking");
abbrev listener_of_a_priority_change_posts_a_task_script : Program
listener_of_a_priority_change_posts_a_task_script =
    record {
      items =
          (FnItem (named "l") ((named "s") ∷ (named "old") ∷ []) (with_stmt (ExprStmt (Call (named "postTask") (with_expr (Name (named "b")) (with_expr UnitLiteral (with_expr (Name (named "s")) (with_expr (Number (pos 0)) no_exprs)))))) (with_stmt (ExprStmt (Call (named "postTask") (with_expr (Name (named "a")) (with_expr (TextLiteral (codes "user-visible")) (with_expr UnitLiteral (with_expr (Number (pos 0)) no_exprs)))))) no_stmts))) ∷
          (FnItem (named "a") ([]) (with_stmt (ExprStmt (Call (named "log") (with_expr (TextLiteral (codes "a")) no_exprs))) no_stmts)) ∷
          (FnItem (named "b") ([]) (with_stmt (ExprStmt (Call (named "log") (with_expr (TextLiteral (codes "b")) no_exprs))) no_stmts)) ∷
          (FnItem (named "e") ([]) (with_stmt (ExprStmt (Call (named "log") (with_expr (TextLiteral (codes "e")) no_exprs))) no_stmts)) ∷
          (StmtItem (VarStmt (named "c") (Call (named "taskController") (with_expr (TextLiteral (codes "background")) no_exprs)))) ∷
          (StmtItem (ExprStmt (Call (named "listen") (with_expr (Call (named "signal") (with_expr (Name (named "c")) no_exprs)) (with_expr (TextLiteral (codes "prioritychange")) (with_expr (Name (named "l")) no_exprs)))))) ∷
          (StmtItem (ExprStmt (Call (named "postTask") (with_expr (Name (named "e")) (with_expr UnitLiteral (with_expr (Call (named "signal") (with_expr (Name (named "c")) no_exprs)) (with_expr (Number (pos 0)) no_exprs))))))) ∷
          (StmtItem (ExprStmt (Call (named "setPriority") (with_expr (Name (named "c")) (with_expr (TextLiteral (codes "user-blocking")) no_exprs))))) ∷
          (StmtItem (ExprStmt (Call (named "setPriority") (with_expr (Name (named "c")) (with_expr (TextLiteral (codes "user-blocking")) no_exprs))))) ∷
          [];
      names = codes "l" ∷ codes "a" ∷ codes "b" ∷ codes "e" ∷ [];
    }

abbrev listener_of_a_priority_change_posts_a_task_setup : Setup
listener_of_a_priority_change_posts_a_task_setup =
    record { form = 1; trace = 1; policy = (Rank default_list); fuel = 1000000; until = 10000000; refresh = 60; late = []; latencies = []; arrivals = [] }

listener_of_a_priority_change_posts_a_task : page_trace listener_of_a_priority_change_posts_a_task_script listener_of_a_priority_change_posts_a_task_setup four_hosts ([]) ≡ rows (
    codes "trace 1" ∷
    codes "0 turn 1 dom" ∷
    codes "0 call 1" ∷
    codes "0 prio 1 background" ∷
    codes "0 reg 2 listener" ∷
    codes "0 reg 3 post" ∷
    codes "0 enq 3 s1 task 2" ∷
    codes "0 prio 1 user-blocking" ∷
    codes "0 call 2" ∷
    codes "0 reg 4 post" ∷
    codes "0 enq 4 s1 task 3" ∷
    codes "0 reg 5 post" ∷
    codes "0 enq 5 user-visible task 4" ∷
    codes "0 ret" ∷
    codes "0 ret" ∷
    codes "0 turn 2 sched" ∷
    codes "0 call 3" ∷
    codes "0 log \"e\"" ∷
    codes "0 ret" ∷
    codes "0 settle 1 ok unit" ∷
    codes "0 turn 3 sched" ∷
    codes "0 call 4" ∷
    codes "0 log \"b\"" ∷
    codes "0 ret" ∷
    codes "0 settle 2 ok unit" ∷
    codes "0 turn 4 sched" ∷
    codes "0 call 5" ∷
    codes "0 log \"a\"" ∷
    codes "0 ret" ∷
    codes "0 settle 3 ok unit" ∷
    codes "0 end done" ∷
    [])
unfolding page_trace run run_by
listener_of_a_priority_change_posts_a_task = refl

-- A listener of a following signal tries to change the followed one, whose change is still in progress: it throws each time, also where the priority
-- would be the same. After the change it may be changed again.
--     fn k(s, old) { log(old); try { setPriority(c, "background"); } catch (e) { log(e); } }
--     var c = taskController("background");
--     var t = taskAny([], signal(c));
--     listen(t, "prioritychange", k);
--     setPriority(c, "user-blocking");
--     log(priority(t));
--     setPriority(c, "background");
abbrev change_of_the_followed_signal_by_a_follower_script : Program
change_of_the_followed_signal_by_a_follower_script =
    record {
      items =
          (FnItem (named "k") ((named "s") ∷ (named "old") ∷ []) (with_stmt (ExprStmt (Call (named "log") (with_expr (Name (named "old")) no_exprs))) (with_stmt (TryStmt (with_stmt (ExprStmt (Call (named "setPriority") (with_expr (Name (named "c")) (with_expr (TextLiteral (codes "background")) no_exprs)))) no_stmts) (named "e") (with_stmt (ExprStmt (Call (named "log") (with_expr (Name (named "e")) no_exprs))) no_stmts)) no_stmts))) ∷
          (StmtItem (VarStmt (named "c") (Call (named "taskController") (with_expr (TextLiteral (codes "background")) no_exprs)))) ∷
          (StmtItem (VarStmt (named "t") (Call (named "taskAny") (with_expr (ListLiteral no_exprs) (with_expr (Call (named "signal") (with_expr (Name (named "c")) no_exprs)) no_exprs))))) ∷
          (StmtItem (ExprStmt (Call (named "listen") (with_expr (Name (named "t")) (with_expr (TextLiteral (codes "prioritychange")) (with_expr (Name (named "k")) no_exprs)))))) ∷
          (StmtItem (ExprStmt (Call (named "setPriority") (with_expr (Name (named "c")) (with_expr (TextLiteral (codes "user-blocking")) no_exprs))))) ∷
          (StmtItem (ExprStmt (Call (named "log") (with_expr (Call (named "priority") (with_expr (Name (named "t")) no_exprs)) no_exprs)))) ∷
          (StmtItem (ExprStmt (Call (named "setPriority") (with_expr (Name (named "c")) (with_expr (TextLiteral (codes "background")) no_exprs))))) ∷
          [];
      names = codes "k" ∷ [];
    }

abbrev change_of_the_followed_signal_by_a_follower_setup : Setup
change_of_the_followed_signal_by_a_follower_setup =
    record { form = 1; trace = 1; policy = (Rank default_list); fuel = 1000000; until = 10000000; refresh = 60; late = []; latencies = []; arrivals = [] }

change_of_the_followed_signal_by_a_follower : page_trace change_of_the_followed_signal_by_a_follower_script change_of_the_followed_signal_by_a_follower_setup four_hosts ([]) ≡ rows (
    codes "trace 1" ∷
    codes "0 turn 1 dom" ∷
    codes "0 call 1" ∷
    codes "0 prio 1 background" ∷
    codes "0 prio 2 background" ∷
    codes "0 reg 2 listener" ∷
    codes "0 prio 1 user-blocking" ∷
    codes "0 prio 2 user-blocking" ∷
    codes "0 call 2" ∷
    codes "0 log \"background\"" ∷
    codes "0 log NotAllowedError(\"\")" ∷
    codes "0 ret" ∷
    codes "0 log \"user-blocking\"" ∷
    codes "0 prio 1 background" ∷
    codes "0 prio 2 background" ∷
    codes "0 call 2" ∷
    codes "0 log \"user-blocking\"" ∷
    codes "0 log NotAllowedError(\"\")" ∷
    codes "0 ret" ∷
    codes "0 ret" ∷
    codes "0 end done" ∷
    [])
unfolding page_trace run run_by
change_of_the_followed_signal_by_a_follower = refl

-- A signal made with a fixed priority depends on another one for aborts alone: a change of that one's priority leaves it, and an abort reaches its task.
--     fn a() { log("a"); }
--     fn b() { log("b"); }
--     fn g(r) { log(r); }
--     var c = taskController("background");
--     var t = taskAny([signal(c)], "user-blocking");
--     then(postTask(a, unit, t, 0), unit, g);
--     postTask(b, "user-visible", unit, 0);
--     setPriority(c, "user-visible");
--     log(priority(t));
--     abort(c, "off");
abbrev dependent_signal_of_fixed_priority_script : Program
dependent_signal_of_fixed_priority_script =
    record {
      items =
          (FnItem (named "a") ([]) (with_stmt (ExprStmt (Call (named "log") (with_expr (TextLiteral (codes "a")) no_exprs))) no_stmts)) ∷
          (FnItem (named "b") ([]) (with_stmt (ExprStmt (Call (named "log") (with_expr (TextLiteral (codes "b")) no_exprs))) no_stmts)) ∷
          (FnItem (named "g") ((named "r") ∷ []) (with_stmt (ExprStmt (Call (named "log") (with_expr (Name (named "r")) no_exprs))) no_stmts)) ∷
          (StmtItem (VarStmt (named "c") (Call (named "taskController") (with_expr (TextLiteral (codes "background")) no_exprs)))) ∷
          (StmtItem (VarStmt (named "t") (Call (named "taskAny") (with_expr (ListLiteral (with_expr (Call (named "signal") (with_expr (Name (named "c")) no_exprs)) no_exprs)) (with_expr (TextLiteral (codes "user-blocking")) no_exprs))))) ∷
          (StmtItem (ExprStmt (Call (named "then") (with_expr (Call (named "postTask") (with_expr (Name (named "a")) (with_expr UnitLiteral (with_expr (Name (named "t")) (with_expr (Number (pos 0)) no_exprs))))) (with_expr UnitLiteral (with_expr (Name (named "g")) no_exprs)))))) ∷
          (StmtItem (ExprStmt (Call (named "postTask") (with_expr (Name (named "b")) (with_expr (TextLiteral (codes "user-visible")) (with_expr UnitLiteral (with_expr (Number (pos 0)) no_exprs))))))) ∷
          (StmtItem (ExprStmt (Call (named "setPriority") (with_expr (Name (named "c")) (with_expr (TextLiteral (codes "user-visible")) no_exprs))))) ∷
          (StmtItem (ExprStmt (Call (named "log") (with_expr (Call (named "priority") (with_expr (Name (named "t")) no_exprs)) no_exprs)))) ∷
          (StmtItem (ExprStmt (Call (named "abort") (with_expr (Name (named "c")) (with_expr (TextLiteral (codes "off")) no_exprs))))) ∷
          [];
      names = codes "a" ∷ codes "b" ∷ codes "g" ∷ [];
    }

abbrev dependent_signal_of_fixed_priority_setup : Setup
dependent_signal_of_fixed_priority_setup =
    record { form = 1; trace = 1; policy = (Rank default_list); fuel = 1000000; until = 10000000; refresh = 60; late = []; latencies = []; arrivals = [] }

dependent_signal_of_fixed_priority : page_trace dependent_signal_of_fixed_priority_script dependent_signal_of_fixed_priority_setup four_hosts ([]) ≡ rows (
    codes "trace 1" ∷
    codes "0 turn 1 dom" ∷
    codes "0 call 1" ∷
    codes "0 prio 1 background" ∷
    codes "0 prio 2 user-blocking" ∷
    codes "0 reg 2 post" ∷
    codes "0 enq 2 s2 task 2" ∷
    codes "0 reg 3 then" ∷
    codes "0 reg 4 post" ∷
    codes "0 enq 4 user-visible task 3" ∷
    codes "0 prio 1 user-visible" ∷
    codes "0 log \"user-blocking\"" ∷
    codes "0 abort 1" ∷
    codes "0 abort 2" ∷
    codes "0 settle 1 err \"off\"" ∷
    codes "0 job 1 react 1" ∷
    codes "0 drop 2" ∷
    codes "0 ret" ∷
    codes "0 run 1" ∷
    codes "0 call 3" ∷
    codes "0 log \"off\"" ∷
    codes "0 ret" ∷
    codes "0 settle 2 ok unit" ∷
    codes "0 turn 2 sched" ∷
    codes "0 call 4" ∷
    codes "0 log \"b\"" ∷
    codes "0 ret" ∷
    codes "0 settle 3 ok unit" ∷
    codes "0 end done" ∷
    [])
unfolding page_trace run run_by
dependent_signal_of_fixed_priority = refl

-- A continuation inherits the signal of its task, and is dropped when another task aborts it. The handler of its rejection runs with the state of the
-- task, whose signal is aborted, so it cannot yield any more.
--     fn y(v) { log("y"); }
--     fn o(r) { log("again"); }
--     fn n(r) { log(r); then(yieldTask(), y, o); }
--     fn a() { then(yieldTask(), y, n); postTask(k, "user-blocking", unit, 0); }
--     fn k() { abort(c, "stop"); }
--     var c = controller();
--     postTask(a, "background", signal(c), 0);
abbrev continuation_whose_signal_is_aborted_script : Program
continuation_whose_signal_is_aborted_script =
    record {
      items =
          (FnItem (named "y") ((named "v") ∷ []) (with_stmt (ExprStmt (Call (named "log") (with_expr (TextLiteral (codes "y")) no_exprs))) no_stmts)) ∷
          (FnItem (named "o") ((named "r") ∷ []) (with_stmt (ExprStmt (Call (named "log") (with_expr (TextLiteral (codes "again")) no_exprs))) no_stmts)) ∷
          (FnItem (named "n") ((named "r") ∷ []) (with_stmt (ExprStmt (Call (named "log") (with_expr (Name (named "r")) no_exprs))) (with_stmt (ExprStmt (Call (named "then") (with_expr (Call (named "yieldTask") no_exprs) (with_expr (Name (named "y")) (with_expr (Name (named "o")) no_exprs))))) no_stmts))) ∷
          (FnItem (named "a") ([]) (with_stmt (ExprStmt (Call (named "then") (with_expr (Call (named "yieldTask") no_exprs) (with_expr (Name (named "y")) (with_expr (Name (named "n")) no_exprs))))) (with_stmt (ExprStmt (Call (named "postTask") (with_expr (Name (named "k")) (with_expr (TextLiteral (codes "user-blocking")) (with_expr UnitLiteral (with_expr (Number (pos 0)) no_exprs)))))) no_stmts))) ∷
          (FnItem (named "k") ([]) (with_stmt (ExprStmt (Call (named "abort") (with_expr (Name (named "c")) (with_expr (TextLiteral (codes "stop")) no_exprs)))) no_stmts)) ∷
          (StmtItem (VarStmt (named "c") (Call (named "controller") no_exprs))) ∷
          (StmtItem (ExprStmt (Call (named "postTask") (with_expr (Name (named "a")) (with_expr (TextLiteral (codes "background")) (with_expr (Call (named "signal") (with_expr (Name (named "c")) no_exprs)) (with_expr (Number (pos 0)) no_exprs))))))) ∷
          [];
      names = codes "y" ∷ codes "o" ∷ codes "n" ∷ codes "a" ∷ codes "k" ∷ [];
    }

abbrev continuation_whose_signal_is_aborted_setup : Setup
continuation_whose_signal_is_aborted_setup =
    record { form = 1; trace = 1; policy = (Rank default_list); fuel = 1000000; until = 10000000; refresh = 60; late = []; latencies = []; arrivals = [] }

continuation_whose_signal_is_aborted : page_trace continuation_whose_signal_is_aborted_script continuation_whose_signal_is_aborted_setup four_hosts ([]) ≡ rows (
    codes "trace 1" ∷
    codes "0 turn 1 dom" ∷
    codes "0 call 1" ∷
    codes "0 reg 2 post" ∷
    codes "0 enq 2 background task 2" ∷
    codes "0 ret" ∷
    codes "0 turn 2 sched" ∷
    codes "0 call 2" ∷
    codes "0 reg 3 yield" ∷
    codes "0 enq 3 background cont 3" ∷
    codes "0 reg 4 then" ∷
    codes "0 reg 5 post" ∷
    codes "0 enq 5 user-blocking task 4" ∷
    codes "0 ret" ∷
    codes "0 settle 1 ok unit" ∷
    codes "0 turn 3 sched" ∷
    codes "0 call 5" ∷
    codes "0 abort 1" ∷
    codes "0 settle 2 err \"stop\"" ∷
    codes "0 job 1 react 2" ∷
    codes "0 drop 3" ∷
    codes "0 ret" ∷
    codes "0 run 1" ∷
    codes "0 call 4" ∷
    codes "0 log \"stop\"" ∷
    codes "0 settle 5 err \"stop\"" ∷
    codes "0 reg 6 then" ∷
    codes "0 job 2 react 5" ∷
    codes "0 ret" ∷
    codes "0 settle 3 ok unit" ∷
    codes "0 run 2" ∷
    codes "0 call 6" ∷
    codes "0 log \"again\"" ∷
    codes "0 ret" ∷
    codes "0 settle 6 ok unit" ∷
    codes "0 settle 4 ok unit" ∷
    codes "0 end done" ∷
    [])
unfolding page_trace run run_by
continuation_whose_signal_is_aborted = refl

-- A signal that follows a following one follows the first of them. A continuation inherits the signal and not its priority: when the first signal
-- becomes a background one, the continuation falls behind the user-visible task.
--     fn y(v) { log("y"); }
--     fn b() { log("b"); }
--     fn a() { then(yieldTask(), y, unit); postTask(b, "user-visible", unit, 0); setPriority(c, "background"); log(priority(u)); }
--     var c = taskController("user-blocking");
--     var t = taskAny([], signal(c));
--     var u = taskAny([], t);
--     postTask(a, unit, u, 0);
abbrev continuation_on_a_follower_of_a_follower_script : Program
continuation_on_a_follower_of_a_follower_script =
    record {
      items =
          (FnItem (named "y") ((named "v") ∷ []) (with_stmt (ExprStmt (Call (named "log") (with_expr (TextLiteral (codes "y")) no_exprs))) no_stmts)) ∷
          (FnItem (named "b") ([]) (with_stmt (ExprStmt (Call (named "log") (with_expr (TextLiteral (codes "b")) no_exprs))) no_stmts)) ∷
          (FnItem (named "a") ([]) (with_stmt (ExprStmt (Call (named "then") (with_expr (Call (named "yieldTask") no_exprs) (with_expr (Name (named "y")) (with_expr UnitLiteral no_exprs))))) (with_stmt (ExprStmt (Call (named "postTask") (with_expr (Name (named "b")) (with_expr (TextLiteral (codes "user-visible")) (with_expr UnitLiteral (with_expr (Number (pos 0)) no_exprs)))))) (with_stmt (ExprStmt (Call (named "setPriority") (with_expr (Name (named "c")) (with_expr (TextLiteral (codes "background")) no_exprs)))) (with_stmt (ExprStmt (Call (named "log") (with_expr (Call (named "priority") (with_expr (Name (named "u")) no_exprs)) no_exprs))) no_stmts))))) ∷
          (StmtItem (VarStmt (named "c") (Call (named "taskController") (with_expr (TextLiteral (codes "user-blocking")) no_exprs)))) ∷
          (StmtItem (VarStmt (named "t") (Call (named "taskAny") (with_expr (ListLiteral no_exprs) (with_expr (Call (named "signal") (with_expr (Name (named "c")) no_exprs)) no_exprs))))) ∷
          (StmtItem (VarStmt (named "u") (Call (named "taskAny") (with_expr (ListLiteral no_exprs) (with_expr (Name (named "t")) no_exprs))))) ∷
          (StmtItem (ExprStmt (Call (named "postTask") (with_expr (Name (named "a")) (with_expr UnitLiteral (with_expr (Name (named "u")) (with_expr (Number (pos 0)) no_exprs))))))) ∷
          [];
      names = codes "y" ∷ codes "b" ∷ codes "a" ∷ [];
    }

abbrev continuation_on_a_follower_of_a_follower_setup : Setup
continuation_on_a_follower_of_a_follower_setup =
    record { form = 1; trace = 1; policy = (Rank default_list); fuel = 1000000; until = 10000000; refresh = 60; late = []; latencies = []; arrivals = [] }

continuation_on_a_follower_of_a_follower : page_trace continuation_on_a_follower_of_a_follower_script continuation_on_a_follower_of_a_follower_setup four_hosts ([]) ≡ rows (
    codes "trace 1" ∷
    codes "0 turn 1 dom" ∷
    codes "0 call 1" ∷
    codes "0 prio 1 user-blocking" ∷
    codes "0 prio 2 user-blocking" ∷
    codes "0 prio 3 user-blocking" ∷
    codes "0 reg 2 post" ∷
    codes "0 enq 2 s3 task 2" ∷
    codes "0 ret" ∷
    codes "0 turn 2 sched" ∷
    codes "0 call 2" ∷
    codes "0 reg 3 yield" ∷
    codes "0 enq 3 s3 cont 3" ∷
    codes "0 reg 4 then" ∷
    codes "0 reg 5 post" ∷
    codes "0 enq 5 user-visible task 4" ∷
    codes "0 prio 1 background" ∷
    codes "0 prio 2 background" ∷
    codes "0 prio 3 background" ∷
    codes "0 log \"background\"" ∷
    codes "0 ret" ∷
    codes "0 settle 1 ok unit" ∷
    codes "0 turn 3 sched" ∷
    codes "0 call 5" ∷
    codes "0 log \"b\"" ∷
    codes "0 ret" ∷
    codes "0 settle 4 ok unit" ∷
    codes "0 turn 4 sched" ∷
    codes "0 call 3" ∷
    codes "0 settle 2 ok unit" ∷
    codes "0 job 1 react 2" ∷
    codes "0 ret" ∷
    codes "0 run 1" ∷
    codes "0 call 4" ∷
    codes "0 log \"y\"" ∷
    codes "0 ret" ∷
    codes "0 settle 3 ok unit" ∷
    codes "0 end done" ∷
    [])
unfolding page_trace run run_by
continuation_on_a_follower_of_a_follower = refl

-- A delayed task keeps its signal as priority source. The priority changes while the delay is over and not yet taken, and the task, though enqueued
-- last, is first.
--     fn a() { log("a"); }
--     fn b() { log("b"); }
--     var c = taskController("background");
--     postTask(a, unit, signal(c), 1);
--     busy(1000);
--     postTask(b, unit, unit, 0);
--     setPriority(c, "user-blocking");
abbrev priority_change_during_a_delay_script : Program
priority_change_during_a_delay_script =
    record {
      items =
          (FnItem (named "a") ([]) (with_stmt (ExprStmt (Call (named "log") (with_expr (TextLiteral (codes "a")) no_exprs))) no_stmts)) ∷
          (FnItem (named "b") ([]) (with_stmt (ExprStmt (Call (named "log") (with_expr (TextLiteral (codes "b")) no_exprs))) no_stmts)) ∷
          (StmtItem (VarStmt (named "c") (Call (named "taskController") (with_expr (TextLiteral (codes "background")) no_exprs)))) ∷
          (StmtItem (ExprStmt (Call (named "postTask") (with_expr (Name (named "a")) (with_expr UnitLiteral (with_expr (Call (named "signal") (with_expr (Name (named "c")) no_exprs)) (with_expr (Number (pos 1)) no_exprs))))))) ∷
          (StmtItem (ExprStmt (Call (named "busy") (with_expr (Number (pos 1000)) no_exprs)))) ∷
          (StmtItem (ExprStmt (Call (named "postTask") (with_expr (Name (named "b")) (with_expr UnitLiteral (with_expr UnitLiteral (with_expr (Number (pos 0)) no_exprs))))))) ∷
          (StmtItem (ExprStmt (Call (named "setPriority") (with_expr (Name (named "c")) (with_expr (TextLiteral (codes "user-blocking")) no_exprs))))) ∷
          [];
      names = codes "a" ∷ codes "b" ∷ [];
    }

abbrev priority_change_during_a_delay_setup : Setup
priority_change_during_a_delay_setup =
    record { form = 1; trace = 1; policy = (Rank default_list); fuel = 1000000; until = 10000000; refresh = 60; late = []; latencies = []; arrivals = [] }

priority_change_during_a_delay : page_trace priority_change_during_a_delay_script priority_change_during_a_delay_setup four_hosts ([]) ≡ rows (
    codes "trace 1" ∷
    codes "0 turn 1 dom" ∷
    codes "0 call 1" ∷
    codes "0 prio 1 background" ∷
    codes "0 reg 2 post" ∷
    codes "0 arm 2 1000 0" ∷
    codes "1000 reg 3 post" ∷
    codes "1000 enq 3 user-visible task 2" ∷
    codes "1000 prio 1 user-blocking" ∷
    codes "1000 ret" ∷
    codes "1000 due 2" ∷
    codes "1000 enq 2 s1 task 3" ∷
    codes "1000 turn 2 sched" ∷
    codes "1000 call 2" ∷
    codes "1000 log \"a\"" ∷
    codes "1000 ret" ∷
    codes "1000 settle 1 ok unit" ∷
    codes "1000 turn 3 sched" ∷
    codes "1000 call 3" ∷
    codes "1000 log \"b\"" ∷
    codes "1000 ret" ∷
    codes "1000 settle 2 ok unit" ∷
    codes "1000 end done" ∷
    [])
unfolding page_trace run run_by
priority_change_during_a_delay = refl
