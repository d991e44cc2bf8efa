-- Worked examples, computed: scheduler tasks.
use Rattle.std.specs.Prelude.{◌≡◌, [], ◌∷◌, pos, codes, refl}
use Rattle.page_types.specs.declared.Source.TheVariants.{User, Net, Dom, Timer, Render, Sched, Idle}
use Rattle.page_types.specs.Tree.{Number, TextLiteral, UnitLiteral, Name, Call, ListLiteral, no_exprs, with_expr, VarStmt, ExprStmt, no_stmts, with_stmt, FnItem, StmtItem, Program}
use Rattle.page_parts.specs.Setup.{Setup, Rank}
use Rattle.page_parts.specs.Sources.{default_list}
use Rattle.page_model.specs.Turns.{run, run_by}
use Rattle.page_model.specs.PageTrace.{page_trace}
use Rattle.page_model.proofs.Examples.Sample.{named, four_hosts, logs_of, rows}

--     fn a() { log("a"); }
--     fn b() { log("b"); }
--     fn e() { log("e"); }
--     postTask(a, "background", unit, 0);
--     postTask(b, "user-visible", unit, 0);
--     postTask(e, "user-blocking", unit, 0);
abbrev posted_tasks_run_by_priority_script : Program
posted_tasks_run_by_priority_script =
    record {
      items =
          (FnItem (named "a") ([]) (with_stmt (ExprStmt (Call (named "log") (with_expr (TextLiteral (codes "a")) no_exprs))) no_stmts)) ∷
          (FnItem (named "b") ([]) (with_stmt (ExprStmt (Call (named "log") (with_expr (TextLiteral (codes "b")) no_exprs))) no_stmts)) ∷
          (FnItem (named "e") ([]) (with_stmt (ExprStmt (Call (named "log") (with_expr (TextLiteral (codes "e")) no_exprs))) no_stmts)) ∷
          (StmtItem (ExprStmt (Call (named "postTask") (with_expr (Name (named "a")) (with_expr (TextLiteral (codes "background")) (with_expr UnitLiteral (with_expr (Number (pos 0)) no_exprs))))))) ∷
          (StmtItem (ExprStmt (Call (named "postTask") (with_expr (Name (named "b")) (with_expr (TextLiteral (codes "user-visible")) (with_expr UnitLiteral (with_expr (Number (pos 0)) no_exprs))))))) ∷
          (StmtItem (ExprStmt (Call (named "postTask") (with_expr (Name (named "e")) (with_expr (TextLiteral (codes "user-blocking")) (with_expr UnitLiteral (with_expr (Number (pos 0)) no_exprs))))))) ∷
          [];
      names = codes "a" ∷ codes "b" ∷ codes "e" ∷ [];
    }

abbrev posted_tasks_run_by_priority_setup : Setup
posted_tasks_run_by_priority_setup =
    record { form = 1; trace = 1; policy = (Rank default_list); fuel = 1000000; until = 10000000; refresh = 60; late = []; latencies = []; arrivals = [] }

posted_tasks_run_by_priority : logs_of (page_trace posted_tasks_run_by_priority_script posted_tasks_run_by_priority_setup four_hosts ([])) ≡ rows (
    codes "0 \"e\"" ∷
    codes "0 \"b\"" ∷
    codes "0 \"a\"" ∷
    [])
unfolding page_trace run run_by
posted_tasks_run_by_priority = refl

--     fn a() { log("a"); }
--     fn b() { log("b"); }
--     fn e() { log("e"); }
--     var c = taskController("background");
--     postTask(a, unit, signal(c), 0);
--     postTask(b, "user-visible", unit, 0);
--     postTask(e, "user-blocking", unit, 0);
--     setPriority(c, "user-blocking");
abbrev priority_change_moves_a_posted_task_script : Program
priority_change_moves_a_posted_task_script =
    record {
      items =
          (FnItem (named "a") ([]) (with_stmt (ExprStmt (Call (named "log") (with_expr (TextLiteral (codes "a")) no_exprs))) no_stmts)) ∷
          (FnItem (named "b") ([]) (with_stmt (ExprStmt (Call (named "log") (with_expr (TextLiteral (codes "b")) no_exprs))) no_stmts)) ∷
          (FnItem (named "e") ([]) (with_stmt (ExprStmt (Call (named "log") (with_expr (TextLiteral (codes "e")) no_exprs))) no_stmts)) ∷
          (StmtItem (VarStmt (named "c") (Call (named "taskController") (with_expr (TextLiteral (codes "background")) no_exprs)))) ∷
          (StmtItem (ExprStmt (Call (named "postTask") (with_expr (Name (named "a")) (with_expr UnitLiteral (with_expr (Call (named "signal") (with_expr (Name (named "c")) no_exprs)) (with_expr (Number (pos 0)) no_exprs))))))) ∷
          (StmtItem (ExprStmt (Call (named "postTask") (with_expr (Name (named "b")) (with_expr (TextLiteral (codes "user-visible")) (with_expr UnitLiteral (with_expr (Number (pos 0)) no_exprs))))))) ∷
          (StmtItem (ExprStmt (Call (named "postTask") (with_expr (Name (named "e")) (with_expr (TextLiteral (codes "user-blocking")) (with_expr UnitLiteral (with_expr (Number (pos 0)) no_exprs))))))) ∷
          (StmtItem (ExprStmt (Call (named "setPriority") (with_expr (Name (named "c")) (with_expr (TextLiteral (codes "user-blocking")) no_exprs))))) ∷
          [];
      names = codes "a" ∷ codes "b" ∷ codes "e" ∷ [];
    }

abbrev priority_change_moves_a_posted_task_setup : Setup
priority_change_moves_a_posted_task_setup =
    record { form = 1; trace = 1; policy = (Rank default_list); fuel = 1000000; until = 10000000; refresh = 60; late = []; latencies = []; arrivals = [] }

priority_change_moves_a_posted_task : logs_of (page_trace priority_change_moves_a_posted_task_script priority_change_moves_a_posted_task_setup four_hosts ([])) ≡ rows (
    codes "0 \"a\"" ∷
    codes "0 \"e\"" ∷
    codes "0 \"b\"" ∷
    [])
unfolding page_trace run run_by
priority_change_moves_a_posted_task = refl

--     fn a() { log("a"); }
--     fn b() { log("b"); }
--     fn e() { log("e"); }
--     var c = taskController("background");
--     postTask(a, unit, taskAny([], signal(c)), 0);
--     postTask(b, "user-visible", unit, 0);
--     setPriority(c, "user-blocking");
abbrev following_signal_changes_script : Program
following_signal_changes_script =
    record {
      items =
          (FnItem (named "a") ([]) (with_stmt (ExprStmt (Call (named "log") (with_expr (TextLiteral (codes "a")) no_exprs))) no_stmts)) ∷
          (FnItem (named "b") ([]) (with_stmt (ExprStmt (Call (named "log") (with_expr (TextLiteral (codes "b")) no_exprs))) no_stmts)) ∷
          (FnItem (named "e") ([]) (with_stmt (ExprStmt (Call (named "log") (with_expr (TextLiteral (codes "e")) no_exprs))) no_stmts)) ∷
          (StmtItem (VarStmt (named "c") (Call (named "taskController") (with_expr (TextLiteral (codes "background")) no_exprs)))) ∷
          (StmtItem (ExprStmt (Call (named "postTask") (with_expr (Name (named "a")) (with_expr UnitLiteral (with_expr (Call (named "taskAny") (with_expr (ListLiteral no_exprs) (with_expr (Call (named "signal") (with_expr (Name (named "c")) no_exprs)) no_exprs))) (with_expr (Number (pos 0)) no_exprs))))))) ∷
          (StmtItem (ExprStmt (Call (named "postTask") (with_expr (Name (named "b")) (with_expr (TextLiteral (codes "user-visible")) (with_expr UnitLiteral (with_expr (Number (pos 0)) no_exprs))))))) ∷
          (StmtItem (ExprStmt (Call (named "setPriority") (with_expr (Name (named "c")) (with_expr (TextLiteral (codes "user-blocking")) no_exprs))))) ∷
          [];
      names = codes "a" ∷ codes "b" ∷ codes "e" ∷ [];
    }

abbrev following_signal_changes_setup : Setup
following_signal_changes_setup =
    record { form = 1; trace = 1; policy = (Rank default_list); fuel = 1000000; until = 10000000; refresh = 60; late = []; latencies = []; arrivals = [] }

following_signal_changes : page_trace following_signal_changes_script following_signal_changes_setup four_hosts ([]) ≡ rows (
    codes "trace 1" ∷
    codes "0 turn 1 dom" ∷
    codes "0 call 1" ∷
    codes "0 prio 1 background" ∷
    codes "0 prio 2 background" ∷
    codes "0 reg 2 post" ∷
    codes "0 enq 2 s2 task 2" ∷
    codes "0 reg 3 post" ∷
    codes "0 enq 3 user-visible task 3" ∷
    codes "0 prio 1 user-blocking" ∷
    codes "0 prio 2 user-blocking" ∷
    codes "0 ret" ∷
    codes "0 turn 2 sched" ∷
    codes "0 call 2" ∷
    codes "0 log \"a\"" ∷
    codes "0 ret" ∷
    codes "0 settle 1 ok unit" ∷
    codes "0 turn 3 sched" ∷
    codes "0 call 3" ∷
    codes "0 log \"b\"" ∷
    codes "0 ret" ∷
    codes "0 settle 2 ok unit" ∷
    codes "0 end done" ∷
    [])
unfolding page_trace run run_by
following_signal_changes = refl

--     fn y(v) { log("y"); }
--     fn b() { log("b"); }
--     fn a() { log("a"); then(yieldTask(), y, unit); }
--     postTask(a, unit, unit, 0);
--     postTask(b, unit, unit, 0);
abbrev continuation_goes_before_other_tasks_script : Program
continuation_goes_before_other_tasks_script =
    record {
      items =
          (FnItem (named "y") ((named "v") ∷ []) (with_stmt (ExprStmt (Call (named "log") (with_expr (TextLiteral (codes "y")) no_exprs))) no_stmts)) ∷
          (FnItem (named "b") ([]) (with_stmt (ExprStmt (Call (named "log") (with_expr (TextLiteral (codes "b")) no_exprs))) no_stmts)) ∷
          (FnItem (named "a") ([]) (with_stmt (ExprStmt (Call (named "log") (with_expr (TextLiteral (codes "a")) no_exprs))) (with_stmt (ExprStmt (Call (named "then") (with_expr (Call (named "yieldTask") no_exprs) (with_expr (Name (named "y")) (with_expr UnitLiteral no_exprs))))) no_stmts))) ∷
          (StmtItem (ExprStmt (Call (named "postTask") (with_expr (Name (named "a")) (with_expr UnitLiteral (with_expr UnitLiteral (with_expr (Number (pos 0)) no_exprs))))))) ∷
          (StmtItem (ExprStmt (Call (named "postTask") (with_expr (Name (named "b")) (with_expr UnitLiteral (with_expr UnitLiteral (with_expr (Number (pos 0)) no_exprs))))))) ∷
          [];
      names = codes "y" ∷ codes "b" ∷ codes "a" ∷ [];
    }

abbrev continuation_goes_before_other_tasks_setup : Setup
continuation_goes_before_other_tasks_setup =
    record { form = 1; trace = 1; policy = (Rank default_list); fuel = 1000000; until = 10000000; refresh = 60; late = []; latencies = []; arrivals = [] }

continuation_goes_before_other_tasks : page_trace continuation_goes_before_other_tasks_script continuation_goes_before_other_tasks_setup four_hosts ([]) ≡ rows (
    codes "trace 1" ∷
    codes "0 turn 1 dom" ∷
    codes "0 call 1" ∷
    codes "0 reg 2 post" ∷
    codes "0 enq 2 user-visible task 2" ∷
    codes "0 reg 3 post" ∷
    codes "0 enq 3 user-visible task 3" ∷
    codes "0 ret" ∷
    codes "0 turn 2 sched" ∷
    codes "0 call 2" ∷
    codes "0 log \"a\"" ∷
    codes "0 reg 4 yield" ∷
    codes "0 enq 4 user-visible cont 4" ∷
    codes "0 reg 5 then" ∷
    codes "0 ret" ∷
    codes "0 settle 1 ok unit" ∷
    codes "0 turn 3 sched" ∷
    codes "0 call 4" ∷
    codes "0 settle 3 ok unit" ∷
    codes "0 job 1 react 3" ∷
    codes "0 ret" ∷
    codes "0 run 1" ∷
    codes "0 call 5" ∷
    codes "0 log \"y\"" ∷
    codes "0 ret" ∷
    codes "0 settle 4 ok unit" ∷
    codes "0 turn 4 sched" ∷
    codes "0 call 3" ∷
    codes "0 log \"b\"" ∷
    codes "0 ret" ∷
    codes "0 settle 2 ok unit" ∷
    codes "0 end done" ∷
    [])
unfolding page_trace run run_by
continuation_goes_before_other_tasks = refl

--     fn t() { log("t"); }
--     fn a() { log("a"); }
--     setTimeout(t, 0);
--     postTask(a, unit, unit, 0);
abbrev written_rank_serves_the_timer_first_script : Program
written_rank_serves_the_timer_first_script =
    record {
      items =
          (FnItem (named "t") ([]) (with_stmt (ExprStmt (Call (named "log") (with_expr (TextLiteral (codes "t")) no_exprs))) no_stmts)) ∷
          (FnItem (named "a") ([]) (with_stmt (ExprStmt (Call (named "log") (with_expr (TextLiteral (codes "a")) no_exprs))) no_stmts)) ∷
          (StmtItem (ExprStmt (Call (named "setTimeout") (with_expr (Name (named "t")) (with_expr (Number (pos 0)) no_exprs))))) ∷
          (StmtItem (ExprStmt (Call (named "postTask") (with_expr (Name (named "a")) (with_expr UnitLiteral (with_expr UnitLiteral (with_expr (Number (pos 0)) no_exprs))))))) ∷
          [];
      names = codes "t" ∷ codes "a" ∷ [];
    }

abbrev written_rank_serves_the_timer_first_setup : Setup
written_rank_serves_the_timer_first_setup =
    record { form = 1; trace = 1; policy = (Rank (Timer ∷ Sched ∷ User ∷ Render ∷ Net ∷ Dom ∷ Idle ∷ [])); fuel = 1000000; until = 10000000; refresh = 60; late = []; latencies = []; arrivals = [] }

written_rank_serves_the_timer_first : page_trace written_rank_serves_the_timer_first_script written_rank_serves_the_timer_first_setup four_hosts ([]) ≡ rows (
    codes "trace 1" ∷
    codes "0 turn 1 dom" ∷
    codes "0 call 1" ∷
    codes "0 reg 2 timeout" ∷
    codes "0 arm 2 0 1" ∷
    codes "0 reg 3 post" ∷
    codes "0 enq 3 user-visible task 2" ∷
    codes "0 ret" ∷
    codes "0 due 2" ∷
    codes "0 turn 2 timer" ∷
    codes "0 call 2" ∷
    codes "0 log \"t\"" ∷
    codes "0 ret" ∷
    codes "0 turn 3 sched" ∷
    codes "0 call 3" ∷
    codes "0 log \"a\"" ∷
    codes "0 ret" ∷
    codes "0 settle 1 ok unit" ∷
    codes "0 end done" ∷
    [])
unfolding page_trace run run_by
written_rank_serves_the_timer_first = refl
