-- Worked examples, computed: signals.
use Rattle.std.specs.Prelude.{◌≡◌, [], ◌∷◌, Some, pos, codes, refl}
use Rattle.page_types.specs.Tree.{Number, TextLiteral, UnitLiteral, Name, Call, ListLiteral, no_exprs, with_expr, VarStmt, ExprStmt, ReturnStmt, no_stmts, with_stmt, FnItem, StmtItem, Program}
use Rattle.page_parts.specs.Setup.{Setup, Rank}
use Rattle.page_parts.specs.Sources.{default_list}
use Rattle.page_model.specs.Turns.{run, run_by}
use Rattle.page_model.specs.PageTrace.{page_trace}
use Rattle.page_model.proofs.Examples.Sample.{named, four_hosts, logs_of, rows}

--     fn m1() { log("m1"); }
--     fn m2() { log("m2"); }
--     fn l1(s) { log("L1"); queueMicrotask(m1); }
--     fn l2(s) { log("L2"); queueMicrotask(m2); }
--     var t = timeoutSignal(5);
--     listen(t, "abort", l1);
--     listen(t, "abort", l2);
abbrev checkpoint_between_listeners_run_by_a_task_script : Program
checkpoint_between_listeners_run_by_a_task_script =
    record {
      items =
          (FnItem (named "m1") ([]) (with_stmt (ExprStmt (Call (named "log") (with_expr (TextLiteral (codes "m1")) no_exprs))) no_stmts)) ∷
          (FnItem (named "m2") ([]) (with_stmt (ExprStmt (Call (named "log") (with_expr (TextLiteral (codes "m2")) no_exprs))) no_stmts)) ∷
          (FnItem (named "l1") ((named "s") ∷ []) (with_stmt (ExprStmt (Call (named "log") (with_expr (TextLiteral (codes "L1")) no_exprs))) (with_stmt (ExprStmt (Call (named "queueMicrotask") (with_expr (Name (named "m1")) no_exprs))) no_stmts))) ∷
          (FnItem (named "l2") ((named "s") ∷ []) (with_stmt (ExprStmt (Call (named "log") (with_expr (TextLiteral (codes "L2")) no_exprs))) (with_stmt (ExprStmt (Call (named "queueMicrotask") (with_expr (Name (named "m2")) no_exprs))) no_stmts))) ∷
          (StmtItem (VarStmt (named "t") (Call (named "timeoutSignal") (with_expr (Number (pos 5)) no_exprs)))) ∷
          (StmtItem (ExprStmt (Call (named "listen") (with_expr (Name (named "t")) (with_expr (TextLiteral (codes "abort")) (with_expr (Name (named "l1")) no_exprs)))))) ∷
          (StmtItem (ExprStmt (Call (named "listen") (with_expr (Name (named "t")) (with_expr (TextLiteral (codes "abort")) (with_expr (Name (named "l2")) no_exprs)))))) ∷
          [];
      names = codes "m1" ∷ codes "m2" ∷ codes "l1" ∷ codes "l2" ∷ [];
    }

abbrev checkpoint_between_listeners_run_by_a_task_setup : Setup
checkpoint_between_listeners_run_by_a_task_setup =
    record { form = 1; trace = 1; policy = (Rank default_list); fuel = 1000000; until = 10000000; refresh = 60; late = []; latencies = []; arrivals = [] }

checkpoint_between_listeners_run_by_a_task : logs_of (page_trace checkpoint_between_listeners_run_by_a_task_script checkpoint_between_listeners_run_by_a_task_setup four_hosts ([])) ≡ rows (
    codes "5000 \"L1\"" ∷
    codes "5000 \"m1\"" ∷
    codes "5000 \"L2\"" ∷
    codes "5000 \"m2\"" ∷
    [])
unfolding page_trace run run_by
checkpoint_between_listeners_run_by_a_task = refl

--     fn m1() { log("m1"); }
--     fn m2() { log("m2"); }
--     fn l1(s) { log("L1"); queueMicrotask(m1); }
--     fn l2(s) { log("L2"); queueMicrotask(m2); }
--     var c = controller();
--     var t = signal(c);
--     listen(t, "abort", l1);
--     listen(t, "abort", l2);
--     abort(c, unit);
abbrev no_checkpoint_between_listeners_in_a_script_script : Program
no_checkpoint_between_listeners_in_a_script_script =
    record {
      items =
          (FnItem (named "m1") ([]) (with_stmt (ExprStmt (Call (named "log") (with_expr (TextLiteral (codes "m1")) no_exprs))) no_stmts)) ∷
          (FnItem (named "m2") ([]) (with_stmt (ExprStmt (Call (named "log") (with_expr (TextLiteral (codes "m2")) no_exprs))) no_stmts)) ∷
          (FnItem (named "l1") ((named "s") ∷ []) (with_stmt (ExprStmt (Call (named "log") (with_expr (TextLiteral (codes "L1")) no_exprs))) (with_stmt (ExprStmt (Call (named "queueMicrotask") (with_expr (Name (named "m1")) no_exprs))) no_stmts))) ∷
          (FnItem (named "l2") ((named "s") ∷ []) (with_stmt (ExprStmt (Call (named "log") (with_expr (TextLiteral (codes "L2")) no_exprs))) (with_stmt (ExprStmt (Call (named "queueMicrotask") (with_expr (Name (named "m2")) no_exprs))) no_stmts))) ∷
          (StmtItem (VarStmt (named "c") (Call (named "controller") no_exprs))) ∷
          (StmtItem (VarStmt (named "t") (Call (named "signal") (with_expr (Name (named "c")) no_exprs)))) ∷
          (StmtItem (ExprStmt (Call (named "listen") (with_expr (Name (named "t")) (with_expr (TextLiteral (codes "abort")) (with_expr (Name (named "l1")) no_exprs)))))) ∷
          (StmtItem (ExprStmt (Call (named "listen") (with_expr (Name (named "t")) (with_expr (TextLiteral (codes "abort")) (with_expr (Name (named "l2")) no_exprs)))))) ∷
          (StmtItem (ExprStmt (Call (named "abort") (with_expr (Name (named "c")) (with_expr UnitLiteral no_exprs))))) ∷
          [];
      names = codes "m1" ∷ codes "m2" ∷ codes "l1" ∷ codes "l2" ∷ [];
    }

abbrev no_checkpoint_between_listeners_in_a_script_setup : Setup
no_checkpoint_between_listeners_in_a_script_setup =
    record { form = 1; trace = 1; policy = (Rank default_list); fuel = 1000000; until = 10000000; refresh = 60; late = []; latencies = []; arrivals = [] }

no_checkpoint_between_listeners_in_a_script : logs_of (page_trace no_checkpoint_between_listeners_in_a_script_script no_checkpoint_between_listeners_in_a_script_setup four_hosts ([])) ≡ rows (
    codes "0 \"L1\"" ∷
    codes "0 \"L2\"" ∷
    codes "0 \"m1\"" ∷
    codes "0 \"m2\"" ∷
    [])
unfolding page_trace run run_by
no_checkpoint_between_listeners_in_a_script = refl

--     var c = controller();
--     fn f() { abort(c, unit); return 1; }
--     postTask(f, unit, signal(c), 0);
abbrev abort_in_its_own_task_script : Program
abort_in_its_own_task_script =
    record {
      items =
          (StmtItem (VarStmt (named "c") (Call (named "controller") no_exprs))) ∷
          (FnItem (named "f") ([]) (with_stmt (ExprStmt (Call (named "abort") (with_expr (Name (named "c")) (with_expr UnitLiteral no_exprs)))) (with_stmt (ReturnStmt (Some (Number (pos 1)))) no_stmts))) ∷
          (StmtItem (ExprStmt (Call (named "postTask") (with_expr (Name (named "f")) (with_expr UnitLiteral (with_expr (Call (named "signal") (with_expr (Name (named "c")) no_exprs)) (with_expr (Number (pos 0)) no_exprs))))))) ∷
          [];
      names = codes "f" ∷ [];
    }

abbrev abort_in_its_own_task_setup : Setup
abort_in_its_own_task_setup =
    record { form = 1; trace = 1; policy = (Rank default_list); fuel = 1000000; until = 10000000; refresh = 60; late = []; latencies = []; arrivals = [] }

abort_in_its_own_task : page_trace abort_in_its_own_task_script abort_in_its_own_task_setup four_hosts ([]) ≡ rows (
    codes "trace 1" ∷
    codes "0 turn 1 dom" ∷
    codes "0 call 1" ∷
    codes "0 reg 2 post" ∷
    codes "0 enq 2 user-visible task 2" ∷
    codes "0 ret" ∷
    codes "0 turn 2 sched" ∷
    codes "0 call 2" ∷
    codes "0 abort 1" ∷
    codes "0 settle 1 err AbortError(\"\")" ∷
    codes "0 ret" ∷
    codes "0 turn 3 dom" ∷
    codes "0 unhandled 1" ∷
    codes "0 end done" ∷
    [])
unfolding page_trace run run_by
abort_in_its_own_task = refl

--     var c = taskController("background");
--     fn l(s, old) { log(old); setPriority(c, "user-blocking"); }
--     listen(signal(c), "prioritychange", l);
--     setPriority(c, "user-visible");
--     log(priority(signal(c)));
abbrev priority_change_inside_its_listener_throws_script : Program
priority_change_inside_its_listener_throws_script =
    record {
      items =
          (StmtItem (VarStmt (named "c") (Call (named "taskController") (with_expr (TextLiteral (codes "background")) no_exprs)))) ∷
          (FnItem (named "l") ((named "s") ∷ (named "old") ∷ []) (with_stmt (ExprStmt (Call (named "log") (with_expr (Name (named "old")) no_exprs))) (with_stmt (ExprStmt (Call (named "setPriority") (with_expr (Name (named "c")) (with_expr (TextLiteral (codes "user-blocking")) no_exprs)))) no_stmts))) ∷
          (StmtItem (ExprStmt (Call (named "listen") (with_expr (Call (named "signal") (with_expr (Name (named "c")) no_exprs)) (with_expr (TextLiteral (codes "prioritychange")) (with_expr (Name (named "l")) no_exprs)))))) ∷
          (StmtItem (ExprStmt (Call (named "setPriority") (with_expr (Name (named "c")) (with_expr (TextLiteral (codes "user-visible")) no_exprs))))) ∷
          (StmtItem (ExprStmt (Call (named "log") (with_expr (Call (named "priority") (with_expr (Call (named "signal") (with_expr (Name (named "c")) no_exprs)) no_exprs)) no_exprs)))) ∷
          [];
      names = codes "l" ∷ [];
    }

abbrev priority_change_inside_its_listener_throws_setup : Setup
priority_change_inside_its_listener_throws_setup =
    record { form = 1; trace = 1; policy = (Rank default_list); fuel = 1000000; until = 10000000; refresh = 60; late = []; latencies = []; arrivals = [] }

priority_change_inside_its_listener_throws : page_trace priority_change_inside_its_listener_throws_script priority_change_inside_its_listener_throws_setup four_hosts ([]) ≡ rows (
    codes "trace 1" ∷
    codes "0 turn 1 dom" ∷
    codes "0 call 1" ∷
    codes "0 prio 1 background" ∷
    codes "0 reg 2 listener" ∷
    codes "0 prio 1 user-visible" ∷
    codes "0 call 2" ∷
    codes "0 log \"background\"" ∷
    codes "0 throw NotAllowedError(\"\")" ∷
    codes "0 report NotAllowedError(\"\")" ∷
    codes "0 log \"user-visible\"" ∷
    codes "0 ret" ∷
    codes "0 end done" ∷
    [])
unfolding page_trace run run_by
priority_change_inside_its_listener_throws = refl

--     var c = controller();
--     var s = signal(c);
--     var d = anySignal([s]);
--     fn l(x) { log(aborted(d)); }
--     fn e(x) { log("d"); }
--     listen(s, "abort", l);
--     listen(d, "abort", e);
--     abort(c, "why");
--     log(reason(d));
abbrev dependents_aborted_before_any_listener_script : Program
dependents_aborted_before_any_listener_script =
    record {
      items =
          (StmtItem (VarStmt (named "c") (Call (named "controller") no_exprs))) ∷
          (StmtItem (VarStmt (named "s") (Call (named "signal") (with_expr (Name (named "c")) no_exprs)))) ∷
          (StmtItem (VarStmt (named "d") (Call (named "anySignal") (with_expr (ListLiteral (with_expr (Name (named "s")) no_exprs)) no_exprs)))) ∷
          (FnItem (named "l") ((named "x") ∷ []) (with_stmt (ExprStmt (Call (named "log") (with_expr (Call (named "aborted") (with_expr (Name (named "d")) no_exprs)) no_exprs))) no_stmts)) ∷
          (FnItem (named "e") ((named "x") ∷ []) (with_stmt (ExprStmt (Call (named "log") (with_expr (TextLiteral (codes "d")) no_exprs))) no_stmts)) ∷
          (StmtItem (ExprStmt (Call (named "listen") (with_expr (Name (named "s")) (with_expr (TextLiteral (codes "abort")) (with_expr (Name (named "l")) no_exprs)))))) ∷
          (StmtItem (ExprStmt (Call (named "listen") (with_expr (Name (named "d")) (with_expr (TextLiteral (codes "abort")) (with_expr (Name (named "e")) no_exprs)))))) ∷
          (StmtItem (ExprStmt (Call (named "abort") (with_expr (Name (named "c")) (with_expr (TextLiteral (codes "why")) no_exprs))))) ∷
          (StmtItem (ExprStmt (Call (named "log") (with_expr (Call (named "reason") (with_expr (Name (named "d")) no_exprs)) no_exprs)))) ∷
          [];
      names = codes "l" ∷ codes "e" ∷ [];
    }

abbrev dependents_aborted_before_any_listener_setup : Setup
dependents_aborted_before_any_listener_setup =
    record { form = 1; trace = 1; policy = (Rank default_list); fuel = 1000000; until = 10000000; refresh = 60; late = []; latencies = []; arrivals = [] }

dependents_aborted_before_any_listener : page_trace dependents_aborted_before_any_listener_script dependents_aborted_before_any_listener_setup four_hosts ([]) ≡ rows (
    codes "trace 1" ∷
    codes "0 turn 1 dom" ∷
    codes "0 call 1" ∷
    codes "0 reg 2 listener" ∷
    codes "0 reg 3 listener" ∷
    codes "0 abort 1" ∷
    codes "0 abort 2" ∷
    codes "0 call 2" ∷
    codes "0 log true" ∷
    codes "0 ret" ∷
    codes "0 call 3" ∷
    codes "0 log \"d\"" ∷
    codes "0 ret" ∷
    codes "0 log \"why\"" ∷
    codes "0 ret" ∷
    codes "0 end done" ∷
    [])
unfolding page_trace run run_by
dependents_aborted_before_any_listener = refl

--     var c = controller();
--     var s = signal(c);
--     var d = anySignal([s]);
--     fn l(x) { log(aborted(d)); }
--     fn e(x) { log("d"); }
--     listen(s, "abort", l);
--     listen(d, "abort", e);
--     log(reason(anySignal([s, abortedSignal("no")])));
--     abort(c, "why");
--     log(reason(d));
abbrev any_signal_takes_an_aborted_reason_script : Program
any_signal_takes_an_aborted_reason_script =
    record {
      items =
          (StmtItem (VarStmt (named "c") (Call (named "controller") no_exprs))) ∷
          (StmtItem (VarStmt (named "s") (Call (named "signal") (with_expr (Name (named "c")) no_exprs)))) ∷
          (StmtItem (VarStmt (named "d") (Call (named "anySignal") (with_expr (ListLiteral (with_expr (Name (named "s")) no_exprs)) no_exprs)))) ∷
          (FnItem (named "l") ((named "x") ∷ []) (with_stmt (ExprStmt (Call (named "log") (with_expr (Call (named "aborted") (with_expr (Name (named "d")) no_exprs)) no_exprs))) no_stmts)) ∷
          (FnItem (named "e") ((named "x") ∷ []) (with_stmt (ExprStmt (Call (named "log") (with_expr (TextLiteral (codes "d")) no_exprs))) no_stmts)) ∷
          (StmtItem (ExprStmt (Call (named "listen") (with_expr (Name (named "s")) (with_expr (TextLiteral (codes "abort")) (with_expr (Name (named "l")) no_exprs)))))) ∷
          (StmtItem (ExprStmt (Call (named "listen") (with_expr (Name (named "d")) (with_expr (TextLiteral (codes "abort")) (with_expr (Name (named "e")) no_exprs)))))) ∷
          (StmtItem (ExprStmt (Call (named "log") (with_expr (Call (named "reason") (with_expr (Call (named "anySignal") (with_expr (ListLiteral (with_expr (Name (named "s")) (with_expr (Call (named "abortedSignal") (with_expr (TextLiteral (codes "no")) no_exprs)) no_exprs))) no_exprs)) no_exprs)) no_exprs)))) ∷
          (StmtItem (ExprStmt (Call (named "abort") (with_expr (Name (named "c")) (with_expr (TextLiteral (codes "why")) no_exprs))))) ∷
          (StmtItem (ExprStmt (Call (named "log") (with_expr (Call (named "reason") (with_expr (Name (named "d")) no_exprs)) no_exprs)))) ∷
          [];
      names = codes "l" ∷ codes "e" ∷ [];
    }

abbrev any_signal_takes_an_aborted_reason_setup : Setup
any_signal_takes_an_aborted_reason_setup =
    record { form = 1; trace = 1; policy = (Rank default_list); fuel = 1000000; until = 10000000; refresh = 60; late = []; latencies = []; arrivals = [] }

any_signal_takes_an_aborted_reason : logs_of (page_trace any_signal_takes_an_aborted_reason_script any_signal_takes_an_aborted_reason_setup four_hosts ([])) ≡ rows (
    codes "0 \"no\"" ∷
    codes "0 true" ∷
    codes "0 \"d\"" ∷
    codes "0 \"why\"" ∷
    [])
unfolding page_trace run run_by
any_signal_takes_an_aborted_reason = refl
