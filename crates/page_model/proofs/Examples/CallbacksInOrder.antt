-- Worked examples, computed: callbacks in their order.
use Rattle.std.specs.Prelude.{◌≡◌, [], ◌∷◌, pos, codes, refl}
use Rattle.page_types.specs.Values.{IntValue}
use Rattle.page_types.specs.declared.Source.TheVariants.{User}
use Rattle.page_types.specs.Tree.{Number, TextLiteral, UnitLiteral, Name, Call, ListLiteral, no_exprs, with_expr, VarStmt, AssignStmt, ExprStmt, ThrowStmt, no_stmts, with_stmt, FnItem, StmtItem, Program}
use Rattle.page_parts.specs.Setup.{Setup, Fifo, Rank}
use Rattle.page_parts.specs.Sources.{default_list}
use Rattle.page_model.specs.Turns.{run, run_by}
use Rattle.page_model.specs.PageTrace.{page_trace}
use Rattle.page_model.proofs.Examples.Sample.{named, four_hosts, logs_of, rows}

-- Each microtask queues another one. A microtask takes a unit and its callback one more; the unit for the third microtask is missing, so there is no
-- line of it.
--     fn f() { queueMicrotask(f); }
--     f();
abbrev microtasks_end_with_their_fuel_script : Program
microtasks_end_with_their_fuel_script =
    record {
      items =
          (FnItem (named "f") ([]) (with_stmt (ExprStmt (Call (named "queueMicrotask") (with_expr (Name (named "f")) no_exprs))) no_stmts)) ∷
          (StmtItem (ExprStmt (Call (named "f") no_exprs))) ∷
          [];
      names = codes "f" ∷ [];
    }

abbrev microtasks_end_with_their_fuel_setup : Setup
microtasks_end_with_their_fuel_setup =
    record { form = 1; trace = 1; policy = (Rank default_list); fuel = 7; until = 10000000; refresh = 60; late = []; latencies = []; arrivals = [] }

microtasks_end_with_their_fuel : page_trace microtasks_end_with_their_fuel_script microtasks_end_with_their_fuel_setup four_hosts ([]) ≡ rows (
    codes "trace 1" ∷
    codes "0 turn 1 dom" ∷
    codes "0 call 1" ∷
    codes "0 reg 2 micro" ∷
    codes "0 job 1 micro 2" ∷
    codes "0 ret" ∷
    codes "0 run 1" ∷
    codes "0 call 2" ∷
    codes "0 reg 3 micro" ∷
    codes "0 job 2 micro 3" ∷
    codes "0 ret" ∷
    codes "0 run 2" ∷
    codes "0 call 3" ∷
    codes "0 reg 4 micro" ∷
    codes "0 job 3 micro 4" ∷
    codes "0 ret" ∷
    codes "0 end fuel" ∷
    [])
unfolding page_trace run run_by
microtasks_end_with_their_fuel = refl

-- Only a promise of the operation promise may be settled by the script. The throw is reported before the checkpoint, which notifies about the rejection.
--     var p = rejected(1);
--     resolve(p, 2);
abbrev script_may_not_settle_a_promise_it_did_not_make_script : Program
script_may_not_settle_a_promise_it_did_not_make_script =
    record {
      items =
          (StmtItem (VarStmt (named "p") (Call (named "rejected") (with_expr (Number (pos 1)) no_exprs)))) ∷
          (StmtItem (ExprStmt (Call (named "resolve") (with_expr (Name (named "p")) (with_expr (Number (pos 2)) no_exprs))))) ∷
          [];
      names = [];
    }

abbrev script_may_not_settle_a_promise_it_did_not_make_setup : Setup
script_may_not_settle_a_promise_it_did_not_make_setup =
    record { form = 1; trace = 1; policy = (Rank default_list); fuel = 1000000; until = 10000000; refresh = 60; late = []; latencies = []; arrivals = [] }

script_may_not_settle_a_promise_it_did_not_make : page_trace script_may_not_settle_a_promise_it_did_not_make_script script_may_not_settle_a_promise_it_did_not_make_setup four_hosts ([]) ≡ rows (
    codes "trace 1" ∷
    codes "0 turn 1 dom" ∷
    codes "0 call 1" ∷
    codes "0 settle 1 err 1" ∷
    codes "0 throw TypeError(\"\")" ∷
    codes "0 report TypeError(\"\")" ∷
    codes "0 turn 2 dom" ∷
    codes "0 unhandled 1" ∷
    codes "0 end done" ∷
    [])
unfolding page_trace run run_by
script_may_not_settle_a_promise_it_did_not_make = refl

-- The callback of a timer throws. The microtask that it queued runs before the report.
--     fn m() { log("m"); }
--     fn f() { queueMicrotask(m); throw 1; }
--     setTimeout(f, 0);
abbrev throw_of_a_timer_is_reported_after_its_checkpoint_script : Program
throw_of_a_timer_is_reported_after_its_checkpoint_script =
    record {
      items =
          (FnItem (named "m") ([]) (with_stmt (ExprStmt (Call (named "log") (with_expr (TextLiteral (codes "m")) no_exprs))) no_stmts)) ∷
          (FnItem (named "f") ([]) (with_stmt (ExprStmt (Call (named "queueMicrotask") (with_expr (Name (named "m")) no_exprs))) (with_stmt (ThrowStmt (Number (pos 1))) no_stmts))) ∷
          (StmtItem (ExprStmt (Call (named "setTimeout") (with_expr (Name (named "f")) (with_expr (Number (pos 0)) no_exprs))))) ∷
          [];
      names = codes "m" ∷ codes "f" ∷ [];
    }

abbrev throw_of_a_timer_is_reported_after_its_checkpoint_setup : Setup
throw_of_a_timer_is_reported_after_its_checkpoint_setup =
    record { form = 1; trace = 1; policy = (Rank default_list); fuel = 1000000; until = 10000000; refresh = 60; late = []; latencies = []; arrivals = [] }

throw_of_a_timer_is_reported_after_its_checkpoint : page_trace throw_of_a_timer_is_reported_after_its_checkpoint_script throw_of_a_timer_is_reported_after_its_checkpoint_setup four_hosts ([]) ≡ rows (
    codes "trace 1" ∷
    codes "0 turn 1 dom" ∷
    codes "0 call 1" ∷
    codes "0 reg 2 timeout" ∷
    codes "0 arm 2 0 1" ∷
    codes "0 ret" ∷
    codes "0 due 2" ∷
    codes "0 turn 2 timer" ∷
    codes "0 call 2" ∷
    codes "0 reg 3 micro" ∷
    codes "0 job 1 micro 3" ∷
    codes "0 throw 1" ∷
    codes "0 run 1" ∷
    codes "0 call 3" ∷
    codes "0 log \"m\"" ∷
    codes "0 ret" ∷
    codes "0 report 1" ∷
    codes "0 end done" ∷
    [])
unfolding page_trace run run_by
throw_of_a_timer_is_reported_after_its_checkpoint = refl

-- The first of two listeners removes the second, which is then skipped.
--     var c = controller();
--     var s = signal(c);
--     var n = 0;
--     fn b(x) { log("b"); }
--     fn a(x) { unlisten(n); log("a"); }
--     listen(s, "abort", a);
--     n = listen(s, "abort", b);
--     abort(c, unit);
abbrev listener_removed_during_the_dispatch_script : Program
listener_removed_during_the_dispatch_script =
    record {
      items =
          (StmtItem (VarStmt (named "c") (Call (named "controller") no_exprs))) ∷
          (StmtItem (VarStmt (named "s") (Call (named "signal") (with_expr (Name (named "c")) no_exprs)))) ∷
          (StmtItem (VarStmt (named "n") (Number (pos 0)))) ∷
          (FnItem (named "b") ((named "x") ∷ []) (with_stmt (ExprStmt (Call (named "log") (with_expr (TextLiteral (codes "b")) no_exprs))) no_stmts)) ∷
          (FnItem (named "a") ((named "x") ∷ []) (with_stmt (ExprStmt (Call (named "unlisten") (with_expr (Name (named "n")) no_exprs))) (with_stmt (ExprStmt (Call (named "log") (with_expr (TextLiteral (codes "a")) no_exprs))) no_stmts))) ∷
          (StmtItem (ExprStmt (Call (named "listen") (with_expr (Name (named "s")) (with_expr (TextLiteral (codes "abort")) (with_expr (Name (named "a")) no_exprs)))))) ∷
          (StmtItem (AssignStmt (named "n") (Call (named "listen") (with_expr (Name (named "s")) (with_expr (TextLiteral (codes "abort")) (with_expr (Name (named "b")) no_exprs)))))) ∷
          (StmtItem (ExprStmt (Call (named "abort") (with_expr (Name (named "c")) (with_expr UnitLiteral no_exprs))))) ∷
          [];
      names = codes "b" ∷ codes "a" ∷ [];
    }

abbrev listener_removed_during_the_dispatch_setup : Setup
listener_removed_during_the_dispatch_setup =
    record { form = 1; trace = 1; policy = (Rank default_list); fuel = 1000000; until = 10000000; refresh = 60; late = []; latencies = []; arrivals = [] }

listener_removed_during_the_dispatch : page_trace listener_removed_during_the_dispatch_script listener_removed_during_the_dispatch_setup four_hosts ([]) ≡ rows (
    codes "trace 1" ∷
    codes "0 turn 1 dom" ∷
    codes "0 call 1" ∷
    codes "0 reg 2 listener" ∷
    codes "0 reg 3 listener" ∷
    codes "0 abort 1" ∷
    codes "0 call 2" ∷
    codes "0 drop 3" ∷
    codes "0 log \"a\"" ∷
    codes "0 ret" ∷
    codes "0 ret" ∷
    codes "0 end done" ∷
    [])
unfolding page_trace run run_by
listener_removed_during_the_dispatch = refl

-- A listener aborts another controller: all of that abort happens inside the listener.
--     var c = controller();
--     var d = controller();
--     fn q(x) { log("q"); }
--     fn p(x) { log("p"); abort(d, unit); log("r"); }
--     listen(signal(c), "abort", p);
--     listen(signal(d), "abort", q);
--     abort(c, unit);
abbrev abort_inside_a_listener_of_another_abort_script : Program
abort_inside_a_listener_of_another_abort_script =
    record {
      items =
          (StmtItem (VarStmt (named "c") (Call (named "controller") no_exprs))) ∷
          (StmtItem (VarStmt (named "d") (Call (named "controller") no_exprs))) ∷
          (FnItem (named "q") ((named "x") ∷ []) (with_stmt (ExprStmt (Call (named "log") (with_expr (TextLiteral (codes "q")) no_exprs))) no_stmts)) ∷
          (FnItem (named "p") ((named "x") ∷ []) (with_stmt (ExprStmt (Call (named "log") (with_expr (TextLiteral (codes "p")) no_exprs))) (with_stmt (ExprStmt (Call (named "abort") (with_expr (Name (named "d")) (with_expr UnitLiteral no_exprs)))) (with_stmt (ExprStmt (Call (named "log") (with_expr (TextLiteral (codes "r")) no_exprs))) no_stmts)))) ∷
          (StmtItem (ExprStmt (Call (named "listen") (with_expr (Call (named "signal") (with_expr (Name (named "c")) no_exprs)) (with_expr (TextLiteral (codes "abort")) (with_expr (Name (named "p")) no_exprs)))))) ∷
          (StmtItem (ExprStmt (Call (named "listen") (with_expr (Call (named "signal") (with_expr (Name (named "d")) no_exprs)) (with_expr (TextLiteral (codes "abort")) (with_expr (Name (named "q")) no_exprs)))))) ∷
          (StmtItem (ExprStmt (Call (named "abort") (with_expr (Name (named "c")) (with_expr UnitLiteral no_exprs))))) ∷
          [];
      names = codes "q" ∷ codes "p" ∷ [];
    }

abbrev abort_inside_a_listener_of_another_abort_setup : Setup
abort_inside_a_listener_of_another_abort_setup =
    record { form = 1; trace = 1; policy = (Rank default_list); fuel = 1000000; until = 10000000; refresh = 60; late = []; latencies = []; arrivals = [] }

abort_inside_a_listener_of_another_abort : page_trace abort_inside_a_listener_of_another_abort_script abort_inside_a_listener_of_another_abort_setup four_hosts ([]) ≡ rows (
    codes "trace 1" ∷
    codes "0 turn 1 dom" ∷
    codes "0 call 1" ∷
    codes "0 reg 2 listener" ∷
    codes "0 reg 3 listener" ∷
    codes "0 abort 1" ∷
    codes "0 call 2" ∷
    codes "0 log \"p\"" ∷
    codes "0 abort 2" ∷
    codes "0 call 3" ∷
    codes "0 log \"q\"" ∷
    codes "0 ret" ∷
    codes "0 log \"r\"" ∷
    codes "0 ret" ∷
    codes "0 ret" ∷
    codes "0 end done" ∷
    [])
unfolding page_trace run run_by
abort_inside_a_listener_of_another_abort = refl

-- A waiting frame shortens the idle period to 16666. The idle callback overstays it, so the opportunity at 16666 is taken at 60000, which is also the
-- timestamp.
--     fn f(d) { log(timeRemaining(d)); busy(60000); }
--     fn g(t) { log(t); }
--     requestIdleCallback(f, 0);
--     requestAnimationFrame(g);
abbrev missed_rendering_opportunity_is_taken_late_script : Program
missed_rendering_opportunity_is_taken_late_script =
    record {
      items =
          (FnItem (named "f") ((named "d") ∷ []) (with_stmt (ExprStmt (Call (named "log") (with_expr (Call (named "timeRemaining") (with_expr (Name (named "d")) no_exprs)) no_exprs))) (with_stmt (ExprStmt (Call (named "busy") (with_expr (Number (pos 60000)) no_exprs))) no_stmts))) ∷
          (FnItem (named "g") ((named "t") ∷ []) (with_stmt (ExprStmt (Call (named "log") (with_expr (Name (named "t")) no_exprs))) no_stmts)) ∷
          (StmtItem (ExprStmt (Call (named "requestIdleCallback") (with_expr (Name (named "f")) (with_expr (Number (pos 0)) no_exprs))))) ∷
          (StmtItem (ExprStmt (Call (named "requestAnimationFrame") (with_expr (Name (named "g")) no_exprs)))) ∷
          [];
      names = codes "f" ∷ codes "g" ∷ [];
    }

abbrev missed_rendering_opportunity_is_taken_late_setup : Setup
missed_rendering_opportunity_is_taken_late_setup =
    record { form = 1; trace = 1; policy = (Rank default_list); fuel = 1000000; until = 10000000; refresh = 60; late = []; latencies = []; arrivals = [] }

missed_rendering_opportunity_is_taken_late : page_trace missed_rendering_opportunity_is_taken_late_script missed_rendering_opportunity_is_taken_late_setup four_hosts ([]) ≡ rows (
    codes "trace 1" ∷
    codes "0 turn 1 dom" ∷
    codes "0 call 1" ∷
    codes "0 reg 2 idle" ∷
    codes "0 reg 3 frame" ∷
    codes "0 ret" ∷
    codes "0 period 16666" ∷
    codes "0 turn 2 idle" ∷
    codes "0 idle 16666" ∷
    codes "0 call 2" ∷
    codes "0 log 16666" ∷
    codes "60000 ret" ∷
    codes "60000 turn 3 render" ∷
    codes "60000 frame 60000" ∷
    codes "60000 call 3" ∷
    codes "60000 log 60000" ∷
    codes "60000 ret" ∷
    codes "60000 end done" ∷
    [])
unfolding page_trace run run_by
missed_rendering_opportunity_is_taken_late = refl

-- A delayed task takes its place behind one that was posted later but enqueued before its delay was over.
--     fn a() { log("a"); }
--     fn b() { log("b"); }
--     postTask(a, unit, unit, 1);
--     busy(2000);
--     postTask(b, unit, unit, 0);
abbrev delayed_task_takes_its_order_when_it_is_enqueued_script : Program
delayed_task_takes_its_order_when_it_is_enqueued_script =
    record {
      items =
          (FnItem (named "a") ([]) (with_stmt (ExprStmt (Call (named "log") (with_expr (TextLiteral (codes "a")) no_exprs))) no_stmts)) ∷
          (FnItem (named "b") ([]) (with_stmt (ExprStmt (Call (named "log") (with_expr (TextLiteral (codes "b")) no_exprs))) no_stmts)) ∷
          (StmtItem (ExprStmt (Call (named "postTask") (with_expr (Name (named "a")) (with_expr UnitLiteral (with_expr UnitLiteral (with_expr (Number (pos 1)) no_exprs))))))) ∷
          (StmtItem (ExprStmt (Call (named "busy") (with_expr (Number (pos 2000)) no_exprs)))) ∷
          (StmtItem (ExprStmt (Call (named "postTask") (with_expr (Name (named "b")) (with_expr UnitLiteral (with_expr UnitLiteral (with_expr (Number (pos 0)) no_exprs))))))) ∷
          [];
      names = codes "a" ∷ codes "b" ∷ [];
    }

abbrev delayed_task_takes_its_order_when_it_is_enqueued_setup : Setup
delayed_task_takes_its_order_when_it_is_enqueued_setup =
    record { form = 1; trace = 1; policy = (Rank default_list); fuel = 1000000; until = 10000000; refresh = 60; late = []; latencies = []; arrivals = [] }

delayed_task_takes_its_order_when_it_is_enqueued : page_trace delayed_task_takes_its_order_when_it_is_enqueued_script delayed_task_takes_its_order_when_it_is_enqueued_setup four_hosts ([]) ≡ rows (
    codes "trace 1" ∷
    codes "0 turn 1 dom" ∷
    codes "0 call 1" ∷
    codes "0 reg 2 post" ∷
    codes "0 arm 2 1000 0" ∷
    codes "2000 reg 3 post" ∷
    codes "2000 enq 3 user-visible task 2" ∷
    codes "2000 ret" ∷
    codes "2000 due 2" ∷
    codes "2000 enq 2 user-visible task 3" ∷
    codes "2000 turn 2 sched" ∷
    codes "2000 call 3" ∷
    codes "2000 log \"b\"" ∷
    codes "2000 ret" ∷
    codes "2000 settle 2 ok unit" ∷
    codes "2000 turn 3 sched" ∷
    codes "2000 call 2" ∷
    codes "2000 log \"a\"" ∷
    codes "2000 ret" ∷
    codes "2000 settle 1 ok unit" ∷
    codes "2000 end done" ∷
    [])
unfolding page_trace run run_by
delayed_task_takes_its_order_when_it_is_enqueued = refl

-- A timer that a microtask sets has nesting level 1 each time, so none is clamped, and the run ends with its fuel at time 0.
--     fn g() { log(now()); setTimeout(f, 0); }
--     fn f() { queueMicrotask(g); }
--     setTimeout(f, 0);
abbrev nesting_level_is_lost_in_a_microtask_script : Program
nesting_level_is_lost_in_a_microtask_script =
    record {
      items =
          (FnItem (named "g") ([]) (with_stmt (ExprStmt (Call (named "log") (with_expr (Call (named "now") no_exprs) no_exprs))) (with_stmt (ExprStmt (Call (named "setTimeout") (with_expr (Name (named "f")) (with_expr (Number (pos 0)) no_exprs)))) no_stmts))) ∷
          (FnItem (named "f") ([]) (with_stmt (ExprStmt (Call (named "queueMicrotask") (with_expr (Name (named "g")) no_exprs))) no_stmts)) ∷
          (StmtItem (ExprStmt (Call (named "setTimeout") (with_expr (Name (named "f")) (with_expr (Number (pos 0)) no_exprs))))) ∷
          [];
      names = codes "g" ∷ codes "f" ∷ [];
    }

abbrev nesting_level_is_lost_in_a_microtask_setup : Setup
nesting_level_is_lost_in_a_microtask_setup =
    record { form = 1; trace = 1; policy = (Rank default_list); fuel = 30; until = 10000000; refresh = 60; late = []; latencies = []; arrivals = [] }

nesting_level_is_lost_in_a_microtask : logs_of (page_trace nesting_level_is_lost_in_a_microtask_script nesting_level_is_lost_in_a_microtask_setup four_hosts ([])) ≡ rows (
    codes "0 0" ∷
    codes "0 0" ∷
    codes "0 0" ∷
    codes "0 0" ∷
    codes "0 0" ∷
    codes "0 0" ∷
    codes "0 0" ∷
    [])
unfolding page_trace run run_by
nesting_level_is_lost_in_a_microtask = refl

-- A callback of queueMicrotask has no scheduling state, so its continuation is user-visible though the task is a background one; it goes before the
-- other user-visible task.
--     fn y(v) { log("y"); }
--     fn m() { then(yieldTask(), y, unit); }
--     fn b() { log("b"); }
--     fn a() { queueMicrotask(m); postTask(b, "user-visible", unit, 0); }
--     postTask(a, "background", unit, 0);
abbrev microtask_yields_without_a_priority_script : Program
microtask_yields_without_a_priority_script =
    record {
      items =
          (FnItem (named "y") ((named "v") ∷ []) (with_stmt (ExprStmt (Call (named "log") (with_expr (TextLiteral (codes "y")) no_exprs))) no_stmts)) ∷
          (FnItem (named "m") ([]) (with_stmt (ExprStmt (Call (named "then") (with_expr (Call (named "yieldTask") no_exprs) (with_expr (Name (named "y")) (with_expr UnitLiteral no_exprs))))) no_stmts)) ∷
          (FnItem (named "b") ([]) (with_stmt (ExprStmt (Call (named "log") (with_expr (TextLiteral (codes "b")) no_exprs))) no_stmts)) ∷
          (FnItem (named "a") ([]) (with_stmt (ExprStmt (Call (named "queueMicrotask") (with_expr (Name (named "m")) no_exprs))) (with_stmt (ExprStmt (Call (named "postTask") (with_expr (Name (named "b")) (with_expr (TextLiteral (codes "user-visible")) (with_expr UnitLiteral (with_expr (Number (pos 0)) no_exprs)))))) no_stmts))) ∷
          (StmtItem (ExprStmt (Call (named "postTask") (with_expr (Name (named "a")) (with_expr (TextLiteral (codes "background")) (with_expr UnitLiteral (with_expr (Number (pos 0)) no_exprs))))))) ∷
          [];
      names = codes "y" ∷ codes "m" ∷ codes "b" ∷ codes "a" ∷ [];
    }

abbrev microtask_yields_without_a_priority_setup : Setup
microtask_yields_without_a_priority_setup =
    record { form = 1; trace = 1; policy = (Rank default_list); fuel = 1000000; until = 10000000; refresh = 60; late = []; latencies = []; arrivals = [] }

microtask_yields_without_a_priority : logs_of (page_trace microtask_yields_without_a_priority_script microtask_yields_without_a_priority_setup four_hosts ([])) ≡ rows (
    codes "0 \"y\"" ∷
    codes "0 \"b\"" ∷
    [])
unfolding page_trace run run_by
microtask_yields_without_a_priority = refl

-- Each callback sets the next timer, one level deeper. From level 6 on a timeout is 4 milliseconds at least. The last one is due after the end of the
-- run.
--     fn f() { log(now()); setTimeout(f, 0); }
--     setTimeout(f, 0);
abbrev timeouts_clamped_line_by_line_script : Program
timeouts_clamped_line_by_line_script =
    record {
      items =
          (FnItem (named "f") ([]) (with_stmt (ExprStmt (Call (named "log") (with_expr (Call (named "now") no_exprs) no_exprs))) (with_stmt (ExprStmt (Call (named "setTimeout") (with_expr (Name (named "f")) (with_expr (Number (pos 0)) no_exprs)))) no_stmts))) ∷
          (StmtItem (ExprStmt (Call (named "setTimeout") (with_expr (Name (named "f")) (with_expr (Number (pos 0)) no_exprs))))) ∷
          [];
      names = codes "f" ∷ [];
    }

abbrev timeouts_clamped_line_by_line_setup : Setup
timeouts_clamped_line_by_line_setup =
    record { form = 1; trace = 1; policy = (Rank default_list); fuel = 1000000; until = 10000; refresh = 60; late = []; latencies = []; arrivals = [] }

timeouts_clamped_line_by_line : page_trace timeouts_clamped_line_by_line_script timeouts_clamped_line_by_line_setup four_hosts ([]) ≡ rows (
    codes "trace 1" ∷
    codes "0 turn 1 dom" ∷
    codes "0 call 1" ∷
    codes "0 reg 2 timeout" ∷
    codes "0 arm 2 0 1" ∷
    codes "0 ret" ∷
    codes "0 due 2" ∷
    codes "0 turn 2 timer" ∷
    codes "0 call 2" ∷
    codes "0 log 0" ∷
    codes "0 reg 3 timeout" ∷
    codes "0 arm 3 0 2" ∷
    codes "0 ret" ∷
    codes "0 due 3" ∷
    codes "0 turn 3 timer" ∷
    codes "0 call 3" ∷
    codes "0 log 0" ∷
    codes "0 reg 4 timeout" ∷
    codes "0 arm 4 0 3" ∷
    codes "0 ret" ∷
    codes "0 due 4" ∷
    codes "0 turn 4 timer" ∷
    codes "0 call 4" ∷
    codes "0 log 0" ∷
    codes "0 reg 5 timeout" ∷
    codes "0 arm 5 0 4" ∷
    codes "0 ret" ∷
    codes "0 due 5" ∷
    codes "0 turn 5 timer" ∷
    codes "0 call 5" ∷
    codes "0 log 0" ∷
    codes "0 reg 6 timeout" ∷
    codes "0 arm 6 0 5" ∷
    codes "0 ret" ∷
    codes "0 due 6" ∷
    codes "0 turn 6 timer" ∷
    codes "0 call 6" ∷
    codes "0 log 0" ∷
    codes "0 reg 7 timeout" ∷
    codes "0 arm 7 0 6" ∷
    codes "0 ret" ∷
    codes "0 due 7" ∷
    codes "0 turn 7 timer" ∷
    codes "0 call 7" ∷
    codes "0 log 0" ∷
    codes "0 reg 8 timeout" ∷
    codes "0 arm 8 4000 7" ∷
    codes "0 ret" ∷
    codes "4000 wait 4000" ∷
    codes "4000 due 8" ∷
    codes "4000 turn 8 timer" ∷
    codes "4000 call 8" ∷
    codes "4000 log 4000" ∷
    codes "4000 reg 9 timeout" ∷
    codes "4000 arm 9 8000 8" ∷
    codes "4000 ret" ∷
    codes "8000 wait 8000" ∷
    codes "8000 due 9" ∷
    codes "8000 turn 9 timer" ∷
    codes "8000 call 9" ∷
    codes "8000 log 8000" ∷
    codes "8000 reg 10 timeout" ∷
    codes "8000 arm 10 12000 9" ∷
    codes "8000 ret" ∷
    codes "10000 end clock" ∷
    [])
unfolding page_trace run run_by
timeouts_clamped_line_by_line = refl

-- An interval is initialised again by its own task, one level deeper each time, so it is clamped after its sixth call.
--     fn f() { log(now()); }
--     setInterval(f, 0);
abbrev interval_clamped_line_by_line_script : Program
interval_clamped_line_by_line_script =
    record {
      items =
          (FnItem (named "f") ([]) (with_stmt (ExprStmt (Call (named "log") (with_expr (Call (named "now") no_exprs) no_exprs))) no_stmts)) ∷
          (StmtItem (ExprStmt (Call (named "setInterval") (with_expr (Name (named "f")) (with_expr (Number (pos 0)) no_exprs))))) ∷
          [];
      names = codes "f" ∷ [];
    }

abbrev interval_clamped_line_by_line_setup : Setup
interval_clamped_line_by_line_setup =
    record { form = 1; trace = 1; policy = (Rank default_list); fuel = 1000000; until = 10000; refresh = 60; late = []; latencies = []; arrivals = [] }

interval_clamped_line_by_line : page_trace interval_clamped_line_by_line_script interval_clamped_line_by_line_setup four_hosts ([]) ≡ rows (
    codes "trace 1" ∷
    codes "0 turn 1 dom" ∷
    codes "0 call 1" ∷
    codes "0 reg 2 interval" ∷
    codes "0 arm 2 0 1" ∷
    codes "0 ret" ∷
    codes "0 due 2" ∷
    codes "0 turn 2 timer" ∷
    codes "0 call 2" ∷
    codes "0 log 0" ∷
    codes "0 ret" ∷
    codes "0 arm 2 0 2" ∷
    codes "0 due 2" ∷
    codes "0 turn 3 timer" ∷
    codes "0 call 2" ∷
    codes "0 log 0" ∷
    codes "0 ret" ∷
    codes "0 arm 2 0 3" ∷
    codes "0 due 2" ∷
    codes "0 turn 4 timer" ∷
    codes "0 call 2" ∷
    codes "0 log 0" ∷
    codes "0 ret" ∷
    codes "0 arm 2 0 4" ∷
    codes "0 due 2" ∷
    codes "0 turn 5 timer" ∷
    codes "0 call 2" ∷
    codes "0 log 0" ∷
    codes "0 ret" ∷
    codes "0 arm 2 0 5" ∷
    codes "0 due 2" ∷
    codes "0 turn 6 timer" ∷
    codes "0 call 2" ∷
    codes "0 log 0" ∷
    codes "0 ret" ∷
    codes "0 arm 2 0 6" ∷
    codes "0 due 2" ∷
    codes "0 turn 7 timer" ∷
    codes "0 call 2" ∷
    codes "0 log 0" ∷
    codes "0 ret" ∷
    codes "0 arm 2 4000 7" ∷
    codes "4000 wait 4000" ∷
    codes "4000 due 2" ∷
    codes "4000 turn 8 timer" ∷
    codes "4000 call 2" ∷
    codes "4000 log 4000" ∷
    codes "4000 ret" ∷
    codes "4000 arm 2 8000 8" ∷
    codes "8000 wait 8000" ∷
    codes "8000 due 2" ∷
    codes "8000 turn 9 timer" ∷
    codes "8000 call 2" ∷
    codes "8000 log 8000" ∷
    codes "8000 ret" ∷
    codes "8000 arm 2 12000 9" ∷
    codes "10000 end clock" ∷
    [])
unfolding page_trace run run_by
interval_clamped_line_by_line = refl

-- The throw of the script is reported at once, and its microtask runs after that.
--     fn m() { log("m"); }
--     queueMicrotask(m);
--     throw "bad";
abbrev throw_of_the_script_is_reported_before_its_checkpoint_script : Program
throw_of_the_script_is_reported_before_its_checkpoint_script =
    record {
      items =
          (FnItem (named "m") ([]) (with_stmt (ExprStmt (Call (named "log") (with_expr (TextLiteral (codes "m")) no_exprs))) no_stmts)) ∷
          (StmtItem (ExprStmt (Call (named "queueMicrotask") (with_expr (Name (named "m")) no_exprs)))) ∷
          (StmtItem (ThrowStmt (TextLiteral (codes "bad")))) ∷
          [];
      names = codes "m" ∷ [];
    }

abbrev throw_of_the_script_is_reported_before_its_checkpoint_setup : Setup
throw_of_the_script_is_reported_before_its_checkpoint_setup =
    record { form = 1; trace = 1; policy = (Rank default_list); fuel = 1000000; until = 10000000; refresh = 60; late = []; latencies = []; arrivals = [] }

throw_of_the_script_is_reported_before_its_checkpoint : page_trace throw_of_the_script_is_reported_before_its_checkpoint_script throw_of_the_script_is_reported_before_its_checkpoint_setup four_hosts ([]) ≡ rows (
    codes "trace 1" ∷
    codes "0 turn 1 dom" ∷
    codes "0 call 1" ∷
    codes "0 reg 2 micro" ∷
    codes "0 job 1 micro 2" ∷
    codes "0 throw \"bad\"" ∷
    codes "0 report \"bad\"" ∷
    codes "0 run 1" ∷
    codes "0 call 2" ∷
    codes "0 log \"m\"" ∷
    codes "0 ret" ∷
    codes "0 end done" ∷
    [])
unfolding page_trace run run_by
throw_of_the_script_is_reported_before_its_checkpoint = refl

-- A microtask throws while the checkpoint is being performed: it is reported at once, and the microtask that it queued comes next.
--     fn n() { log("n"); }
--     fn m() { queueMicrotask(n); throw 1; }
--     queueMicrotask(m);
abbrev throw_of_a_microtask_script : Program
throw_of_a_microtask_script =
    record {
      items =
          (FnItem (named "n") ([]) (with_stmt (ExprStmt (Call (named "log") (with_expr (TextLiteral (codes "n")) no_exprs))) no_stmts)) ∷
          (FnItem (named "m") ([]) (with_stmt (ExprStmt (Call (named "queueMicrotask") (with_expr (Name (named "n")) no_exprs))) (with_stmt (ThrowStmt (Number (pos 1))) no_stmts))) ∷
          (StmtItem (ExprStmt (Call (named "queueMicrotask") (with_expr (Name (named "m")) no_exprs)))) ∷
          [];
      names = codes "n" ∷ codes "m" ∷ [];
    }

abbrev throw_of_a_microtask_setup : Setup
throw_of_a_microtask_setup =
    record { form = 1; trace = 1; policy = (Rank default_list); fuel = 1000000; until = 10000000; refresh = 60; late = []; latencies = []; arrivals = [] }

throw_of_a_microtask : page_trace throw_of_a_microtask_script throw_of_a_microtask_setup four_hosts ([]) ≡ rows (
    codes "trace 1" ∷
    codes "0 turn 1 dom" ∷
    codes "0 call 1" ∷
    codes "0 reg 2 micro" ∷
    codes "0 job 1 micro 2" ∷
    codes "0 ret" ∷
    codes "0 run 1" ∷
    codes "0 call 2" ∷
    codes "0 reg 3 micro" ∷
    codes "0 job 2 micro 3" ∷
    codes "0 throw 1" ∷
    codes "0 report 1" ∷
    codes "0 run 2" ∷
    codes "0 call 3" ∷
    codes "0 log \"n\"" ∷
    codes "0 ret" ∷
    codes "0 end done" ∷
    [])
unfolding page_trace run run_by
throw_of_a_microtask = refl

-- A posted callback throws: nothing is reported, and its promise is rejected after the checkpoint of the callback. The handler runs in the checkpoint of
-- the task.
--     fn m() { log("m"); }
--     fn a() { queueMicrotask(m); throw "a"; }
--     fn g(r) { log(r); }
--     then(postTask(a, unit, unit, 0), unit, g);
abbrev throw_of_a_posted_callback_script : Program
throw_of_a_posted_callback_script =
    record {
      items =
          (FnItem (named "m") ([]) (with_stmt (ExprStmt (Call (named "log") (with_expr (TextLiteral (codes "m")) no_exprs))) no_stmts)) ∷
          (FnItem (named "a") ([]) (with_stmt (ExprStmt (Call (named "queueMicrotask") (with_expr (Name (named "m")) no_exprs))) (with_stmt (ThrowStmt (TextLiteral (codes "a"))) no_stmts))) ∷
          (FnItem (named "g") ((named "r") ∷ []) (with_stmt (ExprStmt (Call (named "log") (with_expr (Name (named "r")) no_exprs))) no_stmts)) ∷
          (StmtItem (ExprStmt (Call (named "then") (with_expr (Call (named "postTask") (with_expr (Name (named "a")) (with_expr UnitLiteral (with_expr UnitLiteral (with_expr (Number (pos 0)) no_exprs))))) (with_expr UnitLiteral (with_expr (Name (named "g")) no_exprs)))))) ∷
          [];
      names = codes "m" ∷ codes "a" ∷ codes "g" ∷ [];
    }

abbrev throw_of_a_posted_callback_setup : Setup
throw_of_a_posted_callback_setup =
    record { form = 1; trace = 1; policy = (Rank default_list); fuel = 1000000; until = 10000000; refresh = 60; late = []; latencies = []; arrivals = [] }

throw_of_a_posted_callback : page_trace throw_of_a_posted_callback_script throw_of_a_posted_callback_setup four_hosts ([]) ≡ rows (
    codes "trace 1" ∷
    codes "0 turn 1 dom" ∷
    codes "0 call 1" ∷
    codes "0 reg 2 post" ∷
    codes "0 enq 2 user-visible task 2" ∷
    codes "0 reg 3 then" ∷
    codes "0 ret" ∷
    codes "0 turn 2 sched" ∷
    codes "0 call 2" ∷
    codes "0 reg 4 micro" ∷
    codes "0 job 1 micro 4" ∷
    codes "0 throw \"a\"" ∷
    codes "0 run 1" ∷
    codes "0 call 4" ∷
    codes "0 log \"m\"" ∷
    codes "0 ret" ∷
    codes "0 settle 1 err \"a\"" ∷
    codes "0 job 2 react 1" ∷
    codes "0 run 2" ∷
    codes "0 call 3" ∷
    codes "0 log \"a\"" ∷
    codes "0 ret" ∷
    codes "0 settle 2 ok unit" ∷
    codes "0 end done" ∷
    [])
unfolding page_trace run run_by
throw_of_a_posted_callback = refl

-- Bound arguments come before those that a callback gets. A parameter without one is unit, and surplus ones are dropped. An arrival is taken before a
-- timer that is due with it.
--     fn f(a, b) { log(a); log(b); }
--     listen(unit, "e", bind(f, ["x"]));
--     setTimeout(bind(f, [1, 2, 3]), 0);
--     setTimeout(f, 0);
abbrev bound_arguments_of_callbacks_script : Program
bound_arguments_of_callbacks_script =
    record {
      items =
          (FnItem (named "f") ((named "a") ∷ (named "b") ∷ []) (with_stmt (ExprStmt (Call (named "log") (with_expr (Name (named "a")) no_exprs))) (with_stmt (ExprStmt (Call (named "log") (with_expr (Name (named "b")) no_exprs))) no_stmts))) ∷
          (StmtItem (ExprStmt (Call (named "listen") (with_expr UnitLiteral (with_expr (TextLiteral (codes "e")) (with_expr (Call (named "bind") (with_expr (Name (named "f")) (with_expr (ListLiteral (with_expr (TextLiteral (codes "x")) no_exprs)) no_exprs))) no_exprs)))))) ∷
          (StmtItem (ExprStmt (Call (named "setTimeout") (with_expr (Call (named "bind") (with_expr (Name (named "f")) (with_expr (ListLiteral (with_expr (Number (pos 1)) (with_expr (Number (pos 2)) (with_expr (Number (pos 3)) no_exprs)))) no_exprs))) (with_expr (Number (pos 0)) no_exprs))))) ∷
          (StmtItem (ExprStmt (Call (named "setTimeout") (with_expr (Name (named "f")) (with_expr (Number (pos 0)) no_exprs))))) ∷
          [];
      names = codes "f" ∷ [];
    }

abbrev bound_arguments_of_callbacks_setup : Setup
bound_arguments_of_callbacks_setup =
    record { form = 1; trace = 1; policy = Fifo; fuel = 1000000; until = 10000000; refresh = 60; late = []; latencies = []; arrivals = record { at = 0; source = User; name = codes "e"; value = (IntValue (pos 5)) } ∷ [] }

bound_arguments_of_callbacks : page_trace bound_arguments_of_callbacks_script bound_arguments_of_callbacks_setup four_hosts ([]) ≡ rows (
    codes "trace 1" ∷
    codes "0 turn 1 dom" ∷
    codes "0 call 1" ∷
    codes "0 reg 2 listener" ∷
    codes "0 reg 3 timeout" ∷
    codes "0 arm 3 0 1" ∷
    codes "0 reg 4 timeout" ∷
    codes "0 arm 4 0 1" ∷
    codes "0 ret" ∷
    codes "0 due 3" ∷
    codes "0 due 4" ∷
    codes "0 turn 2 user" ∷
    codes "0 call 2" ∷
    codes "0 log \"x\"" ∷
    codes "0 log 5" ∷
    codes "0 ret" ∷
    codes "0 turn 3 timer" ∷
    codes "0 call 3" ∷
    codes "0 log 1" ∷
    codes "0 log 2" ∷
    codes "0 ret" ∷
    codes "0 turn 4 timer" ∷
    codes "0 call 4" ∷
    codes "0 log unit" ∷
    codes "0 log unit" ∷
    codes "0 ret" ∷
    codes "0 end done" ∷
    [])
unfolding page_trace run run_by
bound_arguments_of_callbacks = refl
