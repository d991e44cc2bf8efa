-- Worked examples, computed: timers, host closures and timeouts together.
use Rattle.std.specs.Prelude.{◌≡◌, [], ◌∷◌, Ok, Err, pos, codes, refl}
use Rattle.page_types.specs.declared.CompareSign.TheVariants.{Equals}
use Rattle.page_types.specs.Tree.{Compare, Sum, Number, TextLiteral, UnitLiteral, Name, Call, no_exprs, with_expr, no_terms, with_term, VarStmt, AssignStmt, ExprStmt, IfStmt, ThrowStmt, no_stmts, with_stmt, no_else_ifs, no_else, FnItem, StmtItem, Program}
use Rattle.page_types.specs.declared.SumSign.TheVariants.{Plus}
use Rattle.page_parts.specs.Setup.{Setup, Fifo, Rank}
use Rattle.page_parts.specs.Sources.{default_list}
use Rattle.page_model.specs.Turns.{run, run_by}
use Rattle.page_model.specs.PageTrace.{page_trace}
use Rattle.page_model.proofs.Examples.Sample.{named, four_hosts, rows}

-- An interval that its own callback clears is not initialised again; clearing it twice writes one line.
--     var n = 0;
--     var id = 0;
--     fn f() { n = n + 1; log(n); if (n == 2) { clearInterval(id); clearInterval(id); } }
--     id = setInterval(f, 5);
abbrev interval_cleared_by_its_own_callback_script : Program
interval_cleared_by_its_own_callback_script =
    record {
      items =
          (StmtItem (VarStmt (named "n") (Number (pos 0)))) ∷
          (StmtItem (VarStmt (named "id") (Number (pos 0)))) ∷
          (FnItem (named "f") ([]) (with_stmt (AssignStmt (named "n") (Sum (Name (named "n")) (with_term Plus (Number (pos 1)) no_terms))) (with_stmt (ExprStmt (Call (named "log") (with_expr (Name (named "n")) no_exprs))) (with_stmt (IfStmt (Compare (Name (named "n")) Equals (Number (pos 2))) (with_stmt (ExprStmt (Call (named "clearInterval") (with_expr (Name (named "id")) no_exprs))) (with_stmt (ExprStmt (Call (named "clearInterval") (with_expr (Name (named "id")) no_exprs))) no_stmts)) no_else_ifs no_else) no_stmts)))) ∷
          (StmtItem (AssignStmt (named "id") (Call (named "setInterval") (with_expr (Name (named "f")) (with_expr (Number (pos 5)) no_exprs))))) ∷
          [];
      names = codes "f" ∷ [];
    }

abbrev interval_cleared_by_its_own_callback_setup : Setup
interval_cleared_by_its_own_callback_setup =
    record { form = 1; trace = 1; policy = (Rank default_list); fuel = 1000000; until = 10000000; refresh = 60; late = []; latencies = []; arrivals = [] }

interval_cleared_by_its_own_callback : page_trace interval_cleared_by_its_own_callback_script interval_cleared_by_its_own_callback_setup four_hosts ([]) ≡ rows (
    codes "trace 1" ∷
    codes "0 turn 1 dom" ∷
    codes "0 call 1" ∷
    codes "0 reg 2 interval" ∷
    codes "0 arm 2 5000 1" ∷
    codes "0 ret" ∷
    codes "5000 wait 5000" ∷
    codes "5000 due 2" ∷
    codes "5000 turn 2 timer" ∷
    codes "5000 call 2" ∷
    codes "5000 log 1" ∷
    codes "5000 ret" ∷
    codes "5000 arm 2 10000 2" ∷
    codes "10000 wait 10000" ∷
    codes "10000 due 2" ∷
    codes "10000 turn 3 timer" ∷
    codes "10000 call 2" ∷
    codes "10000 log 2" ∷
    codes "10000 drop 2" ∷
    codes "10000 ret" ∷
    codes "10000 end done" ∷
    [])
unfolding page_trace run run_by
interval_cleared_by_its_own_callback = refl

-- The second test of a timer's task comes after the checkpoint of its callback, so a microtask can still clear the interval.
--     fn m() { clearInterval(1); log("m"); }
--     fn f() { queueMicrotask(m); log("f"); }
--     setInterval(f, 1);
abbrev interval_cleared_by_a_microtask_script : Program
interval_cleared_by_a_microtask_script =
    record {
      items =
          (FnItem (named "m") ([]) (with_stmt (ExprStmt (Call (named "clearInterval") (with_expr (Number (pos 1)) no_exprs))) (with_stmt (ExprStmt (Call (named "log") (with_expr (TextLiteral (codes "m")) no_exprs))) no_stmts))) ∷
          (FnItem (named "f") ([]) (with_stmt (ExprStmt (Call (named "queueMicrotask") (with_expr (Name (named "m")) no_exprs))) (with_stmt (ExprStmt (Call (named "log") (with_expr (TextLiteral (codes "f")) no_exprs))) no_stmts))) ∷
          (StmtItem (ExprStmt (Call (named "setInterval") (with_expr (Name (named "f")) (with_expr (Number (pos 1)) no_exprs))))) ∷
          [];
      names = codes "m" ∷ codes "f" ∷ [];
    }

abbrev interval_cleared_by_a_microtask_setup : Setup
interval_cleared_by_a_microtask_setup =
    record { form = 1; trace = 1; policy = (Rank default_list); fuel = 1000000; until = 10000000; refresh = 60; late = []; latencies = []; arrivals = [] }

interval_cleared_by_a_microtask : page_trace interval_cleared_by_a_microtask_script interval_cleared_by_a_microtask_setup four_hosts ([]) ≡ rows (
    codes "trace 1" ∷
    codes "0 turn 1 dom" ∷
    codes "0 call 1" ∷
    codes "0 reg 2 interval" ∷
    codes "0 arm 2 1000 1" ∷
    codes "0 ret" ∷
    codes "1000 wait 1000" ∷
    codes "1000 due 2" ∷
    codes "1000 turn 2 timer" ∷
    codes "1000 call 2" ∷
    codes "1000 reg 3 micro" ∷
    codes "1000 job 1 micro 3" ∷
    codes "1000 log \"f\"" ∷
    codes "1000 ret" ∷
    codes "1000 run 1" ∷
    codes "1000 call 3" ∷
    codes "1000 drop 2" ∷
    codes "1000 log \"m\"" ∷
    codes "1000 ret" ∷
    codes "1000 end done" ∷
    [])
unfolding page_trace run run_by
interval_cleared_by_a_microtask = refl

-- A throw of an interval's callback is reported after its checkpoint, and the interval is initialised again after the report, until it is cleared.
--     var n = 0;
--     fn m() { log("m"); }
--     fn f() { n = n + 1; queueMicrotask(m); if (n == 2) { clearInterval(1); } throw n; }
--     setInterval(f, 1);
abbrev interval_goes_on_after_a_throw_script : Program
interval_goes_on_after_a_throw_script =
    record {
      items =
          (StmtItem (VarStmt (named "n") (Number (pos 0)))) ∷
          (FnItem (named "m") ([]) (with_stmt (ExprStmt (Call (named "log") (with_expr (TextLiteral (codes "m")) no_exprs))) no_stmts)) ∷
          (FnItem (named "f") ([]) (with_stmt (AssignStmt (named "n") (Sum (Name (named "n")) (with_term Plus (Number (pos 1)) no_terms))) (with_stmt (ExprStmt (Call (named "queueMicrotask") (with_expr (Name (named "m")) no_exprs))) (with_stmt (IfStmt (Compare (Name (named "n")) Equals (Number (pos 2))) (with_stmt (ExprStmt (Call (named "clearInterval") (with_expr (Number (pos 1)) no_exprs))) no_stmts) no_else_ifs no_else) (with_stmt (ThrowStmt (Name (named "n"))) no_stmts))))) ∷
          (StmtItem (ExprStmt (Call (named "setInterval") (with_expr (Name (named "f")) (with_expr (Number (pos 1)) no_exprs))))) ∷
          [];
      names = codes "m" ∷ codes "f" ∷ [];
    }

abbrev interval_goes_on_after_a_throw_setup : Setup
interval_goes_on_after_a_throw_setup =
    record { form = 1; trace = 1; policy = (Rank default_list); fuel = 1000000; until = 10000000; refresh = 60; late = []; latencies = []; arrivals = [] }

interval_goes_on_after_a_throw : page_trace interval_goes_on_after_a_throw_script interval_goes_on_after_a_throw_setup four_hosts ([]) ≡ rows (
    codes "trace 1" ∷
    codes "0 turn 1 dom" ∷
    codes "0 call 1" ∷
    codes "0 reg 2 interval" ∷
    codes "0 arm 2 1000 1" ∷
    codes "0 ret" ∷
    codes "1000 wait 1000" ∷
    codes "1000 due 2" ∷
    codes "1000 turn 2 timer" ∷
    codes "1000 call 2" ∷
    codes "1000 reg 3 micro" ∷
    codes "1000 job 1 micro 3" ∷
    codes "1000 throw 1" ∷
    codes "1000 run 1" ∷
    codes "1000 call 3" ∷
    codes "1000 log \"m\"" ∷
    codes "1000 ret" ∷
    codes "1000 report 1" ∷
    codes "1000 arm 2 2000 2" ∷
    codes "2000 wait 2000" ∷
    codes "2000 due 2" ∷
    codes "2000 turn 3 timer" ∷
    codes "2000 call 2" ∷
    codes "2000 reg 4 micro" ∷
    codes "2000 job 2 micro 4" ∷
    codes "2000 drop 2" ∷
    codes "2000 throw 2" ∷
    codes "2000 run 2" ∷
    codes "2000 call 4" ∷
    codes "2000 log \"m\"" ∷
    codes "2000 ret" ∷
    codes "2000 report 2" ∷
    codes "2000 end done" ∷
    [])
unfolding page_trace run run_by
interval_goes_on_after_a_throw = refl

-- Two timeouts are due together and both have their tasks. The first callback clears the second timeout, whose task has its turn and does nothing.
--     var id = 0;
--     fn a() { log("a"); clearTimeout(id); }
--     fn b() { log("b"); }
--     setTimeout(a, 1);
--     id = setTimeout(b, 1);
abbrev timeout_cleared_when_its_task_waits_script : Program
timeout_cleared_when_its_task_waits_script =
    record {
      items =
          (StmtItem (VarStmt (named "id") (Number (pos 0)))) ∷
          (FnItem (named "a") ([]) (with_stmt (ExprStmt (Call (named "log") (with_expr (TextLiteral (codes "a")) no_exprs))) (with_stmt (ExprStmt (Call (named "clearTimeout") (with_expr (Name (named "id")) no_exprs))) no_stmts))) ∷
          (FnItem (named "b") ([]) (with_stmt (ExprStmt (Call (named "log") (with_expr (TextLiteral (codes "b")) no_exprs))) no_stmts)) ∷
          (StmtItem (ExprStmt (Call (named "setTimeout") (with_expr (Name (named "a")) (with_expr (Number (pos 1)) no_exprs))))) ∷
          (StmtItem (AssignStmt (named "id") (Call (named "setTimeout") (with_expr (Name (named "b")) (with_expr (Number (pos 1)) no_exprs))))) ∷
          [];
      names = codes "a" ∷ codes "b" ∷ [];
    }

abbrev timeout_cleared_when_its_task_waits_setup : Setup
timeout_cleared_when_its_task_waits_setup =
    record { form = 1; trace = 1; policy = (Rank default_list); fuel = 1000000; until = 10000000; refresh = 60; late = []; latencies = []; arrivals = [] }

timeout_cleared_when_its_task_waits : page_trace timeout_cleared_when_its_task_waits_script timeout_cleared_when_its_task_waits_setup four_hosts ([]) ≡ rows (
    codes "trace 1" ∷
    codes "0 turn 1 dom" ∷
    codes "0 call 1" ∷
    codes "0 reg 2 timeout" ∷
    codes "0 arm 2 1000 1" ∷
    codes "0 reg 3 timeout" ∷
    codes "0 arm 3 1000 1" ∷
    codes "0 ret" ∷
    codes "1000 wait 1000" ∷
    codes "1000 due 2" ∷
    codes "1000 due 3" ∷
    codes "1000 turn 2 timer" ∷
    codes "1000 call 2" ∷
    codes "1000 log \"a\"" ∷
    codes "1000 drop 3" ∷
    codes "1000 ret" ∷
    codes "1000 turn 3 timer" ∷
    codes "1000 end done" ∷
    [])
unfolding page_trace run run_by
timeout_cleared_when_its_task_waits = refl

-- An interval's task is one level deeper each time. A timeout that its sixth call sets is clamped to 4 milliseconds, though the interval itself never
-- was.
--     var n = 0;
--     fn g() { log("g"); }
--     fn f() { n = n + 1; if (n == 6) { setTimeout(g, 0); clearInterval(1); } }
--     setInterval(f, 1);
abbrev timeout_clamped_inside_an_interval_script : Program
timeout_clamped_inside_an_interval_script =
    record {
      items =
          (StmtItem (VarStmt (named "n") (Number (pos 0)))) ∷
          (FnItem (named "g") ([]) (with_stmt (ExprStmt (Call (named "log") (with_expr (TextLiteral (codes "g")) no_exprs))) no_stmts)) ∷
          (FnItem (named "f") ([]) (with_stmt (AssignStmt (named "n") (Sum (Name (named "n")) (with_term Plus (Number (pos 1)) no_terms))) (with_stmt (IfStmt (Compare (Name (named "n")) Equals (Number (pos 6))) (with_stmt (ExprStmt (Call (named "setTimeout") (with_expr (Name (named "g")) (with_expr (Number (pos 0)) no_exprs)))) (with_stmt (ExprStmt (Call (named "clearInterval") (with_expr (Number (pos 1)) no_exprs))) no_stmts)) no_else_ifs no_else) no_stmts))) ∷
          (StmtItem (ExprStmt (Call (named "setInterval") (with_expr (Name (named "f")) (with_expr (Number (pos 1)) no_exprs))))) ∷
          [];
      names = codes "g" ∷ codes "f" ∷ [];
    }

abbrev timeout_clamped_inside_an_interval_setup : Setup
timeout_clamped_inside_an_interval_setup =
    record { form = 1; trace = 1; policy = (Rank default_list); fuel = 1000000; until = 10000000; refresh = 60; late = []; latencies = []; arrivals = [] }

timeout_clamped_inside_an_interval : page_trace timeout_clamped_inside_an_interval_script timeout_clamped_inside_an_interval_setup four_hosts ([]) ≡ rows (
    codes "trace 1" ∷
    codes "0 turn 1 dom" ∷
    codes "0 call 1" ∷
    codes "0 reg 2 interval" ∷
    codes "0 arm 2 1000 1" ∷
    codes "0 ret" ∷
    codes "1000 wait 1000" ∷
    codes "1000 due 2" ∷
    codes "1000 turn 2 timer" ∷
    codes "1000 call 2" ∷
    codes "1000 ret" ∷
    codes "1000 arm 2 2000 2" ∷
    codes "2000 wait 2000" ∷
    codes "2000 due 2" ∷
    codes "2000 turn 3 timer" ∷
    codes "2000 call 2" ∷
    codes "2000 ret" ∷
    codes "2000 arm 2 3000 3" ∷
    codes "3000 wait 3000" ∷
    codes "3000 due 2" ∷
    codes "3000 turn 4 timer" ∷
    codes "3000 call 2" ∷
    codes "3000 ret" ∷
    codes "3000 arm 2 4000 4" ∷
    codes "4000 wait 4000" ∷
    codes "4000 due 2" ∷
    codes "4000 turn 5 timer" ∷
    codes "4000 call 2" ∷
    codes "4000 ret" ∷
    codes "4000 arm 2 5000 5" ∷
    codes "5000 wait 5000" ∷
    codes "5000 due 2" ∷
    codes "5000 turn 6 timer" ∷
    codes "5000 call 2" ∷
    codes "5000 ret" ∷
    codes "5000 arm 2 6000 6" ∷
    codes "6000 wait 6000" ∷
    codes "6000 due 2" ∷
    codes "6000 turn 7 timer" ∷
    codes "6000 call 2" ∷
    codes "6000 reg 3 timeout" ∷
    codes "6000 arm 3 10000 7" ∷
    codes "6000 drop 2" ∷
    codes "6000 ret" ∷
    codes "10000 wait 10000" ∷
    codes "10000 due 3" ∷
    codes "10000 turn 8 timer" ∷
    codes "10000 call 3" ∷
    codes "10000 log \"g\"" ∷
    codes "10000 ret" ∷
    codes "10000 end done" ∷
    [])
unfolding page_trace run run_by
timeout_clamped_inside_an_interval = refl

-- The first wait ends 1500 late, so two timers are due at once; the next one ends 250 late. The waiting is told by its target, the time by its reading.
--     fn f() { log(now()); }
--     setTimeout(f, 1);
--     setTimeout(f, 2);
--     setTimeout(f, 3);
abbrev late_readings_of_the_clock_script : Program
late_readings_of_the_clock_script =
    record {
      items =
          (FnItem (named "f") ([]) (with_stmt (ExprStmt (Call (named "log") (with_expr (Call (named "now") no_exprs) no_exprs))) no_stmts)) ∷
          (StmtItem (ExprStmt (Call (named "setTimeout") (with_expr (Name (named "f")) (with_expr (Number (pos 1)) no_exprs))))) ∷
          (StmtItem (ExprStmt (Call (named "setTimeout") (with_expr (Name (named "f")) (with_expr (Number (pos 2)) no_exprs))))) ∷
          (StmtItem (ExprStmt (Call (named "setTimeout") (with_expr (Name (named "f")) (with_expr (Number (pos 3)) no_exprs))))) ∷
          [];
      names = codes "f" ∷ [];
    }

abbrev late_readings_of_the_clock_setup : Setup
late_readings_of_the_clock_setup =
    record { form = 1; trace = 1; policy = (Rank default_list); fuel = 1000000; until = 10000000; refresh = 60; late = 1500 ∷ 250 ∷ []; latencies = []; arrivals = [] }

late_readings_of_the_clock : page_trace late_readings_of_the_clock_script late_readings_of_the_clock_setup four_hosts ([]) ≡ rows (
    codes "trace 1" ∷
    codes "0 turn 1 dom" ∷
    codes "0 call 1" ∷
    codes "0 reg 2 timeout" ∷
    codes "0 arm 2 1000 1" ∷
    codes "0 reg 3 timeout" ∷
    codes "0 arm 3 2000 1" ∷
    codes "0 reg 4 timeout" ∷
    codes "0 arm 4 3000 1" ∷
    codes "0 ret" ∷
    codes "2500 wait 1000" ∷
    codes "2500 due 2" ∷
    codes "2500 due 3" ∷
    codes "2500 turn 2 timer" ∷
    codes "2500 call 2" ∷
    codes "2500 log 2500" ∷
    codes "2500 ret" ∷
    codes "2500 turn 3 timer" ∷
    codes "2500 call 3" ∷
    codes "2500 log 2500" ∷
    codes "2500 ret" ∷
    codes "3250 wait 3000" ∷
    codes "3250 due 4" ∷
    codes "3250 turn 4 timer" ∷
    codes "3250 call 4" ∷
    codes "3250 log 3250" ∷
    codes "3250 ret" ∷
    codes "3250 end done" ∷
    [])
unfolding page_trace run run_by
late_readings_of_the_clock = refl

-- The promise is rejected and the registration dropped when the signal is aborted. The delay stays an active timer: the run waits for it, and nothing is
-- enqueued then.
--     fn a() { log("a"); }
--     fn g(r) { log(r); }
--     fn k() { abort(c, "early"); }
--     var c = controller();
--     then(postTask(a, unit, signal(c), 5), unit, g);
--     setTimeout(k, 1);
abbrev delayed_task_aborted_before_its_delay_is_over_script : Program
delayed_task_aborted_before_its_delay_is_over_script =
    record {
      items =
          (FnItem (named "a") ([]) (with_stmt (ExprStmt (Call (named "log") (with_expr (TextLiteral (codes "a")) no_exprs))) no_stmts)) ∷
          (FnItem (named "g") ((named "r") ∷ []) (with_stmt (ExprStmt (Call (named "log") (with_expr (Name (named "r")) no_exprs))) no_stmts)) ∷
          (FnItem (named "k") ([]) (with_stmt (ExprStmt (Call (named "abort") (with_expr (Name (named "c")) (with_expr (TextLiteral (codes "early")) no_exprs)))) no_stmts)) ∷
          (StmtItem (VarStmt (named "c") (Call (named "controller") no_exprs))) ∷
          (StmtItem (ExprStmt (Call (named "then") (with_expr (Call (named "postTask") (with_expr (Name (named "a")) (with_expr UnitLiteral (with_expr (Call (named "signal") (with_expr (Name (named "c")) no_exprs)) (with_expr (Number (pos 5)) no_exprs))))) (with_expr UnitLiteral (with_expr (Name (named "g")) no_exprs)))))) ∷
          (StmtItem (ExprStmt (Call (named "setTimeout") (with_expr (Name (named "k")) (with_expr (Number (pos 1)) no_exprs))))) ∷
          [];
      names = codes "a" ∷ codes "g" ∷ codes "k" ∷ [];
    }

abbrev delayed_task_aborted_before_its_delay_is_over_setup : Setup
delayed_task_aborted_before_its_delay_is_over_setup =
    record { form = 1; trace = 1; policy = (Rank default_list); fuel = 1000000; until = 10000000; refresh = 60; late = []; latencies = []; arrivals = [] }

delayed_task_aborted_before_its_delay_is_over : page_trace delayed_task_aborted_before_its_delay_is_over_script delayed_task_aborted_before_its_delay_is_over_setup four_hosts ([]) ≡ rows (
    codes "trace 1" ∷
    codes "0 turn 1 dom" ∷
    codes "0 call 1" ∷
    codes "0 reg 2 post" ∷
    codes "0 arm 2 5000 0" ∷
    codes "0 reg 3 then" ∷
    codes "0 reg 4 timeout" ∷
    codes "0 arm 4 1000 1" ∷
    codes "0 ret" ∷
    codes "1000 wait 1000" ∷
    codes "1000 due 4" ∷
    codes "1000 turn 2 timer" ∷
    codes "1000 call 4" ∷
    codes "1000 abort 1" ∷
    codes "1000 settle 1 err \"early\"" ∷
    codes "1000 job 1 react 1" ∷
    codes "1000 drop 2" ∷
    codes "1000 ret" ∷
    codes "1000 run 1" ∷
    codes "1000 call 3" ∷
    codes "1000 log \"early\"" ∷
    codes "1000 ret" ∷
    codes "1000 settle 2 ok unit" ∷
    codes "5000 wait 5000" ∷
    codes "5000 due 2" ∷
    codes "5000 end done" ∷
    [])
unfolding page_trace run run_by
delayed_task_aborted_before_its_delay_is_over = refl

-- A host answer and the timeout of its signal are due together. The answer is taken first, but by the default list the timer's task is served first: it
-- aborts the signal, and the answer's task does nothing.
--     fn f(v) { log(v); }
--     var s = timeoutSignal(1);
--     then(host(0, 7, s), f, f);
abbrev timeout_signal_before_a_host_answer_script : Program
timeout_signal_before_a_host_answer_script =
    record {
      items =
          (FnItem (named "f") ((named "v") ∷ []) (with_stmt (ExprStmt (Call (named "log") (with_expr (Name (named "v")) no_exprs))) no_stmts)) ∷
          (StmtItem (VarStmt (named "s") (Call (named "timeoutSignal") (with_expr (Number (pos 1)) no_exprs)))) ∷
          (StmtItem (ExprStmt (Call (named "then") (with_expr (Call (named "host") (with_expr (Number (pos 0)) (with_expr (Number (pos 7)) (with_expr (Name (named "s")) no_exprs)))) (with_expr (Name (named "f")) (with_expr (Name (named "f")) no_exprs)))))) ∷
          [];
      names = codes "f" ∷ [];
    }

abbrev timeout_signal_before_a_host_answer_setup : Setup
timeout_signal_before_a_host_answer_setup =
    record { form = 1; trace = 1; policy = (Rank default_list); fuel = 1000000; until = 10000000; refresh = 60; late = []; latencies = record { closure = 0; latency = 1000 } ∷ []; arrivals = [] }

timeout_signal_before_a_host_answer : page_trace timeout_signal_before_a_host_answer_script timeout_signal_before_a_host_answer_setup four_hosts ([]) ≡ rows (
    codes "trace 1" ∷
    codes "0 turn 1 dom" ∷
    codes "0 call 1" ∷
    codes "0 reg 2 signal" ∷
    codes "0 arm 2 1000 0" ∷
    codes "0 reg 3 host" ∷
    codes "0 arm 3 1000 0" ∷
    codes "0 reg 4 then" ∷
    codes "0 ret" ∷
    codes "1000 wait 1000" ∷
    codes "1000 due 3" ∷
    codes "1000 due 2" ∷
    codes "1000 turn 2 timer" ∷
    codes "1000 abort 1" ∷
    codes "1000 settle 1 err TimeoutError(\"\")" ∷
    codes "1000 job 1 react 1" ∷
    codes "1000 drop 3" ∷
    codes "1000 run 1" ∷
    codes "1000 call 4" ∷
    codes "1000 log TimeoutError(\"\")" ∷
    codes "1000 ret" ∷
    codes "1000 settle 2 ok unit" ∷
    codes "1000 turn 3 net" ∷
    codes "1000 end done" ∷
    [])
unfolding page_trace run run_by
timeout_signal_before_a_host_answer = refl

-- The same by the order of the tasks: the answer settles the promise, and the abort of the signal finds nothing to do.
--     fn f(v) { log(v); }
--     var s = timeoutSignal(1);
--     then(host(0, 7, s), f, f);
abbrev timeout_signal_after_a_host_answer_script : Program
timeout_signal_after_a_host_answer_script =
    record {
      items =
          (FnItem (named "f") ((named "v") ∷ []) (with_stmt (ExprStmt (Call (named "log") (with_expr (Name (named "v")) no_exprs))) no_stmts)) ∷
          (StmtItem (VarStmt (named "s") (Call (named "timeoutSignal") (with_expr (Number (pos 1)) no_exprs)))) ∷
          (StmtItem (ExprStmt (Call (named "then") (with_expr (Call (named "host") (with_expr (Number (pos 0)) (with_expr (Number (pos 7)) (with_expr (Name (named "s")) no_exprs)))) (with_expr (Name (named "f")) (with_expr (Name (named "f")) no_exprs)))))) ∷
          [];
      names = codes "f" ∷ [];
    }

abbrev timeout_signal_after_a_host_answer_setup : Setup
timeout_signal_after_a_host_answer_setup =
    record { form = 1; trace = 1; policy = Fifo; fuel = 1000000; until = 10000000; refresh = 60; late = []; latencies = record { closure = 0; latency = 1000 } ∷ []; arrivals = [] }

timeout_signal_after_a_host_answer : page_trace timeout_signal_after_a_host_answer_script timeout_signal_after_a_host_answer_setup four_hosts (Ok (pos 49) ∷ []) ≡ rows (
    codes "trace 1" ∷
    codes "0 turn 1 dom" ∷
    codes "0 call 1" ∷
    codes "0 reg 2 signal" ∷
    codes "0 arm 2 1000 0" ∷
    codes "0 reg 3 host" ∷
    codes "0 arm 3 1000 0" ∷
    codes "0 reg 4 then" ∷
    codes "0 ret" ∷
    codes "1000 wait 1000" ∷
    codes "1000 due 3" ∷
    codes "1000 due 2" ∷
    codes "1000 turn 2 net" ∷
    codes "1000 host 0 7 ok 49" ∷
    codes "1000 settle 1 ok 49" ∷
    codes "1000 job 1 react 1" ∷
    codes "1000 run 1" ∷
    codes "1000 call 4" ∷
    codes "1000 log 49" ∷
    codes "1000 ret" ∷
    codes "1000 settle 2 ok unit" ∷
    codes "1000 turn 3 timer" ∷
    codes "1000 abort 1" ∷
    codes "1000 end done" ∷
    [])
unfolding page_trace run run_by
timeout_signal_after_a_host_answer = refl

-- A closure whose answer was due when it was aborted is dropped for good: asked again at once, it rejects. The task of its answer still has its turn.
--     fn f(v) { log(v); }
--     fn k() { abort(c, "off"); then(host(0, 2, unit), f, f); }
--     var c = controller();
--     then(host(0, 7, signal(c)), f, f);
--     setTimeout(k, 1);
abbrev dropped_closure_asked_again_script : Program
dropped_closure_asked_again_script =
    record {
      items =
          (FnItem (named "f") ((named "v") ∷ []) (with_stmt (ExprStmt (Call (named "log") (with_expr (Name (named "v")) no_exprs))) no_stmts)) ∷
          (FnItem (named "k") ([]) (with_stmt (ExprStmt (Call (named "abort") (with_expr (Name (named "c")) (with_expr (TextLiteral (codes "off")) no_exprs)))) (with_stmt (ExprStmt (Call (named "then") (with_expr (Call (named "host") (with_expr (Number (pos 0)) (with_expr (Number (pos 2)) (with_expr UnitLiteral no_exprs)))) (with_expr (Name (named "f")) (with_expr (Name (named "f")) no_exprs))))) no_stmts))) ∷
          (StmtItem (VarStmt (named "c") (Call (named "controller") no_exprs))) ∷
          (StmtItem (ExprStmt (Call (named "then") (with_expr (Call (named "host") (with_expr (Number (pos 0)) (with_expr (Number (pos 7)) (with_expr (Call (named "signal") (with_expr (Name (named "c")) no_exprs)) no_exprs)))) (with_expr (Name (named "f")) (with_expr (Name (named "f")) no_exprs)))))) ∷
          (StmtItem (ExprStmt (Call (named "setTimeout") (with_expr (Name (named "k")) (with_expr (Number (pos 1)) no_exprs))))) ∷
          [];
      names = codes "f" ∷ codes "k" ∷ [];
    }

abbrev dropped_closure_asked_again_setup : Setup
dropped_closure_asked_again_setup =
    record { form = 1; trace = 1; policy = (Rank default_list); fuel = 1000000; until = 10000000; refresh = 60; late = []; latencies = record { closure = 0; latency = 1000 } ∷ []; arrivals = [] }

dropped_closure_asked_again : page_trace dropped_closure_asked_again_script dropped_closure_asked_again_setup four_hosts ([]) ≡ rows (
    codes "trace 1" ∷
    codes "0 turn 1 dom" ∷
    codes "0 call 1" ∷
    codes "0 reg 2 host" ∷
    codes "0 arm 2 1000 0" ∷
    codes "0 reg 3 then" ∷
    codes "0 reg 4 timeout" ∷
    codes "0 arm 4 1000 1" ∷
    codes "0 ret" ∷
    codes "1000 wait 1000" ∷
    codes "1000 due 2" ∷
    codes "1000 due 4" ∷
    codes "1000 turn 2 timer" ∷
    codes "1000 call 4" ∷
    codes "1000 abort 1" ∷
    codes "1000 settle 1 err \"off\"" ∷
    codes "1000 job 1 react 1" ∷
    codes "1000 drop 2" ∷
    codes "1000 settle 3 err NotAllowedError(\"\")" ∷
    codes "1000 reg 5 then" ∷
    codes "1000 job 2 react 3" ∷
    codes "1000 ret" ∷
    codes "1000 run 1" ∷
    codes "1000 call 3" ∷
    codes "1000 log \"off\"" ∷
    codes "1000 ret" ∷
    codes "1000 settle 2 ok unit" ∷
    codes "1000 run 2" ∷
    codes "1000 call 5" ∷
    codes "1000 log NotAllowedError(\"\")" ∷
    codes "1000 ret" ∷
    codes "1000 settle 4 ok unit" ∷
    codes "1000 turn 3 net" ∷
    codes "1000 end done" ∷
    [])
unfolding page_trace run run_by
dropped_closure_asked_again = refl

-- Two answers are due at once, in the order of asking, and each is a task. The first closure fails: its promise is rejected with the number.
--     fn f(v) { log(v); }
--     then(host(3, 5, unit), unit, f);
--     host(1, 4, unit);
abbrev host_answer_that_rejects_script : Program
host_answer_that_rejects_script =
    record {
      items =
          (FnItem (named "f") ((named "v") ∷ []) (with_stmt (ExprStmt (Call (named "log") (with_expr (Name (named "v")) no_exprs))) no_stmts)) ∷
          (StmtItem (ExprStmt (Call (named "then") (with_expr (Call (named "host") (with_expr (Number (pos 3)) (with_expr (Number (pos 5)) (with_expr UnitLiteral no_exprs)))) (with_expr UnitLiteral (with_expr (Name (named "f")) no_exprs)))))) ∷
          (StmtItem (ExprStmt (Call (named "host") (with_expr (Number (pos 1)) (with_expr (Number (pos 4)) (with_expr UnitLiteral no_exprs)))))) ∷
          [];
      names = codes "f" ∷ [];
    }

abbrev host_answer_that_rejects_setup : Setup
host_answer_that_rejects_setup =
    record { form = 1; trace = 1; policy = (Rank default_list); fuel = 1000000; until = 10000000; refresh = 60; late = []; latencies = []; arrivals = [] }

host_answer_that_rejects : page_trace host_answer_that_rejects_script host_answer_that_rejects_setup four_hosts (Err (pos 5) ∷ Ok (pos 8) ∷ []) ≡ rows (
    codes "trace 1" ∷
    codes "0 turn 1 dom" ∷
    codes "0 call 1" ∷
    codes "0 reg 2 host" ∷
    codes "0 arm 2 0 0" ∷
    codes "0 reg 3 then" ∷
    codes "0 reg 4 host" ∷
    codes "0 arm 4 0 0" ∷
    codes "0 ret" ∷
    codes "0 due 2" ∷
    codes "0 due 4" ∷
    codes "0 turn 2 net" ∷
    codes "0 host 3 5 err 5" ∷
    codes "0 settle 1 err 5" ∷
    codes "0 job 1 react 1" ∷
    codes "0 run 1" ∷
    codes "0 call 3" ∷
    codes "0 log 5" ∷
    codes "0 ret" ∷
    codes "0 settle 2 ok unit" ∷
    codes "0 turn 3 net" ∷
    codes "0 host 1 4 ok 8" ∷
    codes "0 settle 3 ok 8" ∷
    codes "0 end done" ∷
    [])
unfolding page_trace run run_by
host_answer_that_rejects = refl

-- The task of a timeout signal has nesting level 0, wherever the signal was made: a timer that its listener sets has level 1, where one set beside it by
-- the timer's callback has level 2.
--     fn z() { log(now()); }
--     fn l(s) { setTimeout(z, 0); }
--     fn a() { listen(timeoutSignal(0), "abort", l); setTimeout(z, 0); }
--     setTimeout(a, 0);
abbrev timer_set_by_the_listener_of_a_timeout_signal_script : Program
timer_set_by_the_listener_of_a_timeout_signal_script =
    record {
      items =
          (FnItem (named "z") ([]) (with_stmt (ExprStmt (Call (named "log") (with_expr (Call (named "now") no_exprs) no_exprs))) no_stmts)) ∷
          (FnItem (named "l") ((named "s") ∷ []) (with_stmt (ExprStmt (Call (named "setTimeout") (with_expr (Name (named "z")) (with_expr (Number (pos 0)) no_exprs)))) no_stmts)) ∷
          (FnItem (named "a") ([]) (with_stmt (ExprStmt (Call (named "listen") (with_expr (Call (named "timeoutSignal") (with_expr (Number (pos 0)) no_exprs)) (with_expr (TextLiteral (codes "abort")) (with_expr (Name (named "l")) no_exprs))))) (with_stmt (ExprStmt (Call (named "setTimeout") (with_expr (Name (named "z")) (with_expr (Number (pos 0)) no_exprs)))) no_stmts))) ∷
          (StmtItem (ExprStmt (Call (named "setTimeout") (with_expr (Name (named "a")) (with_expr (Number (pos 0)) no_exprs))))) ∷
          [];
      names = codes "z" ∷ codes "l" ∷ codes "a" ∷ [];
    }

abbrev timer_set_by_the_listener_of_a_timeout_signal_setup : Setup
timer_set_by_the_listener_of_a_timeout_signal_setup =
    record { form = 1; trace = 1; policy = (Rank default_list); fuel = 1000000; until = 10000000; refresh = 60; late = []; latencies = []; arrivals = [] }

timer_set_by_the_listener_of_a_timeout_signal : page_trace timer_set_by_the_listener_of_a_timeout_signal_script timer_set_by_the_listener_of_a_timeout_signal_setup four_hosts ([]) ≡ rows (
    codes "trace 1" ∷
    codes "0 turn 1 dom" ∷
    codes "0 call 1" ∷
    codes "0 reg 2 timeout" ∷
    codes "0 arm 2 0 1" ∷
    codes "0 ret" ∷
    codes "0 due 2" ∷
    codes "0 turn 2 timer" ∷
    codes "0 call 2" ∷
    codes "0 reg 3 signal" ∷
    codes "0 arm 3 0 0" ∷
    codes "0 reg 4 listener" ∷
    codes "0 reg 5 timeout" ∷
    codes "0 arm 5 0 2" ∷
    codes "0 ret" ∷
    codes "0 due 3" ∷
    codes "0 due 5" ∷
    codes "0 turn 3 timer" ∷
    codes "0 abort 1" ∷
    codes "0 call 4" ∷
    codes "0 reg 6 timeout" ∷
    codes "0 arm 6 0 1" ∷
    codes "0 ret" ∷
    codes "0 due 6" ∷
    codes "0 turn 4 timer" ∷
    codes "0 call 5" ∷
    codes "0 log 0" ∷
    codes "0 ret" ∷
    codes "0 turn 5 timer" ∷
    codes "0 call 6" ∷
    codes "0 log 0" ∷
    codes "0 ret" ∷
    codes "0 end done" ∷
    [])
unfolding page_trace run run_by
timer_set_by_the_listener_of_a_timeout_signal = refl

-- An interval is initialised again after its callback, so it is due a timeout after that, and calls that were missed are not made up for.
--     var n = 0;
--     fn f() { n = n + 1; busy(2500); log(now()); if (n == 2) { clearInterval(1); } }
--     setInterval(f, 1);
abbrev interval_slower_than_its_callback_script : Program
interval_slower_than_its_callback_script =
    record {
      items =
          (StmtItem (VarStmt (named "n") (Number (pos 0)))) ∷
          (FnItem (named "f") ([]) (with_stmt (AssignStmt (named "n") (Sum (Name (named "n")) (with_term Plus (Number (pos 1)) no_terms))) (with_stmt (ExprStmt (Call (named "busy") (with_expr (Number (pos 2500)) no_exprs))) (with_stmt (ExprStmt (Call (named "log") (with_expr (Call (named "now") no_exprs) no_exprs))) (with_stmt (IfStmt (Compare (Name (named "n")) Equals (Number (pos 2))) (with_stmt (ExprStmt (Call (named "clearInterval") (with_expr (Number (pos 1)) no_exprs))) no_stmts) no_else_ifs no_else) no_stmts))))) ∷
          (StmtItem (ExprStmt (Call (named "setInterval") (with_expr (Name (named "f")) (with_expr (Number (pos 1)) no_exprs))))) ∷
          [];
      names = codes "f" ∷ [];
    }

abbrev interval_slower_than_its_callback_setup : Setup
interval_slower_than_its_callback_setup =
    record { form = 1; trace = 1; policy = (Rank default_list); fuel = 1000000; until = 10000000; refresh = 60; late = []; latencies = []; arrivals = [] }

interval_slower_than_its_callback : page_trace interval_slower_than_its_callback_script interval_slower_than_its_callback_setup four_hosts ([]) ≡ rows (
    codes "trace 1" ∷
    codes "0 turn 1 dom" ∷
    codes "0 call 1" ∷
    codes "0 reg 2 interval" ∷
    codes "0 arm 2 1000 1" ∷
    codes "0 ret" ∷
    codes "1000 wait 1000" ∷
    codes "1000 due 2" ∷
    codes "1000 turn 2 timer" ∷
    codes "1000 call 2" ∷
    codes "3500 log 3500" ∷
    codes "3500 ret" ∷
    codes "3500 arm 2 4500 2" ∷
    codes "4500 wait 4500" ∷
    codes "4500 due 2" ∷
    codes "4500 turn 3 timer" ∷
    codes "4500 call 2" ∷
    codes "7000 log 7000" ∷
    codes "7000 drop 2" ∷
    codes "7000 ret" ∷
    codes "7000 end done" ∷
    [])
unfolding page_trace run run_by
interval_slower_than_its_callback = refl
