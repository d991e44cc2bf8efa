-- Worked examples, computed: how runs end.
use Rattle.std.specs.Prelude.{◌≡◌, [], ◌∷◌, pos, codes, refl}
use Rattle.page_types.specs.Values.{IntValue}
use Rattle.page_types.specs.declared.Source.TheVariants.{User}
use Rattle.page_types.specs.Tree.{Number, TextLiteral, TrueLiteral, UnitLiteral, Name, Call, no_exprs, with_expr, VarStmt, ExprStmt, WhileStmt, TryStmt, no_stmts, with_stmt, FnItem, StmtItem, Program}
use Rattle.page_parts.specs.Setup.{Setup, Rank}
use Rattle.page_parts.specs.Sources.{default_list}
use Rattle.page_model.specs.Turns.{run, run_by}
use Rattle.page_model.specs.PageTrace.{page_trace}
use Rattle.page_model.proofs.Examples.Sample.{named, four_hosts, rows}

-- The script runs up to the last moment. The timer that is due is still taken, so a task is runnable, and the run ends before it is performed.
--     fn f() { log("f"); }
--     setTimeout(f, 0);
--     busy(1000);
abbrev until_reached_with_a_task_script : Program
until_reached_with_a_task_script =
    record {
      items =
          (FnItem (named "f") ([]) (with_stmt (ExprStmt (Call (named "log") (with_expr (TextLiteral (codes "f")) no_exprs))) no_stmts)) ∷
          (StmtItem (ExprStmt (Call (named "setTimeout") (with_expr (Name (named "f")) (with_expr (Number (pos 0)) no_exprs))))) ∷
          (StmtItem (ExprStmt (Call (named "busy") (with_expr (Number (pos 1000)) no_exprs)))) ∷
          [];
      names = codes "f" ∷ [];
    }

abbrev until_reached_with_a_task_setup : Setup
until_reached_with_a_task_setup =
    record { form = 1; trace = 1; policy = (Rank default_list); fuel = 1000000; until = 1000; refresh = 60; late = []; latencies = []; arrivals = [] }

until_reached_with_a_task : page_trace until_reached_with_a_task_script until_reached_with_a_task_setup four_hosts ([]) ≡ rows (
    codes "trace 1" ∷
    codes "0 turn 1 dom" ∷
    codes "0 call 1" ∷
    codes "0 reg 2 timeout" ∷
    codes "0 arm 2 0 1" ∷
    codes "1000 ret" ∷
    codes "1000 due 2" ∷
    codes "1000 end clock" ∷
    [])
unfolding page_trace run run_by
until_reached_with_a_task = refl

-- The script runs up to the last moment, and nothing is due yet: the run ends without a wait.
--     fn f() { log("f"); }
--     setTimeout(f, 2);
--     busy(1000);
abbrev until_reached_without_a_task_script : Program
until_reached_without_a_task_script =
    record {
      items =
          (FnItem (named "f") ([]) (with_stmt (ExprStmt (Call (named "log") (with_expr (TextLiteral (codes "f")) no_exprs))) no_stmts)) ∷
          (StmtItem (ExprStmt (Call (named "setTimeout") (with_expr (Name (named "f")) (with_expr (Number (pos 2)) no_exprs))))) ∷
          (StmtItem (ExprStmt (Call (named "busy") (with_expr (Number (pos 1000)) no_exprs)))) ∷
          [];
      names = codes "f" ∷ [];
    }

abbrev until_reached_without_a_task_setup : Setup
until_reached_without_a_task_setup =
    record { form = 1; trace = 1; policy = (Rank default_list); fuel = 1000000; until = 1000; refresh = 60; late = []; latencies = []; arrivals = [] }

until_reached_without_a_task : page_trace until_reached_without_a_task_script until_reached_without_a_task_setup four_hosts ([]) ≡ rows (
    codes "trace 1" ∷
    codes "0 turn 1 dom" ∷
    codes "0 call 1" ∷
    codes "0 reg 2 timeout" ∷
    codes "0 arm 2 2000 1" ∷
    codes "1000 ret" ∷
    codes "1000 end clock" ∷
    [])
unfolding page_trace run run_by
until_reached_without_a_task = refl

-- The next timer is due exactly at the last moment: the clock is not asked, no wait is written, and the timer is not taken.
--     fn f() { log("f"); }
--     setTimeout(f, 1);
abbrev until_is_the_moment_that_is_waited_for_script : Program
until_is_the_moment_that_is_waited_for_script =
    record {
      items =
          (FnItem (named "f") ([]) (with_stmt (ExprStmt (Call (named "log") (with_expr (TextLiteral (codes "f")) no_exprs))) no_stmts)) ∷
          (StmtItem (ExprStmt (Call (named "setTimeout") (with_expr (Name (named "f")) (with_expr (Number (pos 1)) no_exprs))))) ∷
          [];
      names = codes "f" ∷ [];
    }

abbrev until_is_the_moment_that_is_waited_for_setup : Setup
until_is_the_moment_that_is_waited_for_setup =
    record { form = 1; trace = 1; policy = (Rank default_list); fuel = 1000000; until = 1000; refresh = 60; late = []; latencies = []; arrivals = [] }

until_is_the_moment_that_is_waited_for : page_trace until_is_the_moment_that_is_waited_for_script until_is_the_moment_that_is_waited_for_setup four_hosts ([]) ≡ rows (
    codes "trace 1" ∷
    codes "0 turn 1 dom" ∷
    codes "0 call 1" ∷
    codes "0 reg 2 timeout" ∷
    codes "0 arm 2 1000 1" ∷
    codes "0 ret" ∷
    codes "1000 end clock" ∷
    [])
unfolding page_trace run run_by
until_is_the_moment_that_is_waited_for = refl

-- The wait is for a moment before the last one, and the clock reads one after it. The arrival is taken, and the run ends at the time that was read.
--     (an empty script)
abbrev late_reading_past_until_script : Program
late_reading_past_until_script =
    record {
      items =
          [];
      names = [];
    }

abbrev late_reading_past_until_setup : Setup
late_reading_past_until_setup =
    record { form = 1; trace = 1; policy = (Rank default_list); fuel = 1000000; until = 1000; refresh = 60; late = 1000 ∷ []; latencies = []; arrivals = record { at = 500; source = User; name = codes "a"; value = (IntValue (pos 1)) } ∷ [] }

late_reading_past_until : page_trace late_reading_past_until_script late_reading_past_until_setup four_hosts ([]) ≡ rows (
    codes "trace 1" ∷
    codes "0 turn 1 dom" ∷
    codes "0 call 1" ∷
    codes "0 ret" ∷
    codes "1500 wait 500" ∷
    codes "1500 end clock" ∷
    [])
unfolding page_trace run run_by
late_reading_past_until = refl

-- With nothing pending the run is done, also at the last moment.
--     busy(1000);
abbrev nothing_pending_at_until_script : Program
nothing_pending_at_until_script =
    record {
      items =
          (StmtItem (ExprStmt (Call (named "busy") (with_expr (Number (pos 1000)) no_exprs)))) ∷
          [];
      names = [];
    }

abbrev nothing_pending_at_until_setup : Setup
nothing_pending_at_until_setup =
    record { form = 1; trace = 1; policy = (Rank default_list); fuel = 1000000; until = 1000; refresh = 60; late = []; latencies = []; arrivals = [] }

nothing_pending_at_until : page_trace nothing_pending_at_until_script nothing_pending_at_until_setup four_hosts ([]) ≡ rows (
    codes "trace 1" ∷
    codes "0 turn 1 dom" ∷
    codes "0 call 1" ∷
    codes "1000 ret" ∷
    codes "1000 end done" ∷
    [])
unfolding page_trace run run_by
nothing_pending_at_until = refl

-- The idle step stands at the end of the turn and looks at no clock: the period starts at the last moment, and the run ends before its task.
--     fn i(d) { log("i"); }
--     requestIdleCallback(i, 0);
--     busy(1000);
abbrev idle_period_started_at_until_script : Program
idle_period_started_at_until_script =
    record {
      items =
          (FnItem (named "i") ((named "d") ∷ []) (with_stmt (ExprStmt (Call (named "log") (with_expr (TextLiteral (codes "i")) no_exprs))) no_stmts)) ∷
          (StmtItem (ExprStmt (Call (named "requestIdleCallback") (with_expr (Name (named "i")) (with_expr (Number (pos 0)) no_exprs))))) ∷
          (StmtItem (ExprStmt (Call (named "busy") (with_expr (Number (pos 1000)) no_exprs)))) ∷
          [];
      names = codes "i" ∷ [];
    }

abbrev idle_period_started_at_until_setup : Setup
idle_period_started_at_until_setup =
    record { form = 1; trace = 1; policy = (Rank default_list); fuel = 1000000; until = 1000; refresh = 60; late = []; latencies = []; arrivals = [] }

idle_period_started_at_until : page_trace idle_period_started_at_until_script idle_period_started_at_until_setup four_hosts ([]) ≡ rows (
    codes "trace 1" ∷
    codes "0 turn 1 dom" ∷
    codes "0 call 1" ∷
    codes "0 reg 2 idle" ∷
    codes "1000 ret" ∷
    codes "1000 period 51000" ∷
    codes "1000 end clock" ∷
    [])
unfolding page_trace run run_by
idle_period_started_at_until = refl

-- Time and fuel are used up together: the run ends by the clock.
--     fn f() { log("f"); }
--     setTimeout(f, 0);
--     busy(10);
abbrev clock_is_looked_at_before_fuel_script : Program
clock_is_looked_at_before_fuel_script =
    record {
      items =
          (FnItem (named "f") ([]) (with_stmt (ExprStmt (Call (named "log") (with_expr (TextLiteral (codes "f")) no_exprs))) no_stmts)) ∷
          (StmtItem (ExprStmt (Call (named "setTimeout") (with_expr (Name (named "f")) (with_expr (Number (pos 0)) no_exprs))))) ∷
          (StmtItem (ExprStmt (Call (named "busy") (with_expr (Number (pos 10)) no_exprs)))) ∷
          [];
      names = codes "f" ∷ [];
    }

abbrev clock_is_looked_at_before_fuel_setup : Setup
clock_is_looked_at_before_fuel_setup =
    record { form = 1; trace = 1; policy = (Rank default_list); fuel = 3; until = 10; refresh = 60; late = []; latencies = []; arrivals = [] }

clock_is_looked_at_before_fuel : page_trace clock_is_looked_at_before_fuel_script clock_is_looked_at_before_fuel_setup four_hosts ([]) ≡ rows (
    codes "trace 1" ∷
    codes "0 turn 1 dom" ∷
    codes "0 call 1" ∷
    codes "0 reg 2 timeout" ∷
    codes "0 arm 2 0 1" ∷
    codes "10 ret" ∷
    codes "10 due 2" ∷
    codes "10 end clock" ∷
    [])
unfolding page_trace run run_by
clock_is_looked_at_before_fuel = refl

-- Waits and parallel items take no fuel; the turn does, and it has none left.
--     fn f() { log("f"); }
--     setTimeout(f, 1);
abbrev fuel_ends_before_a_turn_script : Program
fuel_ends_before_a_turn_script =
    record {
      items =
          (FnItem (named "f") ([]) (with_stmt (ExprStmt (Call (named "log") (with_expr (TextLiteral (codes "f")) no_exprs))) no_stmts)) ∷
          (StmtItem (ExprStmt (Call (named "setTimeout") (with_expr (Name (named "f")) (with_expr (Number (pos 1)) no_exprs))))) ∷
          [];
      names = codes "f" ∷ [];
    }

abbrev fuel_ends_before_a_turn_setup : Setup
fuel_ends_before_a_turn_setup =
    record { form = 1; trace = 1; policy = (Rank default_list); fuel = 2; until = 10000000; refresh = 60; late = []; latencies = []; arrivals = [] }

fuel_ends_before_a_turn : page_trace fuel_ends_before_a_turn_script fuel_ends_before_a_turn_setup four_hosts ([]) ≡ rows (
    codes "trace 1" ∷
    codes "0 turn 1 dom" ∷
    codes "0 call 1" ∷
    codes "0 reg 2 timeout" ∷
    codes "0 arm 2 1000 1" ∷
    codes "0 ret" ∷
    codes "1000 wait 1000" ∷
    codes "1000 due 2" ∷
    codes "1000 end fuel" ∷
    [])
unfolding page_trace run run_by
fuel_ends_before_a_turn = refl

-- The last unit goes to the microtask itself, so its callback is called and has none to begin with.
--     fn m() { log("m"); queueMicrotask(m); }
--     queueMicrotask(m);
abbrev fuel_ends_in_a_microtask_script : Program
fuel_ends_in_a_microtask_script =
    record {
      items =
          (FnItem (named "m") ([]) (with_stmt (ExprStmt (Call (named "log") (with_expr (TextLiteral (codes "m")) no_exprs))) (with_stmt (ExprStmt (Call (named "queueMicrotask") (with_expr (Name (named "m")) no_exprs))) no_stmts))) ∷
          (StmtItem (ExprStmt (Call (named "queueMicrotask") (with_expr (Name (named "m")) no_exprs)))) ∷
          [];
      names = codes "m" ∷ [];
    }

abbrev fuel_ends_in_a_microtask_setup : Setup
fuel_ends_in_a_microtask_setup =
    record { form = 1; trace = 1; policy = (Rank default_list); fuel = 5; until = 10000000; refresh = 60; late = []; latencies = []; arrivals = [] }

fuel_ends_in_a_microtask : page_trace fuel_ends_in_a_microtask_script fuel_ends_in_a_microtask_setup four_hosts ([]) ≡ rows (
    codes "trace 1" ∷
    codes "0 turn 1 dom" ∷
    codes "0 call 1" ∷
    codes "0 reg 2 micro" ∷
    codes "0 job 1 micro 2" ∷
    codes "0 ret" ∷
    codes "0 run 1" ∷
    codes "0 call 2" ∷
    codes "0 log \"m\"" ∷
    codes "0 reg 3 micro" ∷
    codes "0 job 2 micro 3" ∷
    codes "0 ret" ∷
    codes "0 run 2" ∷
    codes "0 call 3" ∷
    codes "0 end fuel" ∷
    [])
unfolding page_trace run run_by
fuel_ends_in_a_microtask = refl

-- Each entry into the body of a loop takes a unit. The end of fuel is no throw: nothing catches it, and no callback returns.
--     fn f() { try { while (true) { log("w"); } } catch (e) { log("caught"); } }
--     setTimeout(f, 0);
abbrev fuel_ends_in_a_loop_script : Program
fuel_ends_in_a_loop_script =
    record {
      items =
          (FnItem (named "f") ([]) (with_stmt (TryStmt (with_stmt (WhileStmt TrueLiteral (with_stmt (ExprStmt (Call (named "log") (with_expr (TextLiteral (codes "w")) no_exprs))) no_stmts)) no_stmts) (named "e") (with_stmt (ExprStmt (Call (named "log") (with_expr (TextLiteral (codes "caught")) no_exprs))) no_stmts)) no_stmts)) ∷
          (StmtItem (ExprStmt (Call (named "setTimeout") (with_expr (Name (named "f")) (with_expr (Number (pos 0)) no_exprs))))) ∷
          [];
      names = codes "f" ∷ [];
    }

abbrev fuel_ends_in_a_loop_setup : Setup
fuel_ends_in_a_loop_setup =
    record { form = 1; trace = 1; policy = (Rank default_list); fuel = 6; until = 10000000; refresh = 60; late = []; latencies = []; arrivals = [] }

fuel_ends_in_a_loop : page_trace fuel_ends_in_a_loop_script fuel_ends_in_a_loop_setup four_hosts ([]) ≡ rows (
    codes "trace 1" ∷
    codes "0 turn 1 dom" ∷
    codes "0 call 1" ∷
    codes "0 reg 2 timeout" ∷
    codes "0 arm 2 0 1" ∷
    codes "0 ret" ∷
    codes "0 due 2" ∷
    codes "0 turn 2 timer" ∷
    codes "0 call 2" ∷
    codes "0 log \"w\"" ∷
    codes "0 log \"w\"" ∷
    codes "0 end fuel" ∷
    [])
unfolding page_trace run run_by
fuel_ends_in_a_loop = refl

-- Fuel ends in a listener that the script's abort runs: neither the second listener nor the microtask nor the script goes on.
--     fn m() { log("m"); }
--     fn b(s) { log("b"); }
--     fn a(s) { queueMicrotask(m); busy(1); busy(1); log("a"); }
--     var c = controller();
--     listen(signal(c), "abort", a);
--     listen(signal(c), "abort", b);
--     abort(c, unit);
abbrev fuel_ends_in_a_listener_of_an_abort_script : Program
fuel_ends_in_a_listener_of_an_abort_script =
    record {
      items =
          (FnItem (named "m") ([]) (with_stmt (ExprStmt (Call (named "log") (with_expr (TextLiteral (codes "m")) no_exprs))) no_stmts)) ∷
          (FnItem (named "b") ((named "s") ∷ []) (with_stmt (ExprStmt (Call (named "log") (with_expr (TextLiteral (codes "b")) no_exprs))) no_stmts)) ∷
          (FnItem (named "a") ((named "s") ∷ []) (with_stmt (ExprStmt (Call (named "queueMicrotask") (with_expr (Name (named "m")) no_exprs))) (with_stmt (ExprStmt (Call (named "busy") (with_expr (Number (pos 1)) no_exprs))) (with_stmt (ExprStmt (Call (named "busy") (with_expr (Number (pos 1)) no_exprs))) (with_stmt (ExprStmt (Call (named "log") (with_expr (TextLiteral (codes "a")) no_exprs))) no_stmts))))) ∷
          (StmtItem (VarStmt (named "c") (Call (named "controller") no_exprs))) ∷
          (StmtItem (ExprStmt (Call (named "listen") (with_expr (Call (named "signal") (with_expr (Name (named "c")) no_exprs)) (with_expr (TextLiteral (codes "abort")) (with_expr (Name (named "a")) no_exprs)))))) ∷
          (StmtItem (ExprStmt (Call (named "listen") (with_expr (Call (named "signal") (with_expr (Name (named "c")) no_exprs)) (with_expr (TextLiteral (codes "abort")) (with_expr (Name (named "b")) no_exprs)))))) ∷
          (StmtItem (ExprStmt (Call (named "abort") (with_expr (Name (named "c")) (with_expr UnitLiteral no_exprs))))) ∷
          [];
      names = codes "m" ∷ codes "b" ∷ codes "a" ∷ [];
    }

abbrev fuel_ends_in_a_listener_of_an_abort_setup : Setup
fuel_ends_in_a_listener_of_an_abort_setup =
    record { form = 1; trace = 1; policy = (Rank default_list); fuel = 4; until = 10000000; refresh = 60; late = []; latencies = []; arrivals = [] }

fuel_ends_in_a_listener_of_an_abort : page_trace fuel_ends_in_a_listener_of_an_abort_script fuel_ends_in_a_listener_of_an_abort_setup four_hosts ([]) ≡ rows (
    codes "trace 1" ∷
    codes "0 turn 1 dom" ∷
    codes "0 call 1" ∷
    codes "0 reg 2 listener" ∷
    codes "0 reg 3 listener" ∷
    codes "0 abort 1" ∷
    codes "0 call 2" ∷
    codes "0 reg 4 micro" ∷
    codes "0 job 1 micro 4" ∷
    codes "1 end fuel" ∷
    [])
unfolding page_trace run run_by
fuel_ends_in_a_listener_of_an_abort = refl

-- The rendering opportunity is the last moment: the run ends there, and no frame is begun.
--     fn a(t) { log(t); }
--     requestAnimationFrame(a);
abbrev frame_at_until_script : Program
frame_at_until_script =
    record {
      items =
          (FnItem (named "a") ((named "t") ∷ []) (with_stmt (ExprStmt (Call (named "log") (with_expr (Name (named "t")) no_exprs))) no_stmts)) ∷
          (StmtItem (ExprStmt (Call (named "requestAnimationFrame") (with_expr (Name (named "a")) no_exprs)))) ∷
          [];
      names = codes "a" ∷ [];
    }

abbrev frame_at_until_setup : Setup
frame_at_until_setup =
    record { form = 1; trace = 1; policy = (Rank default_list); fuel = 1000000; until = 16666; refresh = 60; late = []; latencies = []; arrivals = [] }

frame_at_until : page_trace frame_at_until_script frame_at_until_setup four_hosts ([]) ≡ rows (
    codes "trace 1" ∷
    codes "0 turn 1 dom" ∷
    codes "0 call 1" ∷
    codes "0 reg 2 frame" ∷
    codes "0 ret" ∷
    codes "16666 end clock" ∷
    [])
unfolding page_trace run run_by
frame_at_until = refl

-- The next idle period could start at the last moment: the run ends there.
--     fn j(d) { log("j"); }
--     fn i(d) { log("i"); requestIdleCallback(j, 0); }
--     requestIdleCallback(i, 0);
abbrev idle_moment_at_until_script : Program
idle_moment_at_until_script =
    record {
      items =
          (FnItem (named "j") ((named "d") ∷ []) (with_stmt (ExprStmt (Call (named "log") (with_expr (TextLiteral (codes "j")) no_exprs))) no_stmts)) ∷
          (FnItem (named "i") ((named "d") ∷ []) (with_stmt (ExprStmt (Call (named "log") (with_expr (TextLiteral (codes "i")) no_exprs))) (with_stmt (ExprStmt (Call (named "requestIdleCallback") (with_expr (Name (named "j")) (with_expr (Number (pos 0)) no_exprs)))) no_stmts))) ∷
          (StmtItem (ExprStmt (Call (named "requestIdleCallback") (with_expr (Name (named "i")) (with_expr (Number (pos 0)) no_exprs))))) ∷
          [];
      names = codes "j" ∷ codes "i" ∷ [];
    }

abbrev idle_moment_at_until_setup : Setup
idle_moment_at_until_setup =
    record { form = 1; trace = 1; policy = (Rank default_list); fuel = 1000000; until = 50000; refresh = 60; late = []; latencies = []; arrivals = [] }

idle_moment_at_until : page_trace idle_moment_at_until_script idle_moment_at_until_setup four_hosts ([]) ≡ rows (
    codes "trace 1" ∷
    codes "0 turn 1 dom" ∷
    codes "0 call 1" ∷
    codes "0 reg 2 idle" ∷
    codes "0 ret" ∷
    codes "0 period 50000" ∷
    codes "0 turn 2 idle" ∷
    codes "0 idle 50000" ∷
    codes "0 call 2" ∷
    codes "0 log \"i\"" ∷
    codes "0 reg 3 idle" ∷
    codes "0 ret" ∷
    codes "50000 end clock" ∷
    [])
unfolding page_trace run run_by
idle_moment_at_until = refl

-- The wait for the idle moment ends after the last moment. Nothing is runnable then, and the run ends before the turn that would start the period.
--     fn j(d) { log("j"); }
--     fn i(d) { log("i"); requestIdleCallback(j, 0); }
--     requestIdleCallback(i, 0);
abbrev idle_moment_read_past_until_script : Program
idle_moment_read_past_until_script =
    record {
      items =
          (FnItem (named "j") ((named "d") ∷ []) (with_stmt (ExprStmt (Call (named "log") (with_expr (TextLiteral (codes "j")) no_exprs))) no_stmts)) ∷
          (FnItem (named "i") ((named "d") ∷ []) (with_stmt (ExprStmt (Call (named "log") (with_expr (TextLiteral (codes "i")) no_exprs))) (with_stmt (ExprStmt (Call (named "requestIdleCallback") (with_expr (Name (named "j")) (with_expr (Number (pos 0)) no_exprs)))) no_stmts))) ∷
          (StmtItem (ExprStmt (Call (named "requestIdleCallback") (with_expr (Name (named "i")) (with_expr (Number (pos 0)) no_exprs))))) ∷
          [];
      names = codes "j" ∷ codes "i" ∷ [];
    }

abbrev idle_moment_read_past_until_setup : Setup
idle_moment_read_past_until_setup =
    record { form = 1; trace = 1; policy = (Rank default_list); fuel = 1000000; until = 50005; refresh = 60; late = 10 ∷ []; latencies = []; arrivals = [] }

idle_moment_read_past_until : page_trace idle_moment_read_past_until_script idle_moment_read_past_until_setup four_hosts ([]) ≡ rows (
    codes "trace 1" ∷
    codes "0 turn 1 dom" ∷
    codes "0 call 1" ∷
    codes "0 reg 2 idle" ∷
    codes "0 ret" ∷
    codes "0 period 50000" ∷
    codes "0 turn 2 idle" ∷
    codes "0 idle 50000" ∷
    codes "0 call 2" ∷
    codes "0 log \"i\"" ∷
    codes "0 reg 3 idle" ∷
    codes "0 ret" ∷
    codes "50010 wait 50000" ∷
    codes "50010 end clock" ∷
    [])
unfolding page_trace run run_by
idle_moment_read_past_until = refl
