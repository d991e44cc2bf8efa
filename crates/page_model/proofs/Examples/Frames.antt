-- Worked examples, computed: frames and idle periods.
use Rattle.std.specs.Prelude.{◌≡◌, [], ◌∷◌, pos, codes, refl}
use Rattle.page_types.specs.Tree.{Number, TextLiteral, Name, Call, no_exprs, with_expr, ExprStmt, no_stmts, with_stmt, FnItem, StmtItem, Program}
use Rattle.page_parts.specs.Setup.{Setup, Rank}
use Rattle.page_parts.specs.Sources.{default_list}
use Rattle.page_model.specs.Turns.{run, run_by}
use Rattle.page_model.specs.PageTrace.{page_trace}
use Rattle.page_model.proofs.Examples.Sample.{named, four_hosts, logs_of, rows}

--     fn c(t) { log(t); }
--     fn b(t) { log("b"); }
--     fn a(t) { log(t); cancelAnimationFrame(2); requestAnimationFrame(c); }
--     requestAnimationFrame(a);
--     requestAnimationFrame(b);
abbrev frame_callback_cancelled_in_its_frame_script : Program
frame_callback_cancelled_in_its_frame_script =
    record {
      items =
          (FnItem (named "c") ((named "t") ∷ []) (with_stmt (ExprStmt (Call (named "log") (with_expr (Name (named "t")) no_exprs))) no_stmts)) ∷
          (FnItem (named "b") ((named "t") ∷ []) (with_stmt (ExprStmt (Call (named "log") (with_expr (TextLiteral (codes "b")) no_exprs))) no_stmts)) ∷
          (FnItem (named "a") ((named "t") ∷ []) (with_stmt (ExprStmt (Call (named "log") (with_expr (Name (named "t")) no_exprs))) (with_stmt (ExprStmt (Call (named "cancelAnimationFrame") (with_expr (Number (pos 2)) no_exprs))) (with_stmt (ExprStmt (Call (named "requestAnimationFrame") (with_expr (Name (named "c")) no_exprs))) no_stmts)))) ∷
          (StmtItem (ExprStmt (Call (named "requestAnimationFrame") (with_expr (Name (named "a")) no_exprs)))) ∷
          (StmtItem (ExprStmt (Call (named "requestAnimationFrame") (with_expr (Name (named "b")) no_exprs)))) ∷
          [];
      names = codes "c" ∷ codes "b" ∷ codes "a" ∷ [];
    }

abbrev frame_callback_cancelled_in_its_frame_setup : Setup
frame_callback_cancelled_in_its_frame_setup =
    record { form = 1; trace = 1; policy = (Rank default_list); fuel = 1000000; until = 10000000; refresh = 50; late = []; latencies = []; arrivals = [] }

frame_callback_cancelled_in_its_frame : page_trace frame_callback_cancelled_in_its_frame_script frame_callback_cancelled_in_its_frame_setup four_hosts ([]) ≡ rows (
    codes "trace 1" ∷
    codes "0 turn 1 dom" ∷
    codes "0 call 1" ∷
    codes "0 reg 2 frame" ∷
    codes "0 reg 3 frame" ∷
    codes "0 ret" ∷
    codes "20000 wait 20000" ∷
    codes "20000 turn 2 render" ∷
    codes "20000 frame 20000" ∷
    codes "20000 call 2" ∷
    codes "20000 log 20000" ∷
    codes "20000 drop 3" ∷
    codes "20000 reg 4 frame" ∷
    codes "20000 ret" ∷
    codes "40000 wait 40000" ∷
    codes "40000 turn 3 render" ∷
    codes "40000 frame 40000" ∷
    codes "40000 call 4" ∷
    codes "40000 log 40000" ∷
    codes "40000 ret" ∷
    codes "40000 end done" ∷
    [])
unfolding page_trace run run_by
frame_callback_cancelled_in_its_frame = refl

--     fn a(d) { log(timeRemaining(d)); busy(60000); }
--     fn b(d) { log(timeRemaining(d)); }
--     requestIdleCallback(a, 0);
--     requestIdleCallback(b, 0);
abbrev idle_callback_past_its_deadline_script : Program
idle_callback_past_its_deadline_script =
    record {
      items =
          (FnItem (named "a") ((named "d") ∷ []) (with_stmt (ExprStmt (Call (named "log") (with_expr (Call (named "timeRemaining") (with_expr (Name (named "d")) no_exprs)) no_exprs))) (with_stmt (ExprStmt (Call (named "busy") (with_expr (Number (pos 60000)) no_exprs))) no_stmts))) ∷
          (FnItem (named "b") ((named "d") ∷ []) (with_stmt (ExprStmt (Call (named "log") (with_expr (Call (named "timeRemaining") (with_expr (Name (named "d")) no_exprs)) no_exprs))) no_stmts)) ∷
          (StmtItem (ExprStmt (Call (named "requestIdleCallback") (with_expr (Name (named "a")) (with_expr (Number (pos 0)) no_exprs))))) ∷
          (StmtItem (ExprStmt (Call (named "requestIdleCallback") (with_expr (Name (named "b")) (with_expr (Number (pos 0)) no_exprs))))) ∷
          [];
      names = codes "a" ∷ codes "b" ∷ [];
    }

abbrev idle_callback_past_its_deadline_setup : Setup
idle_callback_past_its_deadline_setup =
    record { form = 1; trace = 1; policy = (Rank default_list); fuel = 1000000; until = 10000000; refresh = 60; late = []; latencies = []; arrivals = [] }

idle_callback_past_its_deadline : page_trace idle_callback_past_its_deadline_script idle_callback_past_its_deadline_setup four_hosts ([]) ≡ rows (
    codes "trace 1" ∷
    codes "0 turn 1 dom" ∷
    codes "0 call 1" ∷
    codes "0 reg 2 idle" ∷
    codes "0 reg 3 idle" ∷
    codes "0 ret" ∷
    codes "0 period 50000" ∷
    codes "0 turn 2 idle" ∷
    codes "0 idle 50000" ∷
    codes "0 call 2" ∷
    codes "0 log 50000" ∷
    codes "60000 ret" ∷
    codes "60000 turn 3 idle" ∷
    codes "60000 period 110000" ∷
    codes "60000 turn 4 idle" ∷
    codes "60000 idle 110000" ∷
    codes "60000 call 3" ∷
    codes "60000 log 50000" ∷
    codes "60000 ret" ∷
    codes "60000 end done" ∷
    [])
unfolding page_trace run run_by
idle_callback_past_its_deadline = refl

--     fn a(d) { log(timeRemaining(d)); busy(60000); }
--     fn b(d) { log(timeRemaining(d)); }
--     requestIdleCallback(a, 0);
--     requestIdleCallback(b, 0);
--     fn g() {}
--     setTimeout(g, 20);
abbrev idle_deadline_lowered_to_a_timer_script : Program
idle_deadline_lowered_to_a_timer_script =
    record {
      items =
          (FnItem (named "a") ((named "d") ∷ []) (with_stmt (ExprStmt (Call (named "log") (with_expr (Call (named "timeRemaining") (with_expr (Name (named "d")) no_exprs)) no_exprs))) (with_stmt (ExprStmt (Call (named "busy") (with_expr (Number (pos 60000)) no_exprs))) no_stmts))) ∷
          (FnItem (named "b") ((named "d") ∷ []) (with_stmt (ExprStmt (Call (named "log") (with_expr (Call (named "timeRemaining") (with_expr (Name (named "d")) no_exprs)) no_exprs))) no_stmts)) ∷
          (StmtItem (ExprStmt (Call (named "requestIdleCallback") (with_expr (Name (named "a")) (with_expr (Number (pos 0)) no_exprs))))) ∷
          (StmtItem (ExprStmt (Call (named "requestIdleCallback") (with_expr (Name (named "b")) (with_expr (Number (pos 0)) no_exprs))))) ∷
          (FnItem (named "g") ([]) no_stmts) ∷
          (StmtItem (ExprStmt (Call (named "setTimeout") (with_expr (Name (named "g")) (with_expr (Number (pos 20)) no_exprs))))) ∷
          [];
      names = codes "a" ∷ codes "b" ∷ codes "g" ∷ [];
    }

abbrev idle_deadline_lowered_to_a_timer_setup : Setup
idle_deadline_lowered_to_a_timer_setup =
    record { form = 1; trace = 1; policy = (Rank default_list); fuel = 1000000; until = 10000000; refresh = 60; late = []; latencies = []; arrivals = [] }

idle_deadline_lowered_to_a_timer : logs_of (page_trace idle_deadline_lowered_to_a_timer_script idle_deadline_lowered_to_a_timer_setup four_hosts ([])) ≡ rows (
    codes "0 20000" ∷
    codes "60000 50000" ∷
    [])
unfolding page_trace run run_by
idle_deadline_lowered_to_a_timer = refl

--     fn g() { log("g"); }
--     fn h() { setTimeout(g, 0); busy(15000); }
--     fn f(d) { log(didTimeout(d)); log(timeRemaining(d)); }
--     requestIdleCallback(f, 10);
--     setTimeout(h, 0);
abbrev idle_timeout_has_no_time_remaining_script : Program
idle_timeout_has_no_time_remaining_script =
    record {
      items =
          (FnItem (named "g") ([]) (with_stmt (ExprStmt (Call (named "log") (with_expr (TextLiteral (codes "g")) no_exprs))) no_stmts)) ∷
          (FnItem (named "h") ([]) (with_stmt (ExprStmt (Call (named "setTimeout") (with_expr (Name (named "g")) (with_expr (Number (pos 0)) no_exprs)))) (with_stmt (ExprStmt (Call (named "busy") (with_expr (Number (pos 15000)) no_exprs))) no_stmts))) ∷
          (FnItem (named "f") ((named "d") ∷ []) (with_stmt (ExprStmt (Call (named "log") (with_expr (Call (named "didTimeout") (with_expr (Name (named "d")) no_exprs)) no_exprs))) (with_stmt (ExprStmt (Call (named "log") (with_expr (Call (named "timeRemaining") (with_expr (Name (named "d")) no_exprs)) no_exprs))) no_stmts))) ∷
          (StmtItem (ExprStmt (Call (named "requestIdleCallback") (with_expr (Name (named "f")) (with_expr (Number (pos 10)) no_exprs))))) ∷
          (StmtItem (ExprStmt (Call (named "setTimeout") (with_expr (Name (named "h")) (with_expr (Number (pos 0)) no_exprs))))) ∷
          [];
      names = codes "g" ∷ codes "h" ∷ codes "f" ∷ [];
    }

abbrev idle_timeout_has_no_time_remaining_setup : Setup
idle_timeout_has_no_time_remaining_setup =
    record { form = 1; trace = 1; policy = (Rank default_list); fuel = 1000000; until = 10000000; refresh = 60; late = []; latencies = []; arrivals = [] }

idle_timeout_has_no_time_remaining : page_trace idle_timeout_has_no_time_remaining_script idle_timeout_has_no_time_remaining_setup four_hosts ([]) ≡ rows (
    codes "trace 1" ∷
    codes "0 turn 1 dom" ∷
    codes "0 call 1" ∷
    codes "0 reg 2 idle" ∷
    codes "0 arm 2 10000 0" ∷
    codes "0 reg 3 timeout" ∷
    codes "0 arm 3 0 1" ∷
    codes "0 ret" ∷
    codes "0 due 3" ∷
    codes "0 turn 2 timer" ∷
    codes "0 call 3" ∷
    codes "0 reg 4 timeout" ∷
    codes "0 arm 4 0 2" ∷
    codes "15000 ret" ∷
    codes "15000 due 4" ∷
    codes "15000 due 2" ∷
    codes "15000 turn 3 timer" ∷
    codes "15000 call 4" ∷
    codes "15000 log \"g\"" ∷
    codes "15000 ret" ∷
    codes "15000 turn 4 idle" ∷
    codes "15000 call 2" ∷
    codes "15000 log true" ∷
    codes "15000 log 0" ∷
    codes "15000 ret" ∷
    codes "15000 end done" ∷
    [])
unfolding page_trace run run_by
idle_timeout_has_no_time_remaining = refl
