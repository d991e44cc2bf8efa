-- Worked examples, computed: frames, idle periods and signals together, further ones.
use Rattle.std.specs.Prelude.{◌≡◌, [], ◌∷◌, Some, pos, codes, refl}
use Rattle.page_types.specs.Values.{IntValue, TextValue}
use Rattle.page_types.specs.declared.CompareSign.TheVariants.{Equals}
use Rattle.page_types.specs.declared.Source.TheVariants.{User, Net, Dom, Timer, Render, Sched, Idle}
use Rattle.page_types.specs.Tree.{Compare, Sum, Number, TextLiteral, UnitLiteral, Name, Call, ListLiteral, no_exprs, with_expr, no_terms, with_term, VarStmt, AssignStmt, ExprStmt, IfStmt, ReturnStmt, ThrowStmt, no_stmts, with_stmt, no_else_ifs, no_else, FnItem, StmtItem, Program}
use Rattle.page_types.specs.declared.SumSign.TheVariants.{Minus}
use Rattle.page_parts.specs.Setup.{Setup, Rank}
use Rattle.page_parts.specs.Sources.{default_list}
use Rattle.page_model.specs.Turns.{run, run_by}
use Rattle.page_model.specs.PageTrace.{page_trace}
use Rattle.page_model.proofs.Examples.Sample.{named, four_hosts, rows}

-- A dependent that the first abort has reached keeps its reason when a listener aborts its second source; aborting that one again does nothing.
--     fn l(s) { log(s); abort(d, "second"); log(reason(signal(d))); }
--     var c = controller();
--     var d = controller();
--     var e = anySignal([signal(c), signal(d)]);
--     listen(e, "abort", l);
--     listen(signal(d), "abort", l);
--     abort(c, "first");
--     log(reason(e));
abbrev abort_of_a_second_source_inside_the_abort_of_the_first_script : Program
abort_of_a_second_source_inside_the_abort_of_the_first_script =
    record {
      items =
          (FnItem (named "l") ((named "s") ∷ []) (with_stmt (ExprStmt (Call (named "log") (with_expr (Name (named "s")) no_exprs))) (with_stmt (ExprStmt (Call (named "abort") (with_expr (Name (named "d")) (with_expr (TextLiteral (codes "second")) no_exprs)))) (with_stmt (ExprStmt (Call (named "log") (with_expr (Call (named "reason") (with_expr (Call (named "signal") (with_expr (Name (named "d")) no_exprs)) no_exprs)) no_exprs))) no_stmts)))) ∷
          (StmtItem (VarStmt (named "c") (Call (named "controller") no_exprs))) ∷
          (StmtItem (VarStmt (named "d") (Call (named "controller") no_exprs))) ∷
          (StmtItem (VarStmt (named "e") (Call (named "anySignal") (with_expr (ListLiteral (with_expr (Call (named "signal") (with_expr (Name (named "c")) no_exprs)) (with_expr (Call (named "signal") (with_expr (Name (named "d")) no_exprs)) no_exprs))) no_exprs)))) ∷
          (StmtItem (ExprStmt (Call (named "listen") (with_expr (Name (named "e")) (with_expr (TextLiteral (codes "abort")) (with_expr (Name (named "l")) no_exprs)))))) ∷
          (StmtItem (ExprStmt (Call (named "listen") (with_expr (Call (named "signal") (with_expr (Name (named "d")) no_exprs)) (with_expr (TextLiteral (codes "abort")) (with_expr (Name (named "l")) no_exprs)))))) ∷
          (StmtItem (ExprStmt (Call (named "abort") (with_expr (Name (named "c")) (with_expr (TextLiteral (codes "first")) no_exprs))))) ∷
          (StmtItem (ExprStmt (Call (named "log") (with_expr (Call (named "reason") (with_expr (Name (named "e")) no_exprs)) no_exprs)))) ∷
          [];
      names = codes "l" ∷ [];
    }

abbrev abort_of_a_second_source_inside_the_abort_of_the_first_setup : Setup
abort_of_a_second_source_inside_the_abort_of_the_first_setup =
    record { form = 1; trace = 1; policy = (Rank default_list); fuel = 1000000; until = 10000000; refresh = 60; late = []; latencies = []; arrivals = [] }

abort_of_a_second_source_inside_the_abort_of_the_first : page_trace abort_of_a_second_source_inside_the_abort_of_the_first_script abort_of_a_second_source_inside_the_abort_of_the_first_setup four_hosts ([]) ≡ rows (
    codes "trace 1" ∷
    codes "0 turn 1 dom" ∷
    codes "0 call 1" ∷
    codes "0 reg 2 listener" ∷
    codes "0 reg 3 listener" ∷
    codes "0 abort 1" ∷
    codes "0 abort 3" ∷
    codes "0 call 2" ∷
    codes "0 log signal#3" ∷
    codes "0 abort 2" ∷
    codes "0 call 3" ∷
    codes "0 log signal#2" ∷
    codes "0 log \"second\"" ∷
    codes "0 ret" ∷
    codes "0 log \"second\"" ∷
    codes "0 ret" ∷
    codes "0 log \"first\"" ∷
    codes "0 ret" ∷
    codes "0 end done" ∷
    [])
unfolding page_trace run run_by
abort_of_a_second_source_inside_the_abort_of_the_first = refl

-- The listeners of a dispatch are those of its start: one removed since is skipped, one added since waits for the next event.
--     var n = 0;
--     fn c(v) { log("c"); }
--     fn b(v) { log("b"); }
--     fn a(v) { log("a"); unlisten(n); unlisten(n); listen(unit, "e", c); }
--     listen(unit, "e", a);
--     n = listen(unit, "e", b);
abbrev listener_added_and_removed_during_its_dispatch_script : Program
listener_added_and_removed_during_its_dispatch_script =
    record {
      items =
          (StmtItem (VarStmt (named "n") (Number (pos 0)))) ∷
          (FnItem (named "c") ((named "v") ∷ []) (with_stmt (ExprStmt (Call (named "log") (with_expr (TextLiteral (codes "c")) no_exprs))) no_stmts)) ∷
          (FnItem (named "b") ((named "v") ∷ []) (with_stmt (ExprStmt (Call (named "log") (with_expr (TextLiteral (codes "b")) no_exprs))) no_stmts)) ∷
          (FnItem (named "a") ((named "v") ∷ []) (with_stmt (ExprStmt (Call (named "log") (with_expr (TextLiteral (codes "a")) no_exprs))) (with_stmt (ExprStmt (Call (named "unlisten") (with_expr (Name (named "n")) no_exprs))) (with_stmt (ExprStmt (Call (named "unlisten") (with_expr (Name (named "n")) no_exprs))) (with_stmt (ExprStmt (Call (named "listen") (with_expr UnitLiteral (with_expr (TextLiteral (codes "e")) (with_expr (Name (named "c")) no_exprs))))) no_stmts))))) ∷
          (StmtItem (ExprStmt (Call (named "listen") (with_expr UnitLiteral (with_expr (TextLiteral (codes "e")) (with_expr (Name (named "a")) no_exprs)))))) ∷
          (StmtItem (AssignStmt (named "n") (Call (named "listen") (with_expr UnitLiteral (with_expr (TextLiteral (codes "e")) (with_expr (Name (named "b")) no_exprs)))))) ∷
          [];
      names = codes "c" ∷ codes "b" ∷ codes "a" ∷ [];
    }

abbrev listener_added_and_removed_during_its_dispatch_setup : Setup
listener_added_and_removed_during_its_dispatch_setup =
    record { form = 1; trace = 1; policy = (Rank default_list); fuel = 1000000; until = 10000000; refresh = 60; late = []; latencies = []; arrivals = record { at = 5; source = User; name = codes "e"; value = (IntValue (pos 1)) } ∷ record { at = 5; source = User; name = codes "e"; value = (IntValue (pos 2)) } ∷ [] }

listener_added_and_removed_during_its_dispatch : page_trace listener_added_and_removed_during_its_dispatch_script listener_added_and_removed_during_its_dispatch_setup four_hosts ([]) ≡ rows (
    codes "trace 1" ∷
    codes "0 turn 1 dom" ∷
    codes "0 call 1" ∷
    codes "0 reg 2 listener" ∷
    codes "0 reg 3 listener" ∷
    codes "0 ret" ∷
    codes "5 wait 5" ∷
    codes "5 turn 2 user" ∷
    codes "5 call 2" ∷
    codes "5 log \"a\"" ∷
    codes "5 drop 3" ∷
    codes "5 reg 4 listener" ∷
    codes "5 ret" ∷
    codes "5 turn 3 user" ∷
    codes "5 call 2" ∷
    codes "5 log \"a\"" ∷
    codes "5 reg 5 listener" ∷
    codes "5 ret" ∷
    codes "5 call 4" ∷
    codes "5 log \"c\"" ∷
    codes "5 ret" ∷
    codes "5 end done" ∷
    [])
unfolding page_trace run run_by
listener_added_and_removed_during_its_dispatch = refl

-- A listener that the script's own abort runs throws: it is reported at once, as no checkpoint follows, and the next listener is called. The microtask
-- waits for the end of the script.
--     fn m() { log("m"); }
--     fn a(s) { queueMicrotask(m); throw 1; }
--     fn b(s) { log("b"); }
--     var c = controller();
--     listen(signal(c), "abort", a);
--     listen(signal(c), "abort", b);
--     abort(c, unit);
--     log(reason(signal(c)));
abbrev listener_throws_inside_a_script_abort_script : Program
listener_throws_inside_a_script_abort_script =
    record {
      items =
          (FnItem (named "m") ([]) (with_stmt (ExprStmt (Call (named "log") (with_expr (TextLiteral (codes "m")) no_exprs))) no_stmts)) ∷
          (FnItem (named "a") ((named "s") ∷ []) (with_stmt (ExprStmt (Call (named "queueMicrotask") (with_expr (Name (named "m")) no_exprs))) (with_stmt (ThrowStmt (Number (pos 1))) no_stmts))) ∷
          (FnItem (named "b") ((named "s") ∷ []) (with_stmt (ExprStmt (Call (named "log") (with_expr (TextLiteral (codes "b")) no_exprs))) no_stmts)) ∷
          (StmtItem (VarStmt (named "c") (Call (named "controller") no_exprs))) ∷
          (StmtItem (ExprStmt (Call (named "listen") (with_expr (Call (named "signal") (with_expr (Name (named "c")) no_exprs)) (with_expr (TextLiteral (codes "abort")) (with_expr (Name (named "a")) no_exprs)))))) ∷
          (StmtItem (ExprStmt (Call (named "listen") (with_expr (Call (named "signal") (with_expr (Name (named "c")) no_exprs)) (with_expr (TextLiteral (codes "abort")) (with_expr (Name (named "b")) no_exprs)))))) ∷
          (StmtItem (ExprStmt (Call (named "abort") (with_expr (Name (named "c")) (with_expr UnitLiteral no_exprs))))) ∷
          (StmtItem (ExprStmt (Call (named "log") (with_expr (Call (named "reason") (with_expr (Call (named "signal") (with_expr (Name (named "c")) no_exprs)) no_exprs)) no_exprs)))) ∷
          [];
      names = codes "m" ∷ codes "a" ∷ codes "b" ∷ [];
    }

abbrev listener_throws_inside_a_script_abort_setup : Setup
listener_throws_inside_a_script_abort_setup =
    record { form = 1; trace = 1; policy = (Rank default_list); fuel = 1000000; until = 10000000; refresh = 60; late = []; latencies = []; arrivals = [] }

listener_throws_inside_a_script_abort : page_trace listener_throws_inside_a_script_abort_script listener_throws_inside_a_script_abort_setup four_hosts ([]) ≡ rows (
    codes "trace 1" ∷
    codes "0 turn 1 dom" ∷
    codes "0 call 1" ∷
    codes "0 reg 2 listener" ∷
    codes "0 reg 3 listener" ∷
    codes "0 abort 1" ∷
    codes "0 call 2" ∷
    codes "0 reg 4 micro" ∷
    codes "0 job 1 micro 4" ∷
    codes "0 throw 1" ∷
    codes "0 report 1" ∷
    codes "0 call 3" ∷
    codes "0 log \"b\"" ∷
    codes "0 ret" ∷
    codes "0 log AbortError(\"\")" ∷
    codes "0 ret" ∷
    codes "0 run 1" ∷
    codes "0 call 4" ∷
    codes "0 log \"m\"" ∷
    codes "0 ret" ∷
    codes "0 end done" ∷
    [])
unfolding page_trace run run_by
listener_throws_inside_a_script_abort = refl

-- With 256 calls open a listener is called and throws at once, which is reported; the abort has happened, and the script goes on.
--     fn l(s) { log("l"); }
--     fn r(n) { if (n == 0) { abort(c, unit); return 0; } return r(n - 1); }
--     var c = controller();
--     listen(signal(c), "abort", l);
--     r(254);
abbrev listener_past_the_greatest_depth_script : Program
listener_past_the_greatest_depth_script =
    record {
      items =
          (FnItem (named "l") ((named "s") ∷ []) (with_stmt (ExprStmt (Call (named "log") (with_expr (TextLiteral (codes "l")) no_exprs))) no_stmts)) ∷
          (FnItem (named "r") ((named "n") ∷ []) (with_stmt (IfStmt (Compare (Name (named "n")) Equals (Number (pos 0))) (with_stmt (ExprStmt (Call (named "abort") (with_expr (Name (named "c")) (with_expr UnitLiteral no_exprs)))) (with_stmt (ReturnStmt (Some (Number (pos 0)))) no_stmts)) no_else_ifs no_else) (with_stmt (ReturnStmt (Some (Call (named "r") (with_expr (Sum (Name (named "n")) (with_term Minus (Number (pos 1)) no_terms)) no_exprs)))) no_stmts))) ∷
          (StmtItem (VarStmt (named "c") (Call (named "controller") no_exprs))) ∷
          (StmtItem (ExprStmt (Call (named "listen") (with_expr (Call (named "signal") (with_expr (Name (named "c")) no_exprs)) (with_expr (TextLiteral (codes "abort")) (with_expr (Name (named "l")) no_exprs)))))) ∷
          (StmtItem (ExprStmt (Call (named "r") (with_expr (Number (pos 254)) no_exprs)))) ∷
          [];
      names = codes "l" ∷ codes "r" ∷ [];
    }

abbrev listener_past_the_greatest_depth_setup : Setup
listener_past_the_greatest_depth_setup =
    record { form = 1; trace = 1; policy = (Rank default_list); fuel = 1000000; until = 10000000; refresh = 60; late = []; latencies = []; arrivals = [] }

listener_past_the_greatest_depth : page_trace listener_past_the_greatest_depth_script listener_past_the_greatest_depth_setup four_hosts ([]) ≡ rows (
    codes "trace 1" ∷
    codes "0 turn 1 dom" ∷
    codes "0 call 1" ∷
    codes "0 reg 2 listener" ∷
    codes "0 abort 1" ∷
    codes "0 call 2" ∷
    codes "0 throw RangeError(\"\")" ∷
    codes "0 report RangeError(\"\")" ∷
    codes "0 ret" ∷
    codes "0 end done" ∷
    [])
unfolding page_trace run run_by
listener_past_the_greatest_depth = refl

-- An arrival at the moment of the rendering opportunity is served first and cancels the only frame callback, also one that it requested itself. The
-- render task writes its line and calls nothing.
--     fn a(t) { log(t); }
--     fn e(v) { cancelAnimationFrame(1); requestAnimationFrame(a); cancelAnimationFrame(2); log(v); }
--     requestAnimationFrame(a);
--     listen(unit, "e", e);
abbrev frame_cancelled_while_its_render_task_waits_script : Program
frame_cancelled_while_its_render_task_waits_script =
    record {
      items =
          (FnItem (named "a") ((named "t") ∷ []) (with_stmt (ExprStmt (Call (named "log") (with_expr (Name (named "t")) no_exprs))) no_stmts)) ∷
          (FnItem (named "e") ((named "v") ∷ []) (with_stmt (ExprStmt (Call (named "cancelAnimationFrame") (with_expr (Number (pos 1)) no_exprs))) (with_stmt (ExprStmt (Call (named "requestAnimationFrame") (with_expr (Name (named "a")) no_exprs))) (with_stmt (ExprStmt (Call (named "cancelAnimationFrame") (with_expr (Number (pos 2)) no_exprs))) (with_stmt (ExprStmt (Call (named "log") (with_expr (Name (named "v")) no_exprs))) no_stmts))))) ∷
          (StmtItem (ExprStmt (Call (named "requestAnimationFrame") (with_expr (Name (named "a")) no_exprs)))) ∷
          (StmtItem (ExprStmt (Call (named "listen") (with_expr UnitLiteral (with_expr (TextLiteral (codes "e")) (with_expr (Name (named "e")) no_exprs)))))) ∷
          [];
      names = codes "a" ∷ codes "e" ∷ [];
    }

abbrev frame_cancelled_while_its_render_task_waits_setup : Setup
frame_cancelled_while_its_render_task_waits_setup =
    record { form = 1; trace = 1; policy = (Rank default_list); fuel = 1000000; until = 10000000; refresh = 50; late = []; latencies = []; arrivals = record { at = 20000; source = User; name = codes "e"; value = (TextValue (codes "x")) } ∷ [] }

frame_cancelled_while_its_render_task_waits : page_trace frame_cancelled_while_its_render_task_waits_script frame_cancelled_while_its_render_task_waits_setup four_hosts ([]) ≡ rows (
    codes "trace 1" ∷
    codes "0 turn 1 dom" ∷
    codes "0 call 1" ∷
    codes "0 reg 2 frame" ∷
    codes "0 reg 3 listener" ∷
    codes "0 ret" ∷
    codes "20000 wait 20000" ∷
    codes "20000 turn 2 user" ∷
    codes "20000 call 3" ∷
    codes "20000 drop 2" ∷
    codes "20000 reg 4 frame" ∷
    codes "20000 drop 4" ∷
    codes "20000 log \"x\"" ∷
    codes "20000 ret" ∷
    codes "20000 turn 3 render" ∷
    codes "20000 frame 20000" ∷
    codes "20000 end done" ∷
    [])
unfolding page_trace run run_by
frame_cancelled_while_its_render_task_waits = refl

-- Timers are served before the render task and take so long that two opportunities pass. None is taken while the render task waits, so its timestamp
-- stays the first one, and its frame has the callbacks that were requested meanwhile.
--     fn b(t) { log(t); }
--     fn a(t) { log(t); log(now()); }
--     fn z() { busy(30000); requestAnimationFrame(b); }
--     requestAnimationFrame(a);
--     setTimeout(z, 20);
--     setTimeout(z, 20);
abbrev no_opportunity_while_a_render_task_waits_script : Program
no_opportunity_while_a_render_task_waits_script =
    record {
      items =
          (FnItem (named "b") ((named "t") ∷ []) (with_stmt (ExprStmt (Call (named "log") (with_expr (Name (named "t")) no_exprs))) no_stmts)) ∷
          (FnItem (named "a") ((named "t") ∷ []) (with_stmt (ExprStmt (Call (named "log") (with_expr (Name (named "t")) no_exprs))) (with_stmt (ExprStmt (Call (named "log") (with_expr (Call (named "now") no_exprs) no_exprs))) no_stmts))) ∷
          (FnItem (named "z") ([]) (with_stmt (ExprStmt (Call (named "busy") (with_expr (Number (pos 30000)) no_exprs))) (with_stmt (ExprStmt (Call (named "requestAnimationFrame") (with_expr (Name (named "b")) no_exprs))) no_stmts))) ∷
          (StmtItem (ExprStmt (Call (named "requestAnimationFrame") (with_expr (Name (named "a")) no_exprs)))) ∷
          (StmtItem (ExprStmt (Call (named "setTimeout") (with_expr (Name (named "z")) (with_expr (Number (pos 20)) no_exprs))))) ∷
          (StmtItem (ExprStmt (Call (named "setTimeout") (with_expr (Name (named "z")) (with_expr (Number (pos 20)) no_exprs))))) ∷
          [];
      names = codes "b" ∷ codes "a" ∷ codes "z" ∷ [];
    }

abbrev no_opportunity_while_a_render_task_waits_setup : Setup
no_opportunity_while_a_render_task_waits_setup =
    record { form = 1; trace = 1; policy = (Rank (Timer ∷ Sched ∷ User ∷ Net ∷ Dom ∷ Idle ∷ Render ∷ [])); fuel = 1000000; until = 10000000; refresh = 50; late = []; latencies = []; arrivals = [] }

no_opportunity_while_a_render_task_waits : page_trace no_opportunity_while_a_render_task_waits_script no_opportunity_while_a_render_task_waits_setup four_hosts ([]) ≡ rows (
    codes "trace 1" ∷
    codes "0 turn 1 dom" ∷
    codes "0 call 1" ∷
    codes "0 reg 2 frame" ∷
    codes "0 reg 3 timeout" ∷
    codes "0 arm 3 20000 1" ∷
    codes "0 reg 4 timeout" ∷
    codes "0 arm 4 20000 1" ∷
    codes "0 ret" ∷
    codes "20000 wait 20000" ∷
    codes "20000 due 3" ∷
    codes "20000 due 4" ∷
    codes "20000 turn 2 timer" ∷
    codes "20000 call 3" ∷
    codes "50000 reg 5 frame" ∷
    codes "50000 ret" ∷
    codes "50000 turn 3 timer" ∷
    codes "50000 call 4" ∷
    codes "80000 reg 6 frame" ∷
    codes "80000 ret" ∷
    codes "80000 turn 4 render" ∷
    codes "80000 frame 20000" ∷
    codes "80000 call 2" ∷
    codes "80000 log 20000" ∷
    codes "80000 log 80000" ∷
    codes "80000 ret" ∷
    codes "80000 call 5" ∷
    codes "80000 log 20000" ∷
    codes "80000 ret" ∷
    codes "80000 call 6" ∷
    codes "80000 log 20000" ∷
    codes "80000 ret" ∷
    codes "80000 end done" ∷
    [])
unfolding page_trace run run_by
no_opportunity_while_a_render_task_waits = refl

-- A cleared timeout stays an active timer, so it lowers the deadline, as the delay of a posted task would; its task has a turn and does nothing.
--     fn z() { log("z"); }
--     fn i(d) { log(timeRemaining(d)); }
--     clearTimeout(setTimeout(z, 7));
--     postTask(z, unit, unit, 30);
--     requestIdleCallback(i, 0);
abbrev idle_deadline_lowered_to_a_cleared_timer_script : Program
idle_deadline_lowered_to_a_cleared_timer_script =
    record {
      items =
          (FnItem (named "z") ([]) (with_stmt (ExprStmt (Call (named "log") (with_expr (TextLiteral (codes "z")) no_exprs))) no_stmts)) ∷
          (FnItem (named "i") ((named "d") ∷ []) (with_stmt (ExprStmt (Call (named "log") (with_expr (Call (named "timeRemaining") (with_expr (Name (named "d")) no_exprs)) no_exprs))) no_stmts)) ∷
          (StmtItem (ExprStmt (Call (named "clearTimeout") (with_expr (Call (named "setTimeout") (with_expr (Name (named "z")) (with_expr (Number (pos 7)) no_exprs))) no_exprs)))) ∷
          (StmtItem (ExprStmt (Call (named "postTask") (with_expr (Name (named "z")) (with_expr UnitLiteral (with_expr UnitLiteral (with_expr (Number (pos 30)) no_exprs))))))) ∷
          (StmtItem (ExprStmt (Call (named "requestIdleCallback") (with_expr (Name (named "i")) (with_expr (Number (pos 0)) no_exprs))))) ∷
          [];
      names = codes "z" ∷ codes "i" ∷ [];
    }

abbrev idle_deadline_lowered_to_a_cleared_timer_setup : Setup
idle_deadline_lowered_to_a_cleared_timer_setup =
    record { form = 1; trace = 1; policy = (Rank default_list); fuel = 1000000; until = 10000000; refresh = 60; late = []; latencies = []; arrivals = [] }

idle_deadline_lowered_to_a_cleared_timer : page_trace idle_deadline_lowered_to_a_cleared_timer_script idle_deadline_lowered_to_a_cleared_timer_setup four_hosts ([]) ≡ rows (
    codes "trace 1" ∷
    codes "0 turn 1 dom" ∷
    codes "0 call 1" ∷
    codes "0 reg 2 timeout" ∷
    codes "0 arm 2 7000 1" ∷
    codes "0 drop 2" ∷
    codes "0 reg 3 post" ∷
    codes "0 arm 3 30000 0" ∷
    codes "0 reg 4 idle" ∷
    codes "0 ret" ∷
    codes "0 period 7000" ∷
    codes "0 turn 2 idle" ∷
    codes "0 idle 7000" ∷
    codes "0 call 4" ∷
    codes "0 log 7000" ∷
    codes "0 ret" ∷
    codes "7000 wait 7000" ∷
    codes "7000 due 2" ∷
    codes "7000 turn 3 timer" ∷
    codes "30000 wait 30000" ∷
    codes "30000 due 3" ∷
    codes "30000 enq 3 user-visible task 4" ∷
    codes "30000 turn 4 sched" ∷
    codes "30000 call 3" ∷
    codes "30000 log \"z\"" ∷
    codes "30000 ret" ∷
    codes "30000 settle 1 ok unit" ∷
    codes "30000 end done" ∷
    [])
unfolding page_trace run run_by
idle_deadline_lowered_to_a_cleared_timer = refl

-- After the first idle callback its task is queued again for the second one, behind the background task that the first one posted, which is served
-- before it.
--     fn p() { log("p"); }
--     fn i(d) { postTask(p, "background", unit, 0); log("i"); }
--     fn j(d) { log("j"); }
--     requestIdleCallback(i, 0);
--     requestIdleCallback(j, 0);
abbrev task_between_two_idle_callbacks_script : Program
task_between_two_idle_callbacks_script =
    record {
      items =
          (FnItem (named "p") ([]) (with_stmt (ExprStmt (Call (named "log") (with_expr (TextLiteral (codes "p")) no_exprs))) no_stmts)) ∷
          (FnItem (named "i") ((named "d") ∷ []) (with_stmt (ExprStmt (Call (named "postTask") (with_expr (Name (named "p")) (with_expr (TextLiteral (codes "background")) (with_expr UnitLiteral (with_expr (Number (pos 0)) no_exprs)))))) (with_stmt (ExprStmt (Call (named "log") (with_expr (TextLiteral (codes "i")) no_exprs))) no_stmts))) ∷
          (FnItem (named "j") ((named "d") ∷ []) (with_stmt (ExprStmt (Call (named "log") (with_expr (TextLiteral (codes "j")) no_exprs))) no_stmts)) ∷
          (StmtItem (ExprStmt (Call (named "requestIdleCallback") (with_expr (Name (named "i")) (with_expr (Number (pos 0)) no_exprs))))) ∷
          (StmtItem (ExprStmt (Call (named "requestIdleCallback") (with_expr (Name (named "j")) (with_expr (Number (pos 0)) no_exprs))))) ∷
          [];
      names = codes "p" ∷ codes "i" ∷ codes "j" ∷ [];
    }

abbrev task_between_two_idle_callbacks_setup : Setup
task_between_two_idle_callbacks_setup =
    record { form = 1; trace = 1; policy = (Rank default_list); fuel = 1000000; until = 10000000; refresh = 60; late = []; latencies = []; arrivals = [] }

task_between_two_idle_callbacks : page_trace task_between_two_idle_callbacks_script task_between_two_idle_callbacks_setup four_hosts ([]) ≡ rows (
    codes "trace 1" ∷
    codes "0 turn 1 dom" ∷
    codes "0 call 1" ∷
    codes "0 reg 2 idle" ∷
    codes "0 reg 3 idle" ∷
    codes "0 ret" ∷
    codes "0 period 50000" ∷
    codes "0 turn 2 idle" ∷
    codes "0 idle 50000" ∷
    codes "0 call 2" ∷
    codes "0 reg 4 post" ∷
    codes "0 enq 4 background task 3" ∷
    codes "0 log \"i\"" ∷
    codes "0 ret" ∷
    codes "0 turn 3 sched" ∷
    codes "0 call 4" ∷
    codes "0 log \"p\"" ∷
    codes "0 ret" ∷
    codes "0 settle 1 ok unit" ∷
    codes "0 turn 4 idle" ∷
    codes "0 idle 50000" ∷
    codes "0 call 3" ∷
    codes "0 log \"j\"" ∷
    codes "0 ret" ∷
    codes "0 end done" ∷
    [])
unfolding page_trace run run_by
task_between_two_idle_callbacks = refl

-- A script keeps the deadline of its period and asks it later. It is computed again: first an active timer lowers it, and then it counts from the last
-- idle step, which came at the end of the turn before though no period started then.
--     var k = unit;
--     fn i(d) { k = d; }
--     fn t() { log(timeRemaining(k)); }
--     requestIdleCallback(i, 0);
--     setTimeout(t, 10);
--     setTimeout(t, 20);
abbrev deadline_kept_after_its_callback_script : Program
deadline_kept_after_its_callback_script =
    record {
      items =
          (StmtItem (VarStmt (named "k") UnitLiteral)) ∷
          (FnItem (named "i") ((named "d") ∷ []) (with_stmt (AssignStmt (named "k") (Name (named "d"))) no_stmts)) ∷
          (FnItem (named "t") ([]) (with_stmt (ExprStmt (Call (named "log") (with_expr (Call (named "timeRemaining") (with_expr (Name (named "k")) no_exprs)) no_exprs))) no_stmts)) ∷
          (StmtItem (ExprStmt (Call (named "requestIdleCallback") (with_expr (Name (named "i")) (with_expr (Number (pos 0)) no_exprs))))) ∷
          (StmtItem (ExprStmt (Call (named "setTimeout") (with_expr (Name (named "t")) (with_expr (Number (pos 10)) no_exprs))))) ∷
          (StmtItem (ExprStmt (Call (named "setTimeout") (with_expr (Name (named "t")) (with_expr (Number (pos 20)) no_exprs))))) ∷
          [];
      names = codes "i" ∷ codes "t" ∷ [];
    }

abbrev deadline_kept_after_its_callback_setup : Setup
deadline_kept_after_its_callback_setup =
    record { form = 1; trace = 1; policy = (Rank default_list); fuel = 1000000; until = 10000000; refresh = 60; late = []; latencies = []; arrivals = [] }

deadline_kept_after_its_callback : page_trace deadline_kept_after_its_callback_script deadline_kept_after_its_callback_setup four_hosts ([]) ≡ rows (
    codes "trace 1" ∷
    codes "0 turn 1 dom" ∷
    codes "0 call 1" ∷
    codes "0 reg 2 idle" ∷
    codes "0 reg 3 timeout" ∷
    codes "0 arm 3 10000 1" ∷
    codes "0 reg 4 timeout" ∷
    codes "0 arm 4 20000 1" ∷
    codes "0 ret" ∷
    codes "0 period 10000" ∷
    codes "0 turn 2 idle" ∷
    codes "0 idle 10000" ∷
    codes "0 call 2" ∷
    codes "0 ret" ∷
    codes "10000 wait 10000" ∷
    codes "10000 due 3" ∷
    codes "10000 turn 3 timer" ∷
    codes "10000 call 3" ∷
    codes "10000 log 10000" ∷
    codes "10000 ret" ∷
    codes "20000 wait 20000" ∷
    codes "20000 due 4" ∷
    codes "20000 turn 4 timer" ∷
    codes "20000 call 4" ∷
    codes "20000 log 40000" ∷
    codes "20000 ret" ∷
    codes "20000 end done" ∷
    [])
unfolding page_trace run run_by
deadline_kept_after_its_callback = refl

-- The first of two runnable idle callbacks cancels the second, so the task is not queued again.
--     fn i(d) { cancelIdleCallback(2); log("i"); }
--     fn j(d) { log("j"); }
--     requestIdleCallback(i, 0);
--     requestIdleCallback(j, 0);
abbrev runnable_idle_callback_cancelled_script : Program
runnable_idle_callback_cancelled_script =
    record {
      items =
          (FnItem (named "i") ((named "d") ∷ []) (with_stmt (ExprStmt (Call (named "cancelIdleCallback") (with_expr (Number (pos 2)) no_exprs))) (with_stmt (ExprStmt (Call (named "log") (with_expr (TextLiteral (codes "i")) no_exprs))) no_stmts))) ∷
          (FnItem (named "j") ((named "d") ∷ []) (with_stmt (ExprStmt (Call (named "log") (with_expr (TextLiteral (codes "j")) no_exprs))) no_stmts)) ∷
          (StmtItem (ExprStmt (Call (named "requestIdleCallback") (with_expr (Name (named "i")) (with_expr (Number (pos 0)) no_exprs))))) ∷
          (StmtItem (ExprStmt (Call (named "requestIdleCallback") (with_expr (Name (named "j")) (with_expr (Number (pos 0)) no_exprs))))) ∷
          [];
      names = codes "i" ∷ codes "j" ∷ [];
    }

abbrev runnable_idle_callback_cancelled_setup : Setup
runnable_idle_callback_cancelled_setup =
    record { form = 1; trace = 1; policy = (Rank default_list); fuel = 1000000; until = 10000000; refresh = 60; late = []; latencies = []; arrivals = [] }

runnable_idle_callback_cancelled : page_trace runnable_idle_callback_cancelled_script runnable_idle_callback_cancelled_setup four_hosts ([]) ≡ rows (
    codes "trace 1" ∷
    codes "0 turn 1 dom" ∷
    codes "0 call 1" ∷
    codes "0 reg 2 idle" ∷
    codes "0 reg 3 idle" ∷
    codes "0 ret" ∷
    codes "0 period 50000" ∷
    codes "0 turn 2 idle" ∷
    codes "0 idle 50000" ∷
    codes "0 call 2" ∷
    codes "0 drop 3" ∷
    codes "0 log \"i\"" ∷
    codes "0 ret" ∷
    codes "0 end done" ∷
    [])
unfolding page_trace run run_by
runnable_idle_callback_cancelled = refl

-- The first callback overstays the period. The task for the second one finds the deadline past and leaves the list; the second one's timeout is due by
-- then, and takes it out of the runnable list.
--     fn i(d) { busy(60000); }
--     fn j(d) { log(didTimeout(d)); log(timeRemaining(d)); }
--     requestIdleCallback(i, 0);
--     requestIdleCallback(j, 10);
abbrev idle_timeout_of_a_runnable_callback_script : Program
idle_timeout_of_a_runnable_callback_script =
    record {
      items =
          (FnItem (named "i") ((named "d") ∷ []) (with_stmt (ExprStmt (Call (named "busy") (with_expr (Number (pos 60000)) no_exprs))) no_stmts)) ∷
          (FnItem (named "j") ((named "d") ∷ []) (with_stmt (ExprStmt (Call (named "log") (with_expr (Call (named "didTimeout") (with_expr (Name (named "d")) no_exprs)) no_exprs))) (with_stmt (ExprStmt (Call (named "log") (with_expr (Call (named "timeRemaining") (with_expr (Name (named "d")) no_exprs)) no_exprs))) no_stmts))) ∷
          (StmtItem (ExprStmt (Call (named "requestIdleCallback") (with_expr (Name (named "i")) (with_expr (Number (pos 0)) no_exprs))))) ∷
          (StmtItem (ExprStmt (Call (named "requestIdleCallback") (with_expr (Name (named "j")) (with_expr (Number (pos 10)) no_exprs))))) ∷
          [];
      names = codes "i" ∷ codes "j" ∷ [];
    }

abbrev idle_timeout_of_a_runnable_callback_setup : Setup
idle_timeout_of_a_runnable_callback_setup =
    record { form = 1; trace = 1; policy = (Rank default_list); fuel = 1000000; until = 10000000; refresh = 60; late = []; latencies = []; arrivals = [] }

idle_timeout_of_a_runnable_callback : page_trace idle_timeout_of_a_runnable_callback_script idle_timeout_of_a_runnable_callback_setup four_hosts ([]) ≡ rows (
    codes "trace 1" ∷
    codes "0 turn 1 dom" ∷
    codes "0 call 1" ∷
    codes "0 reg 2 idle" ∷
    codes "0 reg 3 idle" ∷
    codes "0 arm 3 10000 0" ∷
    codes "0 ret" ∷
    codes "0 period 50000" ∷
    codes "0 turn 2 idle" ∷
    codes "0 idle 50000" ∷
    codes "0 call 2" ∷
    codes "60000 ret" ∷
    codes "60000 due 3" ∷
    codes "60000 turn 3 idle" ∷
    codes "60000 turn 4 idle" ∷
    codes "60000 call 3" ∷
    codes "60000 log true" ∷
    codes "60000 log 0" ∷
    codes "60000 ret" ∷
    codes "60000 end done" ∷
    [])
unfolding page_trace run run_by
idle_timeout_of_a_runnable_callback = refl

-- A signal made from one that is aborted has the reason from its birth and depends on nothing: no abort is fired at it.
--     var d = unit;
--     fn l(s) { d = anySignal([s]); listen(d, "abort", l); log(reason(d)); }
--     var c = controller();
--     listen(signal(c), "abort", l);
--     abort(c, "r");
abbrev dependent_signal_made_inside_the_abort_script : Program
dependent_signal_made_inside_the_abort_script =
    record {
      items =
          (StmtItem (VarStmt (named "d") UnitLiteral)) ∷
          (FnItem (named "l") ((named "s") ∷ []) (with_stmt (AssignStmt (named "d") (Call (named "anySignal") (with_expr (ListLiteral (with_expr (Name (named "s")) no_exprs)) no_exprs))) (with_stmt (ExprStmt (Call (named "listen") (with_expr (Name (named "d")) (with_expr (TextLiteral (codes "abort")) (with_expr (Name (named "l")) no_exprs))))) (with_stmt (ExprStmt (Call (named "log") (with_expr (Call (named "reason") (with_expr (Name (named "d")) no_exprs)) no_exprs))) no_stmts)))) ∷
          (StmtItem (VarStmt (named "c") (Call (named "controller") no_exprs))) ∷
          (StmtItem (ExprStmt (Call (named "listen") (with_expr (Call (named "signal") (with_expr (Name (named "c")) no_exprs)) (with_expr (TextLiteral (codes "abort")) (with_expr (Name (named "l")) no_exprs)))))) ∷
          (StmtItem (ExprStmt (Call (named "abort") (with_expr (Name (named "c")) (with_expr (TextLiteral (codes "r")) no_exprs))))) ∷
          [];
      names = codes "l" ∷ [];
    }

abbrev dependent_signal_made_inside_the_abort_setup : Setup
dependent_signal_made_inside_the_abort_setup =
    record { form = 1; trace = 1; policy = (Rank default_list); fuel = 1000000; until = 10000000; refresh = 60; late = []; latencies = []; arrivals = [] }

dependent_signal_made_inside_the_abort : page_trace dependent_signal_made_inside_the_abort_script dependent_signal_made_inside_the_abort_setup four_hosts ([]) ≡ rows (
    codes "trace 1" ∷
    codes "0 turn 1 dom" ∷
    codes "0 call 1" ∷
    codes "0 reg 2 listener" ∷
    codes "0 abort 1" ∷
    codes "0 call 2" ∷
    codes "0 reg 3 listener" ∷
    codes "0 log \"r\"" ∷
    codes "0 ret" ∷
    codes "0 ret" ∷
    codes "0 end done" ∷
    [])
unfolding page_trace run run_by
dependent_signal_made_inside_the_abort = refl

-- The checkpoint between two callbacks of a frame runs a microtask that cancels the second.
--     fn m() { cancelAnimationFrame(2); }
--     fn a(t) { queueMicrotask(m); log("a"); }
--     fn b(t) { log("b"); }
--     requestAnimationFrame(a);
--     requestAnimationFrame(b);
abbrev microtask_cancels_the_next_frame_callback_script : Program
microtask_cancels_the_next_frame_callback_script =
    record {
      items =
          (FnItem (named "m") ([]) (with_stmt (ExprStmt (Call (named "cancelAnimationFrame") (with_expr (Number (pos 2)) no_exprs))) no_stmts)) ∷
          (FnItem (named "a") ((named "t") ∷ []) (with_stmt (ExprStmt (Call (named "queueMicrotask") (with_expr (Name (named "m")) no_exprs))) (with_stmt (ExprStmt (Call (named "log") (with_expr (TextLiteral (codes "a")) no_exprs))) no_stmts))) ∷
          (FnItem (named "b") ((named "t") ∷ []) (with_stmt (ExprStmt (Call (named "log") (with_expr (TextLiteral (codes "b")) no_exprs))) no_stmts)) ∷
          (StmtItem (ExprStmt (Call (named "requestAnimationFrame") (with_expr (Name (named "a")) no_exprs)))) ∷
          (StmtItem (ExprStmt (Call (named "requestAnimationFrame") (with_expr (Name (named "b")) no_exprs)))) ∷
          [];
      names = codes "m" ∷ codes "a" ∷ codes "b" ∷ [];
    }

abbrev microtask_cancels_the_next_frame_callback_setup : Setup
microtask_cancels_the_next_frame_callback_setup =
    record { form = 1; trace = 1; policy = (Rank default_list); fuel = 1000000; until = 10000000; refresh = 50; late = []; latencies = []; arrivals = [] }

microtask_cancels_the_next_frame_callback : page_trace microtask_cancels_the_next_frame_callback_script microtask_cancels_the_next_frame_callback_setup four_hosts ([]) ≡ rows (
    codes "trace 1" ∷
    codes "0 turn 1 dom" ∷
    codes "0 call 1" ∷
    codes "0 reg 2 frame" ∷
    codes "0 reg 3 frame" ∷
    codes "0 ret" ∷
    codes "20000 wait 20000" ∷
    codes "20000 turn 2 render" ∷
    codes "20000 frame 20000" ∷
    codes "20000 call 2" ∷
    codes "20000 reg 4 micro" ∷
    codes "20000 job 1 micro 4" ∷
    codes "20000 log \"a\"" ∷
    codes "20000 ret" ∷
    codes "20000 run 1" ∷
    codes "20000 call 4" ∷
    codes "20000 drop 3" ∷
    codes "20000 ret" ∷
    codes "20000 end done" ∷
    [])
unfolding page_trace run run_by
microtask_cancels_the_next_frame_callback = refl

-- A frame requested long after the last opportunity keeps every idle period from starting: the deadline is lowered to the last opportunity plus the
-- period, which is past. The period starts when the frame is done.
--     fn r(t) { log(t); }
--     fn i(d) { log(timeRemaining(d)); }
--     busy(50000);
--     requestAnimationFrame(r);
--     requestIdleCallback(i, 0);
abbrev idle_period_kept_back_by_a_late_frame_script : Program
idle_period_kept_back_by_a_late_frame_script =
    record {
      items =
          (FnItem (named "r") ((named "t") ∷ []) (with_stmt (ExprStmt (Call (named "log") (with_expr (Name (named "t")) no_exprs))) no_stmts)) ∷
          (FnItem (named "i") ((named "d") ∷ []) (with_stmt (ExprStmt (Call (named "log") (with_expr (Call (named "timeRemaining") (with_expr (Name (named "d")) no_exprs)) no_exprs))) no_stmts)) ∷
          (StmtItem (ExprStmt (Call (named "busy") (with_expr (Number (pos 50000)) no_exprs)))) ∷
          (StmtItem (ExprStmt (Call (named "requestAnimationFrame") (with_expr (Name (named "r")) no_exprs)))) ∷
          (StmtItem (ExprStmt (Call (named "requestIdleCallback") (with_expr (Name (named "i")) (with_expr (Number (pos 0)) no_exprs))))) ∷
          [];
      names = codes "r" ∷ codes "i" ∷ [];
    }

abbrev idle_period_kept_back_by_a_late_frame_setup : Setup
idle_period_kept_back_by_a_late_frame_setup =
    record { form = 1; trace = 1; policy = (Rank default_list); fuel = 1000000; until = 10000000; refresh = 50; late = []; latencies = []; arrivals = [] }

idle_period_kept_back_by_a_late_frame : page_trace idle_period_kept_back_by_a_late_frame_script idle_period_kept_back_by_a_late_frame_setup four_hosts ([]) ≡ rows (
    codes "trace 1" ∷
    codes "0 turn 1 dom" ∷
    codes "0 call 1" ∷
    codes "50000 reg 2 frame" ∷
    codes "50000 reg 3 idle" ∷
    codes "50000 ret" ∷
    codes "60000 wait 60000" ∷
    codes "60000 turn 2 render" ∷
    codes "60000 frame 60000" ∷
    codes "60000 call 2" ∷
    codes "60000 log 60000" ∷
    codes "60000 ret" ∷
    codes "60000 period 110000" ∷
    codes "60000 turn 3 idle" ∷
    codes "60000 idle 110000" ∷
    codes "60000 call 3" ∷
    codes "60000 log 50000" ∷
    codes "60000 ret" ∷
    codes "60000 end done" ∷
    [])
unfolding page_trace run run_by
idle_period_kept_back_by_a_late_frame = refl
