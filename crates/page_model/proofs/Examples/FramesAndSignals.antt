-- Worked examples, computed: frames, idle periods and signals together.
use Rattle.std.specs.Prelude.{◌≡◌, [], ◌∷◌, pos, codes, refl}
use Rattle.page_types.specs.Tree.{Number, TextLiteral, UnitLiteral, Name, Call, ListLiteral, no_exprs, with_expr, VarStmt, AssignStmt, ExprStmt, ThrowStmt, no_stmts, with_stmt, FnItem, StmtItem, Program}
use Rattle.page_parts.specs.Setup.{Setup, Rank}
use Rattle.page_parts.specs.Sources.{default_list}
use Rattle.page_model.specs.Turns.{run, run_by}
use Rattle.page_model.specs.PageTrace.{page_trace}
use Rattle.page_model.proofs.Examples.Sample.{named, four_hosts, rows}

-- A frame callback aborts the signal of a posted task whose delay ended at the same moment. The timer completes before the rendering opportunity, so the
-- task is in its queue and is dropped; the listener runs inside the abort, the microtask after the callback and before the next one, and the rejected
-- promise is notified about by a task of its own.
--     fn l(s) { log("l"); }
--     fn m() { log("m"); }
--     fn a(t) { queueMicrotask(m); abort(c, "why"); log("a"); }
--     fn b(t) { log(aborted(signal(c))); }
--     fn p() { log("p"); }
--     var c = controller();
--     listen(signal(c), "abort", l);
--     postTask(p, "background", signal(c), 20);
--     requestAnimationFrame(a);
--     requestAnimationFrame(b);
abbrev abort_inside_a_frame_callback_script : Program
abort_inside_a_frame_callback_script =
    record {
      items =
          (FnItem (named "l") ((named "s") ∷ []) (with_stmt (ExprStmt (Call (named "log") (with_expr (TextLiteral (codes "l")) no_exprs))) no_stmts)) ∷
          (FnItem (named "m") ([]) (with_stmt (ExprStmt (Call (named "log") (with_expr (TextLiteral (codes "m")) no_exprs))) no_stmts)) ∷
          (FnItem (named "a") ((named "t") ∷ []) (with_stmt (ExprStmt (Call (named "queueMicrotask") (with_expr (Name (named "m")) no_exprs))) (with_stmt (ExprStmt (Call (named "abort") (with_expr (Name (named "c")) (with_expr (TextLiteral (codes "why")) no_exprs)))) (with_stmt (ExprStmt (Call (named "log") (with_expr (TextLiteral (codes "a")) no_exprs))) no_stmts)))) ∷
          (FnItem (named "b") ((named "t") ∷ []) (with_stmt (ExprStmt (Call (named "log") (with_expr (Call (named "aborted") (with_expr (Call (named "signal") (with_expr (Name (named "c")) no_exprs)) no_exprs)) no_exprs))) no_stmts)) ∷
          (FnItem (named "p") ([]) (with_stmt (ExprStmt (Call (named "log") (with_expr (TextLiteral (codes "p")) no_exprs))) no_stmts)) ∷
          (StmtItem (VarStmt (named "c") (Call (named "controller") no_exprs))) ∷
          (StmtItem (ExprStmt (Call (named "listen") (with_expr (Call (named "signal") (with_expr (Name (named "c")) no_exprs)) (with_expr (TextLiteral (codes "abort")) (with_expr (Name (named "l")) no_exprs)))))) ∷
          (StmtItem (ExprStmt (Call (named "postTask") (with_expr (Name (named "p")) (with_expr (TextLiteral (codes "background")) (with_expr (Call (named "signal") (with_expr (Name (named "c")) no_exprs)) (with_expr (Number (pos 20)) no_exprs))))))) ∷
          (StmtItem (ExprStmt (Call (named "requestAnimationFrame") (with_expr (Name (named "a")) no_exprs)))) ∷
          (StmtItem (ExprStmt (Call (named "requestAnimationFrame") (with_expr (Name (named "b")) no_exprs)))) ∷
          [];
      names = codes "l" ∷ codes "m" ∷ codes "a" ∷ codes "b" ∷ codes "p" ∷ [];
    }

abbrev abort_inside_a_frame_callback_setup : Setup
abort_inside_a_frame_callback_setup =
    record { form = 1; trace = 1; policy = (Rank default_list); fuel = 1000000; until = 10000000; refresh = 50; late = []; latencies = []; arrivals = [] }

abort_inside_a_frame_callback : page_trace abort_inside_a_frame_callback_script abort_inside_a_frame_callback_setup four_hosts ([]) ≡ rows (
    codes "trace 1" ∷
    codes "0 turn 1 dom" ∷
    codes "0 call 1" ∷
    codes "0 reg 2 listener" ∷
    codes "0 reg 3 post" ∷
    codes "0 arm 3 20000 0" ∷
    codes "0 reg 4 frame" ∷
    codes "0 reg 5 frame" ∷
    codes "0 ret" ∷
    codes "20000 wait 20000" ∷
    codes "20000 due 3" ∷
    codes "20000 enq 3 background task 2" ∷
    codes "20000 turn 2 render" ∷
    codes "20000 frame 20000" ∷
    codes "20000 call 4" ∷
    codes "20000 reg 6 micro" ∷
    codes "20000 job 1 micro 6" ∷
    codes "20000 abort 1" ∷
    codes "20000 settle 1 err \"why\"" ∷
    codes "20000 drop 3" ∷
    codes "20000 call 2" ∷
    codes "20000 log \"l\"" ∷
    codes "20000 ret" ∷
    codes "20000 log \"a\"" ∷
    codes "20000 ret" ∷
    codes "20000 run 1" ∷
    codes "20000 call 6" ∷
    codes "20000 log \"m\"" ∷
    codes "20000 ret" ∷
    codes "20000 call 5" ∷
    codes "20000 log true" ∷
    codes "20000 ret" ∷
    codes "20000 turn 3 dom" ∷
    codes "20000 unhandled 1" ∷
    codes "20000 end done" ∷
    [])
unfolding page_trace run run_by
abort_inside_a_frame_callback = refl

-- An idle callback runs with fixed priority background. So its continuation goes before the background task that was posted first, and after the user-
-- visible one that was posted last.
--     fn y(v) { log("y"); }
--     fn b() { log("b"); }
--     fn u() { log("u"); }
--     fn i(d) { postTask(b, "background", unit, 0); then(yieldTask(), y, unit); postTask(u, unit, unit, 0); log("i"); }
--     requestIdleCallback(i, 0);
abbrev yield_inside_an_idle_callback_script : Program
yield_inside_an_idle_callback_script =
    record {
      items =
          (FnItem (named "y") ((named "v") ∷ []) (with_stmt (ExprStmt (Call (named "log") (with_expr (TextLiteral (codes "y")) no_exprs))) no_stmts)) ∷
          (FnItem (named "b") ([]) (with_stmt (ExprStmt (Call (named "log") (with_expr (TextLiteral (codes "b")) no_exprs))) no_stmts)) ∷
          (FnItem (named "u") ([]) (with_stmt (ExprStmt (Call (named "log") (with_expr (TextLiteral (codes "u")) no_exprs))) no_stmts)) ∷
          (FnItem (named "i") ((named "d") ∷ []) (with_stmt (ExprStmt (Call (named "postTask") (with_expr (Name (named "b")) (with_expr (TextLiteral (codes "background")) (with_expr UnitLiteral (with_expr (Number (pos 0)) no_exprs)))))) (with_stmt (ExprStmt (Call (named "then") (with_expr (Call (named "yieldTask") no_exprs) (with_expr (Name (named "y")) (with_expr UnitLiteral no_exprs))))) (with_stmt (ExprStmt (Call (named "postTask") (with_expr (Name (named "u")) (with_expr UnitLiteral (with_expr UnitLiteral (with_expr (Number (pos 0)) no_exprs)))))) (with_stmt (ExprStmt (Call (named "log") (with_expr (TextLiteral (codes "i")) no_exprs))) no_stmts))))) ∷
          (StmtItem (ExprStmt (Call (named "requestIdleCallback") (with_expr (Name (named "i")) (with_expr (Number (pos 0)) no_exprs))))) ∷
          [];
      names = codes "y" ∷ codes "b" ∷ codes "u" ∷ codes "i" ∷ [];
    }

abbrev yield_inside_an_idle_callback_setup : Setup
yield_inside_an_idle_callback_setup =
    record { form = 1; trace = 1; policy = (Rank default_list); fuel = 1000000; until = 10000000; refresh = 60; late = []; latencies = []; arrivals = [] }

yield_inside_an_idle_callback : page_trace yield_inside_an_idle_callback_script yield_inside_an_idle_callback_setup four_hosts ([]) ≡ rows (
    codes "trace 1" ∷
    codes "0 turn 1 dom" ∷
    codes "0 call 1" ∷
    codes "0 reg 2 idle" ∷
    codes "0 ret" ∷
    codes "0 period 50000" ∷
    codes "0 turn 2 idle" ∷
    codes "0 idle 50000" ∷
    codes "0 call 2" ∷
    codes "0 reg 3 post" ∷
    codes "0 enq 3 background task 3" ∷
    codes "0 reg 4 yield" ∷
    codes "0 enq 4 background cont 4" ∷
    codes "0 reg 5 then" ∷
    codes "0 reg 6 post" ∷
    codes "0 enq 6 user-visible task 5" ∷
    codes "0 log \"i\"" ∷
    codes "0 ret" ∷
    codes "0 turn 3 sched" ∷
    codes "0 call 6" ∷
    codes "0 log \"u\"" ∷
    codes "0 ret" ∷
    codes "0 settle 4 ok unit" ∷
    codes "0 turn 4 sched" ∷
    codes "0 call 4" ∷
    codes "0 settle 2 ok unit" ∷
    codes "0 job 1 react 2" ∷
    codes "0 ret" ∷
    codes "0 run 1" ∷
    codes "0 call 5" ∷
    codes "0 log \"y\"" ∷
    codes "0 ret" ∷
    codes "0 settle 3 ok unit" ∷
    codes "0 turn 5 sched" ∷
    codes "0 call 3" ∷
    codes "0 log \"b\"" ∷
    codes "0 ret" ∷
    codes "0 settle 1 ok unit" ∷
    codes "0 end done" ∷
    [])
unfolding page_trace run run_by
yield_inside_an_idle_callback = refl

-- A frame callback cancels itself, which does nothing as it has left the map, and requests two more; the next callback of the same frame cancels one of
-- them. The map is never empty, so the next opportunity is the multiple after the last one, and it is past already.
--     var h = 0;
--     fn d(t) { log(t); }
--     fn b(t) { cancelAnimationFrame(h); log("b"); }
--     fn a(t) { cancelAnimationFrame(1); busy(30000); h = requestAnimationFrame(d); requestAnimationFrame(d); }
--     requestAnimationFrame(a);
--     requestAnimationFrame(b);
abbrev frame_requested_and_cancelled_inside_a_frame_script : Program
frame_requested_and_cancelled_inside_a_frame_script =
    record {
      items =
          (StmtItem (VarStmt (named "h") (Number (pos 0)))) ∷
          (FnItem (named "d") ((named "t") ∷ []) (with_stmt (ExprStmt (Call (named "log") (with_expr (Name (named "t")) no_exprs))) no_stmts)) ∷
          (FnItem (named "b") ((named "t") ∷ []) (with_stmt (ExprStmt (Call (named "cancelAnimationFrame") (with_expr (Name (named "h")) no_exprs))) (with_stmt (ExprStmt (Call (named "log") (with_expr (TextLiteral (codes "b")) no_exprs))) no_stmts))) ∷
          (FnItem (named "a") ((named "t") ∷ []) (with_stmt (ExprStmt (Call (named "cancelAnimationFrame") (with_expr (Number (pos 1)) no_exprs))) (with_stmt (ExprStmt (Call (named "busy") (with_expr (Number (pos 30000)) no_exprs))) (with_stmt (AssignStmt (named "h") (Call (named "requestAnimationFrame") (with_expr (Name (named "d")) no_exprs))) (with_stmt (ExprStmt (Call (named "requestAnimationFrame") (with_expr (Name (named "d")) no_exprs))) no_stmts))))) ∷
          (StmtItem (ExprStmt (Call (named "requestAnimationFrame") (with_expr (Name (named "a")) no_exprs)))) ∷
          (StmtItem (ExprStmt (Call (named "requestAnimationFrame") (with_expr (Name (named "b")) no_exprs)))) ∷
          [];
      names = codes "d" ∷ codes "b" ∷ codes "a" ∷ [];
    }

abbrev frame_requested_and_cancelled_inside_a_frame_setup : Setup
frame_requested_and_cancelled_inside_a_frame_setup =
    record { form = 1; trace = 1; policy = (Rank default_list); fuel = 1000000; until = 10000000; refresh = 50; late = []; latencies = []; arrivals = [] }

frame_requested_and_cancelled_inside_a_frame : page_trace frame_requested_and_cancelled_inside_a_frame_script frame_requested_and_cancelled_inside_a_frame_setup four_hosts ([]) ≡ rows (
    codes "trace 1" ∷
    codes "0 turn 1 dom" ∷
    codes "0 call 1" ∷
    codes "0 reg 2 frame" ∷
    codes "0 reg 3 frame" ∷
    codes "0 ret" ∷
    codes "20000 wait 20000" ∷
    codes "20000 turn 2 render" ∷
    codes "20000 frame 20000" ∷
    codes "20000 call 2" ∷
    codes "50000 reg 4 frame" ∷
    codes "50000 reg 5 frame" ∷
    codes "50000 ret" ∷
    codes "50000 call 3" ∷
    codes "50000 drop 4" ∷
    codes "50000 log \"b\"" ∷
    codes "50000 ret" ∷
    codes "50000 turn 3 render" ∷
    codes "50000 frame 50000" ∷
    codes "50000 call 5" ∷
    codes "50000 log 50000" ∷
    codes "50000 ret" ∷
    codes "50000 end done" ∷
    [])
unfolding page_trace run run_by
frame_requested_and_cancelled_inside_a_frame = refl

-- The only callback leaves the map empty and requests another one at 50000. The map is non-empty from then on, so the opportunity is at 60000 and not at
-- 40000.
--     fn b(t) { log(t); }
--     fn a(t) { busy(30000); requestAnimationFrame(b); log(t); }
--     requestAnimationFrame(a);
abbrev frame_requested_late_in_the_only_frame_callback_script : Program
frame_requested_late_in_the_only_frame_callback_script =
    record {
      items =
          (FnItem (named "b") ((named "t") ∷ []) (with_stmt (ExprStmt (Call (named "log") (with_expr (Name (named "t")) no_exprs))) no_stmts)) ∷
          (FnItem (named "a") ((named "t") ∷ []) (with_stmt (ExprStmt (Call (named "busy") (with_expr (Number (pos 30000)) no_exprs))) (with_stmt (ExprStmt (Call (named "requestAnimationFrame") (with_expr (Name (named "b")) no_exprs))) (with_stmt (ExprStmt (Call (named "log") (with_expr (Name (named "t")) no_exprs))) no_stmts)))) ∷
          (StmtItem (ExprStmt (Call (named "requestAnimationFrame") (with_expr (Name (named "a")) no_exprs)))) ∷
          [];
      names = codes "b" ∷ codes "a" ∷ [];
    }

abbrev frame_requested_late_in_the_only_frame_callback_setup : Setup
frame_requested_late_in_the_only_frame_callback_setup =
    record { form = 1; trace = 1; policy = (Rank default_list); fuel = 1000000; until = 10000000; refresh = 50; late = []; latencies = []; arrivals = [] }

frame_requested_late_in_the_only_frame_callback : page_trace frame_requested_late_in_the_only_frame_callback_script frame_requested_late_in_the_only_frame_callback_setup four_hosts ([]) ≡ rows (
    codes "trace 1" ∷
    codes "0 turn 1 dom" ∷
    codes "0 call 1" ∷
    codes "0 reg 2 frame" ∷
    codes "0 ret" ∷
    codes "20000 wait 20000" ∷
    codes "20000 turn 2 render" ∷
    codes "20000 frame 20000" ∷
    codes "20000 call 2" ∷
    codes "50000 reg 3 frame" ∷
    codes "50000 log 20000" ∷
    codes "50000 ret" ∷
    codes "60000 wait 60000" ∷
    codes "60000 turn 3 render" ∷
    codes "60000 frame 60000" ∷
    codes "60000 call 3" ∷
    codes "60000 log 60000" ∷
    codes "60000 ret" ∷
    codes "60000 end done" ∷
    [])
unfolding page_trace run run_by
frame_requested_late_in_the_only_frame_callback = refl

-- The checkpoint between two frame callbacks runs also the microtask that a microtask queued. A frame requested there waits for the next frame; a timer
-- set there has level 1 and runs before it.
--     fn n() { log("n"); setTimeout(z, 0); }
--     fn m() { log("m"); queueMicrotask(n); requestAnimationFrame(b); }
--     fn z() { log("z"); }
--     fn a(t) { queueMicrotask(m); log("a"); }
--     fn b(t) { log(t); }
--     requestAnimationFrame(a);
--     requestAnimationFrame(b);
abbrev microtasks_of_a_checkpoint_inside_a_frame_script : Program
microtasks_of_a_checkpoint_inside_a_frame_script =
    record {
      items =
          (FnItem (named "n") ([]) (with_stmt (ExprStmt (Call (named "log") (with_expr (TextLiteral (codes "n")) no_exprs))) (with_stmt (ExprStmt (Call (named "setTimeout") (with_expr (Name (named "z")) (with_expr (Number (pos 0)) no_exprs)))) no_stmts))) ∷
          (FnItem (named "m") ([]) (with_stmt (ExprStmt (Call (named "log") (with_expr (TextLiteral (codes "m")) no_exprs))) (with_stmt (ExprStmt (Call (named "queueMicrotask") (with_expr (Name (named "n")) no_exprs))) (with_stmt (ExprStmt (Call (named "requestAnimationFrame") (with_expr (Name (named "b")) no_exprs))) no_stmts)))) ∷
          (FnItem (named "z") ([]) (with_stmt (ExprStmt (Call (named "log") (with_expr (TextLiteral (codes "z")) no_exprs))) no_stmts)) ∷
          (FnItem (named "a") ((named "t") ∷ []) (with_stmt (ExprStmt (Call (named "queueMicrotask") (with_expr (Name (named "m")) no_exprs))) (with_stmt (ExprStmt (Call (named "log") (with_expr (TextLiteral (codes "a")) no_exprs))) no_stmts))) ∷
          (FnItem (named "b") ((named "t") ∷ []) (with_stmt (ExprStmt (Call (named "log") (with_expr (Name (named "t")) no_exprs))) no_stmts)) ∷
          (StmtItem (ExprStmt (Call (named "requestAnimationFrame") (with_expr (Name (named "a")) no_exprs)))) ∷
          (StmtItem (ExprStmt (Call (named "requestAnimationFrame") (with_expr (Name (named "b")) no_exprs)))) ∷
          [];
      names = codes "n" ∷ codes "m" ∷ codes "z" ∷ codes "a" ∷ codes "b" ∷ [];
    }

abbrev microtasks_of_a_checkpoint_inside_a_frame_setup : Setup
microtasks_of_a_checkpoint_inside_a_frame_setup =
    record { form = 1; trace = 1; policy = (Rank default_list); fuel = 1000000; until = 10000000; refresh = 50; late = []; latencies = []; arrivals = [] }

microtasks_of_a_checkpoint_inside_a_frame : page_trace microtasks_of_a_checkpoint_inside_a_frame_script microtasks_of_a_checkpoint_inside_a_frame_setup four_hosts ([]) ≡ rows (
    codes "trace 1" ∷
    codes "0 turn 1 dom" ∷
    codes "0 call 1" ∷
    codes "0 reg 2 frame" ∷
    codes "0 reg 3 frame" ∷
    codes "0 ret" ∷
    codes "20000 wait 20000" ∷
    codes "20000 turn 2 render" ∷
    codes "20000 frame 20000" ∷
    codes "20000 call 2" ∷
    codes "20000 reg 4 micro" ∷
    codes "20000 job 1 micro 4" ∷
    codes "20000 log \"a\"" ∷
    codes "20000 ret" ∷
    codes "20000 run 1" ∷
    codes "20000 call 4" ∷
    codes "20000 log \"m\"" ∷
    codes "20000 reg 5 micro" ∷
    codes "20000 job 2 micro 5" ∷
    codes "20000 reg 6 frame" ∷
    codes "20000 ret" ∷
    codes "20000 run 2" ∷
    codes "20000 call 5" ∷
    codes "20000 log \"n\"" ∷
    codes "20000 reg 7 timeout" ∷
    codes "20000 arm 7 20000 1" ∷
    codes "20000 ret" ∷
    codes "20000 call 3" ∷
    codes "20000 log 20000" ∷
    codes "20000 ret" ∷
    codes "20000 due 7" ∷
    codes "20000 turn 3 timer" ∷
    codes "20000 call 7" ∷
    codes "20000 log \"z\"" ∷
    codes "20000 ret" ∷
    codes "40000 wait 40000" ∷
    codes "40000 turn 4 render" ∷
    codes "40000 frame 40000" ∷
    codes "40000 call 6" ∷
    codes "40000 log 40000" ∷
    codes "40000 ret" ∷
    codes "40000 end done" ∷
    [])
unfolding page_trace run run_by
microtasks_of_a_checkpoint_inside_a_frame = refl

-- A throw of a frame callback is reported after the checkpoint between the callbacks, and the frame goes on.
--     fn m() { log("m"); }
--     fn a(t) { queueMicrotask(m); throw "x"; }
--     fn b(t) { log("b"); }
--     requestAnimationFrame(a);
--     requestAnimationFrame(b);
abbrev throw_of_a_frame_callback_script : Program
throw_of_a_frame_callback_script =
    record {
      items =
          (FnItem (named "m") ([]) (with_stmt (ExprStmt (Call (named "log") (with_expr (TextLiteral (codes "m")) no_exprs))) no_stmts)) ∷
          (FnItem (named "a") ((named "t") ∷ []) (with_stmt (ExprStmt (Call (named "queueMicrotask") (with_expr (Name (named "m")) no_exprs))) (with_stmt (ThrowStmt (TextLiteral (codes "x"))) no_stmts))) ∷
          (FnItem (named "b") ((named "t") ∷ []) (with_stmt (ExprStmt (Call (named "log") (with_expr (TextLiteral (codes "b")) no_exprs))) no_stmts)) ∷
          (StmtItem (ExprStmt (Call (named "requestAnimationFrame") (with_expr (Name (named "a")) no_exprs)))) ∷
          (StmtItem (ExprStmt (Call (named "requestAnimationFrame") (with_expr (Name (named "b")) no_exprs)))) ∷
          [];
      names = codes "m" ∷ codes "a" ∷ codes "b" ∷ [];
    }

abbrev throw_of_a_frame_callback_setup : Setup
throw_of_a_frame_callback_setup =
    record { form = 1; trace = 1; policy = (Rank default_list); fuel = 1000000; until = 10000000; refresh = 50; late = []; latencies = []; arrivals = [] }

throw_of_a_frame_callback : page_trace throw_of_a_frame_callback_script throw_of_a_frame_callback_setup four_hosts ([]) ≡ rows (
    codes "trace 1" ∷
    codes "0 turn 1 dom" ∷
    codes "0 call 1" ∷
    codes "0 reg 2 frame" ∷
    codes "0 reg 3 frame" ∷
    codes "0 ret" ∷
    codes "20000 wait 20000" ∷
    codes "20000 turn 2 render" ∷
    codes "20000 frame 20000" ∷
    codes "20000 call 2" ∷
    codes "20000 reg 4 micro" ∷
    codes "20000 job 1 micro 4" ∷
    codes "20000 throw \"x\"" ∷
    codes "20000 run 1" ∷
    codes "20000 call 4" ∷
    codes "20000 log \"m\"" ∷
    codes "20000 ret" ∷
    codes "20000 report \"x\"" ∷
    codes "20000 call 3" ∷
    codes "20000 log \"b\"" ∷
    codes "20000 ret" ∷
    codes "20000 end done" ∷
    [])
unfolding page_trace run run_by
throw_of_a_frame_callback = refl

-- The clock reads 25000 where 20000 was waited for. That is the frame's timestamp and the last opportunity, and the next one is the multiple after it,
-- not a period later.
--     fn b(t) { log(t); }
--     fn a(t) { log(t); requestAnimationFrame(b); }
--     requestAnimationFrame(a);
abbrev late_reading_before_a_frame_script : Program
late_reading_before_a_frame_script =
    record {
      items =
          (FnItem (named "b") ((named "t") ∷ []) (with_stmt (ExprStmt (Call (named "log") (with_expr (Name (named "t")) no_exprs))) no_stmts)) ∷
          (FnItem (named "a") ((named "t") ∷ []) (with_stmt (ExprStmt (Call (named "log") (with_expr (Name (named "t")) no_exprs))) (with_stmt (ExprStmt (Call (named "requestAnimationFrame") (with_expr (Name (named "b")) no_exprs))) no_stmts))) ∷
          (StmtItem (ExprStmt (Call (named "requestAnimationFrame") (with_expr (Name (named "a")) no_exprs)))) ∷
          [];
      names = codes "b" ∷ codes "a" ∷ [];
    }

abbrev late_reading_before_a_frame_setup : Setup
late_reading_before_a_frame_setup =
    record { form = 1; trace = 1; policy = (Rank default_list); fuel = 1000000; until = 10000000; refresh = 50; late = 5000 ∷ []; latencies = []; arrivals = [] }

late_reading_before_a_frame : page_trace late_reading_before_a_frame_script late_reading_before_a_frame_setup four_hosts ([]) ≡ rows (
    codes "trace 1" ∷
    codes "0 turn 1 dom" ∷
    codes "0 call 1" ∷
    codes "0 reg 2 frame" ∷
    codes "0 ret" ∷
    codes "25000 wait 20000" ∷
    codes "25000 turn 2 render" ∷
    codes "25000 frame 25000" ∷
    codes "25000 call 2" ∷
    codes "25000 log 25000" ∷
    codes "25000 reg 3 frame" ∷
    codes "25000 ret" ∷
    codes "40000 wait 40000" ∷
    codes "40000 turn 3 render" ∷
    codes "40000 frame 40000" ∷
    codes "40000 call 3" ∷
    codes "40000 log 40000" ∷
    codes "40000 ret" ∷
    codes "40000 end done" ∷
    [])
unfolding page_trace run run_by
late_reading_before_a_frame = refl

-- A callback requested during a period waits for the end of that period, though nothing else is to be done. The turn at its end has no task: it starts
-- the next period.
--     fn j(d) { log(timeRemaining(d)); }
--     fn i(d) { log("i"); requestIdleCallback(j, 0); }
--     requestIdleCallback(i, 0);
abbrev idle_callback_requested_inside_an_idle_callback_script : Program
idle_callback_requested_inside_an_idle_callback_script =
    record {
      items =
          (FnItem (named "j") ((named "d") ∷ []) (with_stmt (ExprStmt (Call (named "log") (with_expr (Call (named "timeRemaining") (with_expr (Name (named "d")) no_exprs)) no_exprs))) no_stmts)) ∷
          (FnItem (named "i") ((named "d") ∷ []) (with_stmt (ExprStmt (Call (named "log") (with_expr (TextLiteral (codes "i")) no_exprs))) (with_stmt (ExprStmt (Call (named "requestIdleCallback") (with_expr (Name (named "j")) (with_expr (Number (pos 0)) no_exprs)))) no_stmts))) ∷
          (StmtItem (ExprStmt (Call (named "requestIdleCallback") (with_expr (Name (named "i")) (with_expr (Number (pos 0)) no_exprs))))) ∷
          [];
      names = codes "j" ∷ codes "i" ∷ [];
    }

abbrev idle_callback_requested_inside_an_idle_callback_setup : Setup
idle_callback_requested_inside_an_idle_callback_setup =
    record { form = 1; trace = 1; policy = (Rank default_list); fuel = 1000000; until = 10000000; refresh = 60; late = []; latencies = []; arrivals = [] }

idle_callback_requested_inside_an_idle_callback : page_trace idle_callback_requested_inside_an_idle_callback_script idle_callback_requested_inside_an_idle_callback_setup four_hosts ([]) ≡ rows (
    codes "trace 1" ∷
    codes "0 turn 1 dom" ∷
    codes "0 call 1" ∷
    codes "0 reg 2 idle" ∷
    codes "0 ret" ∷
    codes "0 period 50000" ∷
    codes "0 turn 2 idle" ∷
    codes "0 idle 50000" ∷
    codes "0 call 2" ∷
    codes "0 log \"i\"" ∷
    codes "0 reg 3 idle" ∷
    codes "0 ret" ∷
    codes "50000 wait 50000" ∷
    codes "50000 turn 3 none" ∷
    codes "50000 period 100000" ∷
    codes "50000 turn 4 idle" ∷
    codes "50000 idle 100000" ∷
    codes "50000 call 3" ∷
    codes "50000 log 50000" ∷
    codes "50000 ret" ∷
    codes "50000 end done" ∷
    [])
unfolding page_trace run run_by
idle_callback_requested_inside_an_idle_callback = refl

-- What is left of an idle period is computed at each question: a frame requested inside the callback lowers it to the period of the refresh rate, and a
-- timer to its due time.
--     fn r(t) { log(t); }
--     fn z() { log("z"); }
--     fn i(d) { log(timeRemaining(d)); requestAnimationFrame(r); log(timeRemaining(d)); setTimeout(z, 3); log(timeRemaining(d)); }
--     requestIdleCallback(i, 0);
abbrev idle_deadline_lowered_inside_its_callback_script : Program
idle_deadline_lowered_inside_its_callback_script =
    record {
      items =
          (FnItem (named "r") ((named "t") ∷ []) (with_stmt (ExprStmt (Call (named "log") (with_expr (Name (named "t")) no_exprs))) no_stmts)) ∷
          (FnItem (named "z") ([]) (with_stmt (ExprStmt (Call (named "log") (with_expr (TextLiteral (codes "z")) no_exprs))) no_stmts)) ∷
          (FnItem (named "i") ((named "d") ∷ []) (with_stmt (ExprStmt (Call (named "log") (with_expr (Call (named "timeRemaining") (with_expr (Name (named "d")) no_exprs)) no_exprs))) (with_stmt (ExprStmt (Call (named "requestAnimationFrame") (with_expr (Name (named "r")) no_exprs))) (with_stmt (ExprStmt (Call (named "log") (with_expr (Call (named "timeRemaining") (with_expr (Name (named "d")) no_exprs)) no_exprs))) (with_stmt (ExprStmt (Call (named "setTimeout") (with_expr (Name (named "z")) (with_expr (Number (pos 3)) no_exprs)))) (with_stmt (ExprStmt (Call (named "log") (with_expr (Call (named "timeRemaining") (with_expr (Name (named "d")) no_exprs)) no_exprs))) no_stmts)))))) ∷
          (StmtItem (ExprStmt (Call (named "requestIdleCallback") (with_expr (Name (named "i")) (with_expr (Number (pos 0)) no_exprs))))) ∷
          [];
      names = codes "r" ∷ codes "z" ∷ codes "i" ∷ [];
    }

abbrev idle_deadline_lowered_inside_its_callback_setup : Setup
idle_deadline_lowered_inside_its_callback_setup =
    record { form = 1; trace = 1; policy = (Rank default_list); fuel = 1000000; until = 10000000; refresh = 50; late = []; latencies = []; arrivals = [] }

idle_deadline_lowered_inside_its_callback : page_trace idle_deadline_lowered_inside_its_callback_script idle_deadline_lowered_inside_its_callback_setup four_hosts ([]) ≡ rows (
    codes "trace 1" ∷
    codes "0 turn 1 dom" ∷
    codes "0 call 1" ∷
    codes "0 reg 2 idle" ∷
    codes "0 ret" ∷
    codes "0 period 50000" ∷
    codes "0 turn 2 idle" ∷
    codes "0 idle 50000" ∷
    codes "0 call 2" ∷
    codes "0 log 50000" ∷
    codes "0 reg 3 frame" ∷
    codes "0 log 20000" ∷
    codes "0 reg 4 timeout" ∷
    codes "0 arm 4 3000 1" ∷
    codes "0 log 3000" ∷
    codes "0 ret" ∷
    codes "3000 wait 3000" ∷
    codes "3000 due 4" ∷
    codes "3000 turn 3 timer" ∷
    codes "3000 call 4" ∷
    codes "3000 log \"z\"" ∷
    codes "3000 ret" ∷
    codes "20000 wait 20000" ∷
    codes "20000 turn 4 render" ∷
    codes "20000 frame 20000" ∷
    codes "20000 call 3" ∷
    codes "20000 log 20000" ∷
    codes "20000 ret" ∷
    codes "20000 end done" ∷
    [])
unfolding page_trace run run_by
idle_deadline_lowered_inside_its_callback = refl

-- One callback is cancelled and its timeout stays pending; the other one is called by an idle period that starts before its timeout is taken. Both
-- timeouts come due and find nothing.
--     fn i(d) { log("i"); }
--     fn j(d) { log(didTimeout(d)); log(timeRemaining(d)); }
--     fn t() { cancelIdleCallback(1); busy(6000); }
--     requestIdleCallback(i, 5);
--     requestIdleCallback(j, 6);
--     setTimeout(t, 0);
abbrev idle_timeout_cancelled_while_pending_script : Program
idle_timeout_cancelled_while_pending_script =
    record {
      items =
          (FnItem (named "i") ((named "d") ∷ []) (with_stmt (ExprStmt (Call (named "log") (with_expr (TextLiteral (codes "i")) no_exprs))) no_stmts)) ∷
          (FnItem (named "j") ((named "d") ∷ []) (with_stmt (ExprStmt (Call (named "log") (with_expr (Call (named "didTimeout") (with_expr (Name (named "d")) no_exprs)) no_exprs))) (with_stmt (ExprStmt (Call (named "log") (with_expr (Call (named "timeRemaining") (with_expr (Name (named "d")) no_exprs)) no_exprs))) no_stmts))) ∷
          (FnItem (named "t") ([]) (with_stmt (ExprStmt (Call (named "cancelIdleCallback") (with_expr (Number (pos 1)) no_exprs))) (with_stmt (ExprStmt (Call (named "busy") (with_expr (Number (pos 6000)) no_exprs))) no_stmts))) ∷
          (StmtItem (ExprStmt (Call (named "requestIdleCallback") (with_expr (Name (named "i")) (with_expr (Number (pos 5)) no_exprs))))) ∷
          (StmtItem (ExprStmt (Call (named "requestIdleCallback") (with_expr (Name (named "j")) (with_expr (Number (pos 6)) no_exprs))))) ∷
          (StmtItem (ExprStmt (Call (named "setTimeout") (with_expr (Name (named "t")) (with_expr (Number (pos 0)) no_exprs))))) ∷
          [];
      names = codes "i" ∷ codes "j" ∷ codes "t" ∷ [];
    }

abbrev idle_timeout_cancelled_while_pending_setup : Setup
idle_timeout_cancelled_while_pending_setup =
    record { form = 1; trace = 1; policy = (Rank default_list); fuel = 1000000; until = 10000000; refresh = 60; late = []; latencies = []; arrivals = [] }

idle_timeout_cancelled_while_pending : page_trace idle_timeout_cancelled_while_pending_script idle_timeout_cancelled_while_pending_setup four_hosts ([]) ≡ rows (
    codes "trace 1" ∷
    codes "0 turn 1 dom" ∷
    codes "0 call 1" ∷
    codes "0 reg 2 idle" ∷
    codes "0 arm 2 5000 0" ∷
    codes "0 reg 3 idle" ∷
    codes "0 arm 3 6000 0" ∷
    codes "0 reg 4 timeout" ∷
    codes "0 arm 4 0 1" ∷
    codes "0 ret" ∷
    codes "0 due 4" ∷
    codes "0 turn 2 timer" ∷
    codes "0 call 4" ∷
    codes "0 drop 2" ∷
    codes "6000 ret" ∷
    codes "6000 period 56000" ∷
    codes "6000 due 2" ∷
    codes "6000 due 3" ∷
    codes "6000 turn 3 idle" ∷
    codes "6000 idle 56000" ∷
    codes "6000 call 3" ∷
    codes "6000 log false" ∷
    codes "6000 log 50000" ∷
    codes "6000 ret" ∷
    codes "6000 turn 4 idle" ∷
    codes "6000 turn 5 idle" ∷
    codes "6000 end done" ∷
    [])
unfolding page_trace run run_by
idle_timeout_cancelled_while_pending = refl

-- A timer that is due already keeps the period from starting, so the timeout comes first. Its callback has a fixed deadline and the same background
-- state, so what it yields stays behind a user-visible task.
--     fn g() { log("g"); }
--     fn y(v) { log("y"); }
--     fn u() { log("u"); }
--     fn i(d) { log(didTimeout(d)); log(d); then(yieldTask(), y, unit); postTask(u, unit, unit, 0); }
--     fn t() { setTimeout(g, 0); busy(2000); }
--     requestIdleCallback(i, 1);
--     setTimeout(t, 0);
abbrev idle_timeout_comes_first_and_yields_script : Program
idle_timeout_comes_first_and_yields_script =
    record {
      items =
          (FnItem (named "g") ([]) (with_stmt (ExprStmt (Call (named "log") (with_expr (TextLiteral (codes "g")) no_exprs))) no_stmts)) ∷
          (FnItem (named "y") ((named "v") ∷ []) (with_stmt (ExprStmt (Call (named "log") (with_expr (TextLiteral (codes "y")) no_exprs))) no_stmts)) ∷
          (FnItem (named "u") ([]) (with_stmt (ExprStmt (Call (named "log") (with_expr (TextLiteral (codes "u")) no_exprs))) no_stmts)) ∷
          (FnItem (named "i") ((named "d") ∷ []) (with_stmt (ExprStmt (Call (named "log") (with_expr (Call (named "didTimeout") (with_expr (Name (named "d")) no_exprs)) no_exprs))) (with_stmt (ExprStmt (Call (named "log") (with_expr (Name (named "d")) no_exprs))) (with_stmt (ExprStmt (Call (named "then") (with_expr (Call (named "yieldTask") no_exprs) (with_expr (Name (named "y")) (with_expr UnitLiteral no_exprs))))) (with_stmt (ExprStmt (Call (named "postTask") (with_expr (Name (named "u")) (with_expr UnitLiteral (with_expr UnitLiteral (with_expr (Number (pos 0)) no_exprs)))))) no_stmts))))) ∷
          (FnItem (named "t") ([]) (with_stmt (ExprStmt (Call (named "setTimeout") (with_expr (Name (named "g")) (with_expr (Number (pos 0)) no_exprs)))) (with_stmt (ExprStmt (Call (named "busy") (with_expr (Number (pos 2000)) no_exprs))) no_stmts))) ∷
          (StmtItem (ExprStmt (Call (named "requestIdleCallback") (with_expr (Name (named "i")) (with_expr (Number (pos 1)) no_exprs))))) ∷
          (StmtItem (ExprStmt (Call (named "setTimeout") (with_expr (Name (named "t")) (with_expr (Number (pos 0)) no_exprs))))) ∷
          [];
      names = codes "g" ∷ codes "y" ∷ codes "u" ∷ codes "i" ∷ codes "t" ∷ [];
    }

abbrev idle_timeout_comes_first_and_yields_setup : Setup
idle_timeout_comes_first_and_yields_setup =
    record { form = 1; trace = 1; policy = (Rank default_list); fuel = 1000000; until = 10000000; refresh = 60; late = []; latencies = []; arrivals = [] }

idle_timeout_comes_first_and_yields : page_trace idle_timeout_comes_first_and_yields_script idle_timeout_comes_first_and_yields_setup four_hosts ([]) ≡ rows (
    codes "trace 1" ∷
    codes "0 turn 1 dom" ∷
    codes "0 call 1" ∷
    codes "0 reg 2 idle" ∷
    codes "0 arm 2 1000 0" ∷
    codes "0 reg 3 timeout" ∷
    codes "0 arm 3 0 1" ∷
    codes "0 ret" ∷
    codes "0 due 3" ∷
    codes "0 turn 2 timer" ∷
    codes "0 call 3" ∷
    codes "0 reg 4 timeout" ∷
    codes "0 arm 4 0 2" ∷
    codes "2000 ret" ∷
    codes "2000 due 4" ∷
    codes "2000 due 2" ∷
    codes "2000 turn 3 timer" ∷
    codes "2000 call 4" ∷
    codes "2000 log \"g\"" ∷
    codes "2000 ret" ∷
    codes "2000 turn 4 idle" ∷
    codes "2000 call 2" ∷
    codes "2000 log true" ∷
    codes "2000 log deadline@2000" ∷
    codes "2000 reg 5 yield" ∷
    codes "2000 enq 5 background cont 5" ∷
    codes "2000 reg 6 then" ∷
    codes "2000 reg 7 post" ∷
    codes "2000 enq 7 user-visible task 6" ∷
    codes "2000 ret" ∷
    codes "2000 turn 5 sched" ∷
    codes "2000 call 7" ∷
    codes "2000 log \"u\"" ∷
    codes "2000 ret" ∷
    codes "2000 settle 3 ok unit" ∷
    codes "2000 turn 6 sched" ∷
    codes "2000 call 5" ∷
    codes "2000 settle 1 ok unit" ∷
    codes "2000 job 1 react 1" ∷
    codes "2000 ret" ∷
    codes "2000 run 1" ∷
    codes "2000 call 6" ∷
    codes "2000 log \"y\"" ∷
    codes "2000 ret" ∷
    codes "2000 settle 2 ok unit" ∷
    codes "2000 end done" ∷
    [])
unfolding page_trace run run_by
idle_timeout_comes_first_and_yields = refl

-- A dependent of a dependent depends on the source itself. The task of the timeout aborts all three at once; the listeners come in the order source,
-- then dependents in order of birth, with a checkpoint after each, as a task runs them.
--     fn m() { log("m"); }
--     fn l(s) { queueMicrotask(m); log(s); }
--     var t = timeoutSignal(1);
--     var d = anySignal([t, t]);
--     var e = anySignal([d]);
--     listen(e, "abort", l);
--     listen(t, "abort", l);
abbrev dependents_of_a_timeout_signal_script : Program
dependents_of_a_timeout_signal_script =
    record {
      items =
          (FnItem (named "m") ([]) (with_stmt (ExprStmt (Call (named "log") (with_expr (TextLiteral (codes "m")) no_exprs))) no_stmts)) ∷
          (FnItem (named "l") ((named "s") ∷ []) (with_stmt (ExprStmt (Call (named "queueMicrotask") (with_expr (Name (named "m")) no_exprs))) (with_stmt (ExprStmt (Call (named "log") (with_expr (Name (named "s")) no_exprs))) no_stmts))) ∷
          (StmtItem (VarStmt (named "t") (Call (named "timeoutSignal") (with_expr (Number (pos 1)) no_exprs)))) ∷
          (StmtItem (VarStmt (named "d") (Call (named "anySignal") (with_expr (ListLiteral (with_expr (Name (named "t")) (with_expr (Name (named "t")) no_exprs))) no_exprs)))) ∷
          (StmtItem (VarStmt (named "e") (Call (named "anySignal") (with_expr (ListLiteral (with_expr (Name (named "d")) no_exprs)) no_exprs)))) ∷
          (StmtItem (ExprStmt (Call (named "listen") (with_expr (Name (named "e")) (with_expr (TextLiteral (codes "abort")) (with_expr (Name (named "l")) no_exprs)))))) ∷
          (StmtItem (ExprStmt (Call (named "listen") (with_expr (Name (named "t")) (with_expr (TextLiteral (codes "abort")) (with_expr (Name (named "l")) no_exprs)))))) ∷
          [];
      names = codes "m" ∷ codes "l" ∷ [];
    }

abbrev dependents_of_a_timeout_signal_setup : Setup
dependents_of_a_timeout_signal_setup =
    record { form = 1; trace = 1; policy = (Rank default_list); fuel = 1000000; until = 10000000; refresh = 60; late = []; latencies = []; arrivals = [] }

dependents_of_a_timeout_signal : page_trace dependents_of_a_timeout_signal_script dependents_of_a_timeout_signal_setup four_hosts ([]) ≡ rows (
    codes "trace 1" ∷
    codes "0 turn 1 dom" ∷
    codes "0 call 1" ∷
    codes "0 reg 2 signal" ∷
    codes "0 arm 2 1000 0" ∷
    codes "0 reg 3 listener" ∷
    codes "0 reg 4 listener" ∷
    codes "0 ret" ∷
    codes "1000 wait 1000" ∷
    codes "1000 due 2" ∷
    codes "1000 turn 2 timer" ∷
    codes "1000 abort 1" ∷
    codes "1000 abort 2" ∷
    codes "1000 abort 3" ∷
    codes "1000 call 4" ∷
    codes "1000 reg 5 micro" ∷
    codes "1000 job 1 micro 5" ∷
    codes "1000 log signal#1" ∷
    codes "1000 ret" ∷
    codes "1000 run 1" ∷
    codes "1000 call 5" ∷
    codes "1000 log \"m\"" ∷
    codes "1000 ret" ∷
    codes "1000 call 3" ∷
    codes "1000 reg 6 micro" ∷
    codes "1000 job 2 micro 6" ∷
    codes "1000 log signal#3" ∷
    codes "1000 ret" ∷
    codes "1000 run 2" ∷
    codes "1000 call 6" ∷
    codes "1000 log \"m\"" ∷
    codes "1000 ret" ∷
    codes "1000 end done" ∷
    [])
unfolding page_trace run run_by
dependents_of_a_timeout_signal = refl
