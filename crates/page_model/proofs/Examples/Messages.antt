-- Worked examples, computed: messages, and the second form of a trace.
use Rattle.std.specs.Prelude.{◌≡◌, List, [], ◌∷◌, pos, codes, refl}
use Rattle.page_types.specs.declared.CompareSign.TheVariants.{Less}
use Rattle.page_types.specs.declared.SumSign.TheVariants.{Plus}
use Rattle.page_types.specs.declared.UnarySign.TheVariants.{Negative}
use Rattle.page_types.specs.Tree.{Compare, Sum, Unary, Number, TextLiteral, TrueLiteral, UnitLiteral, Name, Call, ListLiteral, no_exprs, with_expr, no_terms, with_term, VarStmt, AssignStmt, ExprStmt, WhileStmt, TryStmt, no_stmts, with_stmt, FnItem, StmtItem, Program}
use Rattle.page_parts.specs.Setup.{Setup, Rank}
use Rattle.page_parts.specs.Sources.{default_list}
use Rattle.page_model.specs.Turns.{run, run_by, events_of_run}
use Rattle.page_model.specs.PageTrace.{page_trace, migrated}
use Rattle.page_model.proofs.Examples.Sample.{named, four_hosts, rows}
use Rattle.page_types.specs.Events.{Stamped}
use Rattle.page_parts.specs.TraceText.{text_of, all_without_by}
use Rattle.page_parts.specs.WrittenChoices.{written}

--     fn c(t) { log(t); }
--     fn b(t) { log("b"); }
--     fn a(t) { log(t); cancelAnimationFrame(2); requestAnimationFrame(c); }
--     requestAnimationFrame(a);
--     requestAnimationFrame(b);
abbrev frames_tell_who_registered_script : Program
frames_tell_who_registered_script =
    record {
      items =
          (FnItem (named "c") ((named "t") ∷ []) (with_stmt (ExprStmt (Call (named "log") (with_expr (Name (named "t")) no_exprs))) no_stmts)) ∷
          (FnItem (named "b") ((named "t") ∷ []) (with_stmt (ExprStmt (Call (named "log") (with_expr (TextLiteral (codes "b")) no_exprs))) no_stmts)) ∷
          (FnItem (named "a") ((named "t") ∷ []) (with_stmt (ExprStmt (Call (named "log") (with_expr (Name (named "t")) no_exprs))) (with_stmt (ExprStmt (Call (named "cancelAnimationFrame") (with_expr (Number (pos 2)) no_exprs))) (with_stmt (ExprStmt (Call (named "requestAnimationFrame") (with_expr (Name (named "c")) no_exprs))) no_stmts)))) ∷
          (StmtItem (ExprStmt (Call (named "requestAnimationFrame") (with_expr (Name (named "a")) no_exprs)))) ∷
          (StmtItem (ExprStmt (Call (named "requestAnimationFrame") (with_expr (Name (named "b")) no_exprs)))) ∷
          [];
      names = codes "c" ∷ codes "b" ∷ codes "a" ∷ [];
    }

abbrev frames_tell_who_registered_setup : Setup
frames_tell_who_registered_setup =
    record { form = 1; trace = 2; policy = (Rank default_list); fuel = 1000000; until = 10000000; refresh = 50; late = []; latencies = []; arrivals = [] }

frames_tell_who_registered : page_trace frames_tell_who_registered_script frames_tell_who_registered_setup four_hosts ([]) ≡ rows (
    codes "trace 2" ∷
    codes "0 turn 1 dom" ∷
    codes "0 call 1" ∷
    codes "0 reg 2 frame 1" ∷
    codes "0 reg 3 frame 1" ∷
    codes "0 ret" ∷
    codes "20000 wait 20000" ∷
    codes "20000 turn 2 render" ∷
    codes "20000 frame 20000" ∷
    codes "20000 call 2" ∷
    codes "20000 log 20000" ∷
    codes "20000 drop 3" ∷
    codes "20000 reg 4 frame 2" ∷
    codes "20000 ret" ∷
    codes "40000 wait 40000" ∷
    codes "40000 turn 3 render" ∷
    codes "40000 frame 40000" ∷
    codes "40000 call 4" ∷
    codes "40000 log 40000" ∷
    codes "40000 ret" ∷
    codes "40000 end done" ∷
    [])
unfolding page_trace run run_by
frames_tell_who_registered = refl

abbrev frames_in_the_first_form_setup : Setup
frames_in_the_first_form_setup = record frames_tell_who_registered_setup { trace = 1 }

abbrev frames_in_the_first_form : List Stamped
frames_in_the_first_form =
    events_of_run (run frames_tell_who_registered_script frames_in_the_first_form_setup [] (written frames_in_the_first_form_setup []))

frames_migrated : text_of 2 (migrated frames_tell_who_registered_script frames_in_the_first_form_setup [] frames_in_the_first_form) ≡ rows (
    codes "trace 2" ∷
    codes "0 turn 1 dom" ∷
    codes "0 call 1" ∷
    codes "0 reg 2 frame 1" ∷
    codes "0 reg 3 frame 1" ∷
    codes "0 ret" ∷
    codes "20000 wait 20000" ∷
    codes "20000 turn 2 render" ∷
    codes "20000 frame 20000" ∷
    codes "20000 call 2" ∷
    codes "20000 log 20000" ∷
    codes "20000 drop 3" ∷
    codes "20000 reg 4 frame 2" ∷
    codes "20000 ret" ∷
    codes "40000 wait 40000" ∷
    codes "40000 turn 3 render" ∷
    codes "40000 frame 40000" ∷
    codes "40000 call 4" ∷
    codes "40000 log 40000" ∷
    codes "40000 ret" ∷
    codes "40000 end done" ∷
    [])
unfolding migrated run run_by
frames_migrated = refl

frames_without_what_was_added :
    text_of 1 (all_without_by (migrated frames_tell_who_registered_script frames_in_the_first_form_setup [] frames_in_the_first_form)) ≡ rows (
    codes "trace 1" ∷
    codes "0 turn 1 dom" ∷
    codes "0 call 1" ∷
    codes "0 reg 2 frame" ∷
    codes "0 reg 3 frame" ∷
    codes "0 ret" ∷
    codes "20000 wait 20000" ∷
    codes "20000 turn 2 render" ∷
    codes "20000 frame 20000" ∷
    codes "20000 call 2" ∷
    codes "20000 log 20000" ∷
    codes "20000 drop 3" ∷
    codes "20000 reg 4 frame" ∷
    codes "20000 ret" ∷
    codes "40000 wait 40000" ∷
    codes "40000 turn 3 render" ∷
    codes "40000 frame 40000" ∷
    codes "40000 call 4" ∷
    codes "40000 log 40000" ∷
    codes "40000 ret" ∷
    codes "40000 end done" ∷
    [])
unfolding migrated run run_by
frames_without_what_was_added = refl

--     fn p(v) { log(v); setTimeout(q, 0); }
--     fn q() { log("q"); }
--     fn k() { abort(c, unit); then(resolved(1), p, unit); }
--     var c = controller();
--     listen(signal(c), "abort", p);
--     setTimeout(k, 1);
--     postTask(k, unit, unit, 0);
--     requestIdleCallback(p, 0);
abbrev registrations_inside_listeners_and_microtasks_script : Program
registrations_inside_listeners_and_microtasks_script =
    record {
      items =
          (FnItem (named "p") ((named "v") ∷ []) (with_stmt (ExprStmt (Call (named "log") (with_expr (Name (named "v")) no_exprs))) (with_stmt (ExprStmt (Call (named "setTimeout") (with_expr (Name (named "q")) (with_expr (Number (pos 0)) no_exprs)))) no_stmts))) ∷
          (FnItem (named "q") ([]) (with_stmt (ExprStmt (Call (named "log") (with_expr (TextLiteral (codes "q")) no_exprs))) no_stmts)) ∷
          (FnItem (named "k") ([]) (with_stmt (ExprStmt (Call (named "abort") (with_expr (Name (named "c")) (with_expr UnitLiteral no_exprs)))) (with_stmt (ExprStmt (Call (named "then") (with_expr (Call (named "resolved") (with_expr (Number (pos 1)) no_exprs)) (with_expr (Name (named "p")) (with_expr UnitLiteral no_exprs))))) no_stmts))) ∷
          (StmtItem (VarStmt (named "c") (Call (named "controller") no_exprs))) ∷
          (StmtItem (ExprStmt (Call (named "listen") (with_expr (Call (named "signal") (with_expr (Name (named "c")) no_exprs)) (with_expr (TextLiteral (codes "abort")) (with_expr (Name (named "p")) no_exprs)))))) ∷
          (StmtItem (ExprStmt (Call (named "setTimeout") (with_expr (Name (named "k")) (with_expr (Number (pos 1)) no_exprs))))) ∷
          (StmtItem (ExprStmt (Call (named "postTask") (with_expr (Name (named "k")) (with_expr UnitLiteral (with_expr UnitLiteral (with_expr (Number (pos 0)) no_exprs))))))) ∷
          (StmtItem (ExprStmt (Call (named "requestIdleCallback") (with_expr (Name (named "p")) (with_expr (Number (pos 0)) no_exprs))))) ∷
          [];
      names = codes "p" ∷ codes "q" ∷ codes "k" ∷ [];
    }

abbrev registrations_inside_listeners_and_microtasks_setup : Setup
registrations_inside_listeners_and_microtasks_setup =
    record { form = 1; trace = 2; policy = (Rank default_list); fuel = 1000000; until = 10000000; refresh = 60; late = []; latencies = []; arrivals = [] }

registrations_inside_listeners_and_microtasks : page_trace registrations_inside_listeners_and_microtasks_script registrations_inside_listeners_and_microtasks_setup four_hosts ([]) ≡ rows (
    codes "trace 2" ∷
    codes "0 turn 1 dom" ∷
    codes "0 call 1" ∷
    codes "0 reg 2 listener 1" ∷
    codes "0 reg 3 timeout 1" ∷
    codes "0 arm 3 1000 1" ∷
    codes "0 reg 4 post 1" ∷
    codes "0 enq 4 user-visible task 2" ∷
    codes "0 reg 5 idle 1" ∷
    codes "0 ret" ∷
    codes "0 turn 2 sched" ∷
    codes "0 call 4" ∷
    codes "0 abort 1" ∷
    codes "0 call 2" ∷
    codes "0 log signal#1" ∷
    codes "0 reg 6 timeout 2" ∷
    codes "0 arm 6 0 1" ∷
    codes "0 ret" ∷
    codes "0 settle 2 ok 1" ∷
    codes "0 reg 7 then 4" ∷
    codes "0 job 1 react 2" ∷
    codes "0 ret" ∷
    codes "0 run 1" ∷
    codes "0 call 7" ∷
    codes "0 log 1" ∷
    codes "0 reg 8 timeout 7" ∷
    codes "0 arm 8 0 1" ∷
    codes "0 ret" ∷
    codes "0 settle 3 ok unit" ∷
    codes "0 settle 1 ok unit" ∷
    codes "0 due 6" ∷
    codes "0 due 8" ∷
    codes "0 turn 3 timer" ∷
    codes "0 call 6" ∷
    codes "0 log \"q\"" ∷
    codes "0 ret" ∷
    codes "0 turn 4 timer" ∷
    codes "0 call 8" ∷
    codes "0 log \"q\"" ∷
    codes "0 ret" ∷
    codes "0 period 1000" ∷
    codes "0 turn 5 idle" ∷
    codes "0 idle 1000" ∷
    codes "0 call 5" ∷
    codes "0 log deadline" ∷
    codes "0 reg 9 timeout 5" ∷
    codes "0 arm 9 0 1" ∷
    codes "0 ret" ∷
    codes "0 due 9" ∷
    codes "0 turn 6 timer" ∷
    codes "0 call 9" ∷
    codes "0 log \"q\"" ∷
    codes "0 ret" ∷
    codes "1000 wait 1000" ∷
    codes "1000 due 3" ∷
    codes "1000 turn 7 timer" ∷
    codes "1000 call 3" ∷
    codes "1000 settle 4 ok 1" ∷
    codes "1000 reg 10 then 3" ∷
    codes "1000 job 2 react 4" ∷
    codes "1000 ret" ∷
    codes "1000 run 2" ∷
    codes "1000 call 10" ∷
    codes "1000 log 1" ∷
    codes "1000 reg 11 timeout 10" ∷
    codes "1000 arm 11 1000 1" ∷
    codes "1000 ret" ∷
    codes "1000 settle 5 ok unit" ∷
    codes "1000 due 11" ∷
    codes "1000 turn 8 timer" ∷
    codes "1000 call 11" ∷
    codes "1000 log \"q\"" ∷
    codes "1000 ret" ∷
    codes "1000 end done" ∷
    [])
unfolding page_trace run run_by
registrations_inside_listeners_and_microtasks = refl

--     postMessage(3, [1, "a"]);
--     postMessage(0, 1);
abbrev message_to_nobody_and_to_no_port_script : Program
message_to_nobody_and_to_no_port_script =
    record {
      items =
          (StmtItem (ExprStmt (Call (named "postMessage") (with_expr (Number (pos 3)) (with_expr (ListLiteral (with_expr (Number (pos 1)) (with_expr (TextLiteral (codes "a")) no_exprs))) no_exprs))))) ∷
          (StmtItem (ExprStmt (Call (named "postMessage") (with_expr (Number (pos 0)) (with_expr (Number (pos 1)) no_exprs))))) ∷
          [];
      names = [];
    }

abbrev message_to_nobody_and_to_no_port_setup : Setup
message_to_nobody_and_to_no_port_setup =
    record { form = 1; trace = 1; policy = (Rank default_list); fuel = 1000000; until = 10000000; refresh = 60; late = []; latencies = []; arrivals = [] }

message_to_nobody_and_to_no_port : page_trace message_to_nobody_and_to_no_port_script message_to_nobody_and_to_no_port_setup four_hosts ([]) ≡ rows (
    codes "trace 1" ∷
    codes "0 turn 1 dom" ∷
    codes "0 call 1" ∷
    codes "0 send 3 [1,\"a\"]" ∷
    codes "0 throw TypeError(\"\")" ∷
    codes "0 report TypeError(\"\")" ∷
    codes "0 end done" ∷
    [])
unfolding page_trace run run_by
message_to_nobody_and_to_no_port = refl

--     fn t(n, v) { try { postMessage(n, v); } catch (e) { log(e); } }
--     fn g() {}
--     t(64, fault("x"));
--     t(65, 1);
--     t("1", 1);
--     t(1, [[g]]);
--     t(1, resolved(2));
--     t(1, controller());
--     t(1, [true, unit, -3, ""]);
--     var l = 1;
--     var i = 0;
--     while (i < 63) { l = [l]; i = i + 1; }
--     t(2, l);
--     l = [l];
--     t(2, l);
abbrev messages_that_may_be_sent_script : Program
messages_that_may_be_sent_script =
    record {
      items =
          (FnItem (named "t") ((named "n") ∷ (named "v") ∷ []) (with_stmt (TryStmt (with_stmt (ExprStmt (Call (named "postMessage") (with_expr (Name (named "n")) (with_expr (Name (named "v")) no_exprs)))) no_stmts) (named "e") (with_stmt (ExprStmt (Call (named "log") (with_expr (Name (named "e")) no_exprs))) no_stmts)) no_stmts)) ∷
          (FnItem (named "g") ([]) no_stmts) ∷
          (StmtItem (ExprStmt (Call (named "t") (with_expr (Number (pos 64)) (with_expr (Call (named "fault") (with_expr (TextLiteral (codes "x")) no_exprs)) no_exprs))))) ∷
          (StmtItem (ExprStmt (Call (named "t") (with_expr (Number (pos 65)) (with_expr (Number (pos 1)) no_exprs))))) ∷
          (StmtItem (ExprStmt (Call (named "t") (with_expr (TextLiteral (codes "1")) (with_expr (Number (pos 1)) no_exprs))))) ∷
          (StmtItem (ExprStmt (Call (named "t") (with_expr (Number (pos 1)) (with_expr (ListLiteral (with_expr (ListLiteral (with_expr (Name (named "g")) no_exprs)) no_exprs)) no_exprs))))) ∷
          (StmtItem (ExprStmt (Call (named "t") (with_expr (Number (pos 1)) (with_expr (Call (named "resolved") (with_expr (Number (pos 2)) no_exprs)) no_exprs))))) ∷
          (StmtItem (ExprStmt (Call (named "t") (with_expr (Number (pos 1)) (with_expr (Call (named "controller") no_exprs) no_exprs))))) ∷
          (StmtItem (ExprStmt (Call (named "t") (with_expr (Number (pos 1)) (with_expr (ListLiteral (with_expr TrueLiteral (with_expr UnitLiteral (with_expr (Unary Negative (Number (pos 3))) (with_expr (TextLiteral (codes "")) no_exprs))))) no_exprs))))) ∷
          (StmtItem (VarStmt (named "l") (Number (pos 1)))) ∷
          (StmtItem (VarStmt (named "i") (Number (pos 0)))) ∷
          (StmtItem (WhileStmt (Compare (Name (named "i")) Less (Number (pos 63))) (with_stmt (AssignStmt (named "l") (ListLiteral (with_expr (Name (named "l")) no_exprs))) (with_stmt (AssignStmt (named "i") (Sum (Name (named "i")) (with_term Plus (Number (pos 1)) no_terms))) no_stmts)))) ∷
          (StmtItem (ExprStmt (Call (named "t") (with_expr (Number (pos 2)) (with_expr (Name (named "l")) no_exprs))))) ∷
          (StmtItem (AssignStmt (named "l") (ListLiteral (with_expr (Name (named "l")) no_exprs)))) ∷
          (StmtItem (ExprStmt (Call (named "t") (with_expr (Number (pos 2)) (with_expr (Name (named "l")) no_exprs))))) ∷
          [];
      names = codes "t" ∷ codes "g" ∷ [];
    }

abbrev messages_that_may_be_sent_setup : Setup
messages_that_may_be_sent_setup =
    record { form = 1; trace = 1; policy = (Rank default_list); fuel = 1000000; until = 10000000; refresh = 60; late = []; latencies = []; arrivals = [] }

messages_that_may_be_sent : page_trace messages_that_may_be_sent_script messages_that_may_be_sent_setup four_hosts ([]) ≡ rows (
    codes "trace 1" ∷
    codes "0 turn 1 dom" ∷
    codes "0 call 1" ∷
    codes "0 send 64 Error(\"x\")" ∷
    codes "0 log TypeError(\"\")" ∷
    codes "0 log TypeError(\"\")" ∷
    codes "0 log TypeError(\"\")" ∷
    codes "0 settle 1 ok 2" ∷
    codes "0 log TypeError(\"\")" ∷
    codes "0 log TypeError(\"\")" ∷
    codes "0 send 1 [true,unit,-3,\"\"]" ∷
    codes "0 send 2 [[[[[[[[[[[[[[[[[[[[[[[[[[[[[[[[[[[[[[[[[[[[[[[[[[[[[[[[[[[[[[[1]]]]]]]]]]]]]]]]]]]]]]]]]]]]]]]]]]]]]]]]]]]]]]]]]]]]]]]]]]]]]]]" ∷
    codes "0 log RangeError(\"\")" ∷
    codes "0 ret" ∷
    codes "0 end done" ∷
    [])
unfolding page_trace run run_by
messages_that_may_be_sent = refl
