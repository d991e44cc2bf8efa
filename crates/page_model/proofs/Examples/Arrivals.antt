-- Worked examples, computed: arrivals and host closures.
use Rattle.std.specs.Prelude.{◌≡◌, [], ◌∷◌, Ok, pos, codes, refl}
use Rattle.page_types.specs.Values.{IntValue}
use Rattle.page_types.specs.declared.Source.TheVariants.{User, Net}
use Rattle.page_types.specs.Tree.{Number, TextLiteral, UnitLiteral, Name, Call, no_exprs, with_expr, VarStmt, AssignStmt, ExprStmt, no_stmts, with_stmt, FnItem, StmtItem, Program}
use Rattle.page_parts.specs.Setup.{Setup, Fifo, Rank}
use Rattle.page_parts.specs.Sources.{default_list}
use Rattle.page_model.specs.Turns.{run, run_by}
use Rattle.page_model.specs.PageTrace.{page_trace}
use Rattle.page_model.proofs.Examples.Sample.{named, four_hosts, logs_of, rows}

--     fn f(v) { log(v); }
--     listen(unit, "a", f);
abbrev fifo_serves_in_order_script : Program
fifo_serves_in_order_script =
    record {
      items =
          (FnItem (named "f") ((named "v") ∷ []) (with_stmt (ExprStmt (Call (named "log") (with_expr (Name (named "v")) no_exprs))) no_stmts)) ∷
          (StmtItem (ExprStmt (Call (named "listen") (with_expr UnitLiteral (with_expr (TextLiteral (codes "a")) (with_expr (Name (named "f")) no_exprs)))))) ∷
          [];
      names = codes "f" ∷ [];
    }

abbrev fifo_serves_in_order_setup : Setup
fifo_serves_in_order_setup =
    record { form = 1; trace = 1; policy = Fifo; fuel = 1000000; until = 10000000; refresh = 60; late = []; latencies = []; arrivals = record { at = 0; source = Net; name = codes "a"; value = (IntValue (pos 1)) } ∷ record { at = 0; source = User; name = codes "a"; value = (IntValue (pos 2)) } ∷ [] }

fifo_serves_in_order : logs_of (page_trace fifo_serves_in_order_script fifo_serves_in_order_setup four_hosts ([])) ≡ rows (
    codes "0 1" ∷
    codes "0 2" ∷
    [])
unfolding page_trace run run_by
fifo_serves_in_order = refl

--     fn f(v) { log(v); }
--     listen(unit, "a", f);
abbrev default_rank_serves_user_before_net_script : Program
default_rank_serves_user_before_net_script =
    record {
      items =
          (FnItem (named "f") ((named "v") ∷ []) (with_stmt (ExprStmt (Call (named "log") (with_expr (Name (named "v")) no_exprs))) no_stmts)) ∷
          (StmtItem (ExprStmt (Call (named "listen") (with_expr UnitLiteral (with_expr (TextLiteral (codes "a")) (with_expr (Name (named "f")) no_exprs)))))) ∷
          [];
      names = codes "f" ∷ [];
    }

abbrev default_rank_serves_user_before_net_setup : Setup
default_rank_serves_user_before_net_setup =
    record { form = 1; trace = 1; policy = (Rank default_list); fuel = 1000000; until = 10000000; refresh = 60; late = []; latencies = []; arrivals = record { at = 0; source = Net; name = codes "a"; value = (IntValue (pos 1)) } ∷ record { at = 0; source = User; name = codes "a"; value = (IntValue (pos 2)) } ∷ [] }

default_rank_serves_user_before_net : logs_of (page_trace default_rank_serves_user_before_net_script default_rank_serves_user_before_net_setup four_hosts ([])) ≡ rows (
    codes "0 2" ∷
    codes "0 1" ∷
    [])
unfolding page_trace run run_by
default_rank_serves_user_before_net = refl

--     var id = 0;
--     fn save() { log("save"); }
--     fn click(v) { clearTimeout(id); id = setTimeout(save, 300); }
--     listen(unit, "click", click);
abbrev search_box_saves_once_script : Program
search_box_saves_once_script =
    record {
      items =
          (StmtItem (VarStmt (named "id") (Number (pos 0)))) ∷
          (FnItem (named "save") ([]) (with_stmt (ExprStmt (Call (named "log") (with_expr (TextLiteral (codes "save")) no_exprs))) no_stmts)) ∷
          (FnItem (named "click") ((named "v") ∷ []) (with_stmt (ExprStmt (Call (named "clearTimeout") (with_expr (Name (named "id")) no_exprs))) (with_stmt (AssignStmt (named "id") (Call (named "setTimeout") (with_expr (Name (named "save")) (with_expr (Number (pos 300)) no_exprs)))) no_stmts))) ∷
          (StmtItem (ExprStmt (Call (named "listen") (with_expr UnitLiteral (with_expr (TextLiteral (codes "click")) (with_expr (Name (named "click")) no_exprs)))))) ∷
          [];
      names = codes "save" ∷ codes "click" ∷ [];
    }

abbrev search_box_saves_once_setup : Setup
search_box_saves_once_setup =
    record { form = 1; trace = 1; policy = (Rank default_list); fuel = 1000000; until = 10000000; refresh = 60; late = 500 ∷ []; latencies = []; arrivals = record { at = 1000; source = User; name = codes "click"; value = (IntValue (pos 1)) } ∷ record { at = 200000; source = User; name = codes "click"; value = (IntValue (pos 2)) } ∷ [] }

search_box_saves_once : page_trace search_box_saves_once_script search_box_saves_once_setup four_hosts ([]) ≡ rows (
    codes "trace 1" ∷
    codes "0 turn 1 dom" ∷
    codes "0 call 1" ∷
    codes "0 reg 2 listener" ∷
    codes "0 ret" ∷
    codes "1500 wait 1000" ∷
    codes "1500 turn 2 user" ∷
    codes "1500 call 2" ∷
    codes "1500 reg 3 timeout" ∷
    codes "1500 arm 3 301500 1" ∷
    codes "1500 ret" ∷
    codes "200000 wait 200000" ∷
    codes "200000 turn 3 user" ∷
    codes "200000 call 2" ∷
    codes "200000 drop 3" ∷
    codes "200000 reg 4 timeout" ∷
    codes "200000 arm 4 500000 1" ∷
    codes "200000 ret" ∷
    codes "301500 wait 301500" ∷
    codes "301500 due 3" ∷
    codes "301500 turn 4 timer" ∷
    codes "500000 wait 500000" ∷
    codes "500000 due 4" ∷
    codes "500000 turn 5 timer" ∷
    codes "500000 call 4" ∷
    codes "500000 log \"save\"" ∷
    codes "500000 ret" ∷
    codes "500000 end done" ∷
    [])
unfolding page_trace run run_by
search_box_saves_once = refl

--     fn f(v) { log(v); }
--     then(host(0, 7, unit), f, f);
--     then(host(0, 1, unit), f, f);
abbrev host_closure_answers_once_script : Program
host_closure_answers_once_script =
    record {
      items =
          (FnItem (named "f") ((named "v") ∷ []) (with_stmt (ExprStmt (Call (named "log") (with_expr (Name (named "v")) no_exprs))) no_stmts)) ∷
          (StmtItem (ExprStmt (Call (named "then") (with_expr (Call (named "host") (with_expr (Number (pos 0)) (with_expr (Number (pos 7)) (with_expr UnitLiteral no_exprs)))) (with_expr (Name (named "f")) (with_expr (Name (named "f")) no_exprs)))))) ∷
          (StmtItem (ExprStmt (Call (named "then") (with_expr (Call (named "host") (with_expr (Number (pos 0)) (with_expr (Number (pos 1)) (with_expr UnitLiteral no_exprs)))) (with_expr (Name (named "f")) (with_expr (Name (named "f")) no_exprs)))))) ∷
          [];
      names = codes "f" ∷ [];
    }

abbrev host_closure_answers_once_setup : Setup
host_closure_answers_once_setup =
    record { form = 1; trace = 1; policy = (Rank default_list); fuel = 1000000; until = 10000000; refresh = 60; late = []; latencies = record { closure = 0; latency = 3000 } ∷ []; arrivals = [] }

host_closure_answers_once : page_trace host_closure_answers_once_script host_closure_answers_once_setup four_hosts (Ok (pos 49) ∷ []) ≡ rows (
    codes "trace 1" ∷
    codes "0 turn 1 dom" ∷
    codes "0 call 1" ∷
    codes "0 reg 2 host" ∷
    codes "0 arm 2 3000 0" ∷
    codes "0 reg 3 then" ∷
    codes "0 settle 3 err NotAllowedError(\"\")" ∷
    codes "0 reg 4 then" ∷
    codes "0 job 1 react 3" ∷
    codes "0 ret" ∷
    codes "0 run 1" ∷
    codes "0 call 4" ∷
    codes "0 log NotAllowedError(\"\")" ∷
    codes "0 ret" ∷
    codes "0 settle 4 ok unit" ∷
    codes "3000 wait 3000" ∷
    codes "3000 due 2" ∷
    codes "3000 turn 2 net" ∷
    codes "3000 host 0 7 ok 49" ∷
    codes "3000 settle 1 ok 49" ∷
    codes "3000 job 2 react 1" ∷
    codes "3000 run 2" ∷
    codes "3000 call 3" ∷
    codes "3000 log 49" ∷
    codes "3000 ret" ∷
    codes "3000 settle 2 ok unit" ∷
    codes "3000 end done" ∷
    [])
unfolding page_trace run run_by
host_closure_answers_once = refl

--     fn f(v) { log(v); }
--     var c = controller();
--     then(host(0, 7, signal(c)), f, f);
--     fn k() { abort(c, unit); }
--     setTimeout(k, 1);
abbrev aborted_host_answer_is_dropped_script : Program
aborted_host_answer_is_dropped_script =
    record {
      items =
          (FnItem (named "f") ((named "v") ∷ []) (with_stmt (ExprStmt (Call (named "log") (with_expr (Name (named "v")) no_exprs))) no_stmts)) ∷
          (StmtItem (VarStmt (named "c") (Call (named "controller") no_exprs))) ∷
          (StmtItem (ExprStmt (Call (named "then") (with_expr (Call (named "host") (with_expr (Number (pos 0)) (with_expr (Number (pos 7)) (with_expr (Call (named "signal") (with_expr (Name (named "c")) no_exprs)) no_exprs)))) (with_expr (Name (named "f")) (with_expr (Name (named "f")) no_exprs)))))) ∷
          (FnItem (named "k") ([]) (with_stmt (ExprStmt (Call (named "abort") (with_expr (Name (named "c")) (with_expr UnitLiteral no_exprs)))) no_stmts)) ∷
          (StmtItem (ExprStmt (Call (named "setTimeout") (with_expr (Name (named "k")) (with_expr (Number (pos 1)) no_exprs))))) ∷
          [];
      names = codes "f" ∷ codes "k" ∷ [];
    }

abbrev aborted_host_answer_is_dropped_setup : Setup
aborted_host_answer_is_dropped_setup =
    record { form = 1; trace = 1; policy = (Rank default_list); fuel = 1000000; until = 10000000; refresh = 60; late = []; latencies = record { closure = 0; latency = 3000 } ∷ []; arrivals = [] }

aborted_host_answer_is_dropped : logs_of (page_trace aborted_host_answer_is_dropped_script aborted_host_answer_is_dropped_setup four_hosts ([])) ≡ codes "1000 AbortError(\"\")\n"
unfolding page_trace run run_by
aborted_host_answer_is_dropped = refl
