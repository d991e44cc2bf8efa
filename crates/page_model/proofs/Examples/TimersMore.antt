-- Worked examples, computed: timers and values.
use Rattle.std.specs.Prelude.{◌≡◌, [], ◌∷◌, pos, codes, refl}
use Rattle.page_types.specs.declared.ProductSign.TheVariants.{Divide}
use Rattle.page_types.specs.Tree.{Sum, Product, Number, TextLiteral, TrueLiteral, Name, Call, ListLiteral, no_exprs, with_expr, no_terms, with_term, no_factors, with_factor, VarStmt, ExprStmt, ThrowStmt, TryStmt, no_stmts, with_stmt, FnItem, StmtItem, Program}
use Rattle.page_types.specs.declared.SumSign.TheVariants.{Plus}
use Rattle.page_parts.specs.Setup.{Setup, Rank}
use Rattle.page_parts.specs.Sources.{default_list}
use Rattle.page_model.specs.Turns.{run, run_by}
use Rattle.page_model.specs.PageTrace.{page_trace}
use Rattle.page_model.proofs.Examples.Sample.{named, four_hosts, logs_of, rows}

--     fn f() { log(now()); setTimeout(f, 0); }
--     setTimeout(f, 0);
abbrev timeout_clamped_above_nesting_5_script : Program
timeout_clamped_above_nesting_5_script =
    record {
      items =
          (FnItem (named "f") ([]) (with_stmt (ExprStmt (Call (named "log") (with_expr (Call (named "now") no_exprs) no_exprs))) (with_stmt (ExprStmt (Call (named "setTimeout") (with_expr (Name (named "f")) (with_expr (Number (pos 0)) no_exprs)))) no_stmts))) ∷
          (StmtItem (ExprStmt (Call (named "setTimeout") (with_expr (Name (named "f")) (with_expr (Number (pos 0)) no_exprs))))) ∷
          [];
      names = codes "f" ∷ [];
    }

abbrev timeout_clamped_above_nesting_5_setup : Setup
timeout_clamped_above_nesting_5_setup =
    record { form = 1; trace = 1; policy = (Rank default_list); fuel = 1000000; until = 10000; refresh = 60; late = []; latencies = []; arrivals = [] }

timeout_clamped_above_nesting_5 : logs_of (page_trace timeout_clamped_above_nesting_5_script timeout_clamped_above_nesting_5_setup four_hosts ([])) ≡ rows (
    codes "0 0" ∷
    codes "0 0" ∷
    codes "0 0" ∷
    codes "0 0" ∷
    codes "0 0" ∷
    codes "0 0" ∷
    codes "4000 4000" ∷
    codes "8000 8000" ∷
    [])
unfolding page_trace run run_by
timeout_clamped_above_nesting_5 = refl

--     fn f() { log(now()); }
--     setInterval(f, 0);
abbrev interval_clamped_above_nesting_5_script : Program
interval_clamped_above_nesting_5_script =
    record {
      items =
          (FnItem (named "f") ([]) (with_stmt (ExprStmt (Call (named "log") (with_expr (Call (named "now") no_exprs) no_exprs))) no_stmts)) ∷
          (StmtItem (ExprStmt (Call (named "setInterval") (with_expr (Name (named "f")) (with_expr (Number (pos 0)) no_exprs))))) ∷
          [];
      names = codes "f" ∷ [];
    }

abbrev interval_clamped_above_nesting_5_setup : Setup
interval_clamped_above_nesting_5_setup =
    record { form = 1; trace = 1; policy = (Rank default_list); fuel = 1000000; until = 10000; refresh = 60; late = []; latencies = []; arrivals = [] }

interval_clamped_above_nesting_5 : logs_of (page_trace interval_clamped_above_nesting_5_script interval_clamped_above_nesting_5_setup four_hosts ([])) ≡ rows (
    codes "0 0" ∷
    codes "0 0" ∷
    codes "0 0" ∷
    codes "0 0" ∷
    codes "0 0" ∷
    codes "0 0" ∷
    codes "4000 4000" ∷
    codes "8000 8000" ∷
    [])
unfolding page_trace run run_by
interval_clamped_above_nesting_5 = refl

--     fn f() { log(now()); }
--     setTimeout(f, 2147483648);
abbrev timeout_of_2_to_the_31_fires_at_once_script : Program
timeout_of_2_to_the_31_fires_at_once_script =
    record {
      items =
          (FnItem (named "f") ([]) (with_stmt (ExprStmt (Call (named "log") (with_expr (Call (named "now") no_exprs) no_exprs))) no_stmts)) ∷
          (StmtItem (ExprStmt (Call (named "setTimeout") (with_expr (Name (named "f")) (with_expr (Number (pos 2147483648)) no_exprs))))) ∷
          [];
      names = codes "f" ∷ [];
    }

abbrev timeout_of_2_to_the_31_fires_at_once_setup : Setup
timeout_of_2_to_the_31_fires_at_once_setup =
    record { form = 1; trace = 1; policy = (Rank default_list); fuel = 1000000; until = 10000000; refresh = 60; late = []; latencies = []; arrivals = [] }

timeout_of_2_to_the_31_fires_at_once : logs_of (page_trace timeout_of_2_to_the_31_fires_at_once_script timeout_of_2_to_the_31_fires_at_once_setup four_hosts ([])) ≡ codes "0 0\n"
unfolding page_trace run run_by
timeout_of_2_to_the_31_fires_at_once = refl

--     fn f() { log(now()); }
--     setTimeout(f, 2147483647);
abbrev greatest_timeout_is_past_until_script : Program
greatest_timeout_is_past_until_script =
    record {
      items =
          (FnItem (named "f") ([]) (with_stmt (ExprStmt (Call (named "log") (with_expr (Call (named "now") no_exprs) no_exprs))) no_stmts)) ∷
          (StmtItem (ExprStmt (Call (named "setTimeout") (with_expr (Name (named "f")) (with_expr (Number (pos 2147483647)) no_exprs))))) ∷
          [];
      names = codes "f" ∷ [];
    }

abbrev greatest_timeout_is_past_until_setup : Setup
greatest_timeout_is_past_until_setup =
    record { form = 1; trace = 1; policy = (Rank default_list); fuel = 1000000; until = 10000000; refresh = 60; late = []; latencies = []; arrivals = [] }

greatest_timeout_is_past_until : page_trace greatest_timeout_is_past_until_script greatest_timeout_is_past_until_setup four_hosts ([]) ≡ rows (
    codes "trace 1" ∷
    codes "0 turn 1 dom" ∷
    codes "0 call 1" ∷
    codes "0 reg 2 timeout" ∷
    codes "0 arm 2 2147483647000 1" ∷
    codes "0 ret" ∷
    codes "10000000 end clock" ∷
    [])
unfolding page_trace run run_by
greatest_timeout_is_past_until = refl

--     try { throw 5; } catch (e) { log(e); }
--     log([1, "a", [true]]);
--     fn h(a, b) { log(a + b); }
--     var k = bind(h, ["x"]);
--     log(k);
--     k("y");
--     log(7 / 0);
abbrev values_and_faults_script : Program
values_and_faults_script =
    record {
      items =
          (StmtItem (TryStmt (with_stmt (ThrowStmt (Number (pos 5))) no_stmts) (named "e") (with_stmt (ExprStmt (Call (named "log") (with_expr (Name (named "e")) no_exprs))) no_stmts))) ∷
          (StmtItem (ExprStmt (Call (named "log") (with_expr (ListLiteral (with_expr (Number (pos 1)) (with_expr (TextLiteral (codes "a")) (with_expr (ListLiteral (with_expr TrueLiteral no_exprs)) no_exprs)))) no_exprs)))) ∷
          (FnItem (named "h") ((named "a") ∷ (named "b") ∷ []) (with_stmt (ExprStmt (Call (named "log") (with_expr (Sum (Name (named "a")) (with_term Plus (Name (named "b")) no_terms)) no_exprs))) no_stmts)) ∷
          (StmtItem (VarStmt (named "k") (Call (named "bind") (with_expr (Name (named "h")) (with_expr (ListLiteral (with_expr (TextLiteral (codes "x")) no_exprs)) no_exprs))))) ∷
          (StmtItem (ExprStmt (Call (named "log") (with_expr (Name (named "k")) no_exprs)))) ∷
          (StmtItem (ExprStmt (Call (named "k") (with_expr (TextLiteral (codes "y")) no_exprs)))) ∷
          (StmtItem (ExprStmt (Call (named "log") (with_expr (Product (Number (pos 7)) (with_factor Divide (Number (pos 0)) no_factors)) no_exprs)))) ∷
          [];
      names = codes "h" ∷ [];
    }

abbrev values_and_faults_setup : Setup
values_and_faults_setup =
    record { form = 1; trace = 1; policy = (Rank default_list); fuel = 1000000; until = 10000000; refresh = 60; late = []; latencies = []; arrivals = [] }

values_and_faults : page_trace values_and_faults_script values_and_faults_setup four_hosts ([]) ≡ rows (
    codes "trace 1" ∷
    codes "0 turn 1 dom" ∷
    codes "0 call 1" ∷
    codes "0 log 5" ∷
    codes "0 log [1,\"a\",[true]]" ∷
    codes "0 log fn:h(\"x\")" ∷
    codes "0 log \"xy\"" ∷
    codes "0 throw RangeError(\"\")" ∷
    codes "0 report RangeError(\"\")" ∷
    codes "0 end done" ∷
    [])
unfolding page_trace run run_by
values_and_faults = refl
