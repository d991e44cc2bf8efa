-- Worked examples, computed: open calls.
use Rattle.std.specs.Prelude.{◌≡◌, [], ◌∷◌, pos, codes, refl}
use Rattle.page_types.specs.Tree.{Sum, Number, Name, Call, no_exprs, with_expr, no_terms, with_term, VarStmt, AssignStmt, ExprStmt, TryStmt, no_stmts, with_stmt, FnItem, StmtItem, Program}
use Rattle.page_types.specs.declared.SumSign.TheVariants.{Plus}
use Rattle.page_parts.specs.Setup.{Setup, Rank}
use Rattle.page_parts.specs.Sources.{default_list}
use Rattle.page_model.specs.Turns.{run, run_by}
use Rattle.page_model.specs.PageTrace.{page_trace}
use Rattle.page_model.proofs.Examples.Sample.{named, four_hosts, logs_of, rows}

--     var d = 0;
--     fn r(n) { d = n; r(n + 1); }
--     try { r(1); } catch (e) { log(d); log(e); }
abbrev two_hundred_and_fifty_six_open_calls_script : Program
two_hundred_and_fifty_six_open_calls_script =
    record {
      items =
          (StmtItem (VarStmt (named "d") (Number (pos 0)))) ∷
          (FnItem (named "r") ((named "n") ∷ []) (with_stmt (AssignStmt (named "d") (Name (named "n"))) (with_stmt (ExprStmt (Call (named "r") (with_expr (Sum (Name (named "n")) (with_term Plus (Number (pos 1)) no_terms)) no_exprs))) no_stmts))) ∷
          (StmtItem (TryStmt (with_stmt (ExprStmt (Call (named "r") (with_expr (Number (pos 1)) no_exprs))) no_stmts) (named "e") (with_stmt (ExprStmt (Call (named "log") (with_expr (Name (named "d")) no_exprs))) (with_stmt (ExprStmt (Call (named "log") (with_expr (Name (named "e")) no_exprs))) no_stmts)))) ∷
          [];
      names = codes "r" ∷ [];
    }

abbrev two_hundred_and_fifty_six_open_calls_setup : Setup
two_hundred_and_fifty_six_open_calls_setup =
    record { form = 1; trace = 1; policy = (Rank default_list); fuel = 257; until = 10000000; refresh = 60; late = []; latencies = []; arrivals = [] }

two_hundred_and_fifty_six_open_calls : logs_of (page_trace two_hundred_and_fifty_six_open_calls_script two_hundred_and_fifty_six_open_calls_setup four_hosts ([])) ≡ rows (
    codes "0 255" ∷
    codes "0 RangeError(\"\")" ∷
    [])
unfolding page_trace run run_by
two_hundred_and_fifty_six_open_calls = refl

--     var d = 0;
--     fn r(n) { d = n; r(n + 1); }
--     try { r(1); } catch (e) { log(d); log(e); }
abbrev open_calls_end_with_the_fuel_script : Program
open_calls_end_with_the_fuel_script =
    record {
      items =
          (StmtItem (VarStmt (named "d") (Number (pos 0)))) ∷
          (FnItem (named "r") ((named "n") ∷ []) (with_stmt (AssignStmt (named "d") (Name (named "n"))) (with_stmt (ExprStmt (Call (named "r") (with_expr (Sum (Name (named "n")) (with_term Plus (Number (pos 1)) no_terms)) no_exprs))) no_stmts))) ∷
          (StmtItem (TryStmt (with_stmt (ExprStmt (Call (named "r") (with_expr (Number (pos 1)) no_exprs))) no_stmts) (named "e") (with_stmt (ExprStmt (Call (named "log") (with_expr (Name (named "d")) no_exprs))) (with_stmt (ExprStmt (Call (named "log") (with_expr (Name (named "e")) no_exprs))) no_stmts)))) ∷
          [];
      names = codes "r" ∷ [];
    }

abbrev open_calls_end_with_the_fuel_setup : Setup
open_calls_end_with_the_fuel_setup =
    record { form = 1; trace = 1; policy = (Rank default_list); fuel = 256; until = 10000000; refresh = 60; late = []; latencies = []; arrivals = [] }

open_calls_end_with_the_fuel : logs_of (page_trace open_calls_end_with_the_fuel_script open_calls_end_with_the_fuel_setup four_hosts ([])) ≡ codes ""
unfolding page_trace run run_by
open_calls_end_with_the_fuel = refl
