-- Worked examples, computed: many callbacks at once.
use Rattle.std.specs.Prelude.{◌≡◌, [], ◌∷◌, Some, pos, codes, refl}
use Rattle.page_types.specs.declared.CompareSign.TheVariants.{Equals, Less}
use Rattle.page_types.specs.declared.ProductSign.TheVariants.{Times, Divide, Remainder}
use Rattle.page_types.specs.Tree.{Compare, Sum, Product, Number, TextLiteral, UnitLiteral, Name, Call, Paren, no_exprs, with_expr, no_terms, with_term, no_factors, with_factor, VarStmt, AssignStmt, ExprStmt, IfStmt, WhileStmt, ReturnStmt, no_stmts, with_stmt, no_else_ifs, no_else, FnItem, StmtItem, Program}
use Rattle.page_types.specs.declared.SumSign.TheVariants.{Plus}
use Rattle.page_parts.specs.Setup.{Setup, Rank}
use Rattle.page_parts.specs.Sources.{default_list}
use Rattle.page_model.specs.Turns.{run, run_by}
use Rattle.page_model.proofs.Examples.Sample.{named, four_hosts, summary_text, rows}

--     var i = 0;
--     var s = 1;
--     var k = 0;
--     var c = unit;
--     fn f() { return 1; }
--     fn g(v) {}
--     while (i < 4) { s = (s * 1103515245 + 12345) % 2147483648; k = (s / 65536) % 4; if (k == 0) { setTimeout(f, (s / 262144) % 1000); } if
--         (k == 1) { queueMicrotask(f); } if (k == 2) { postTask(f, "background", unit, 0); } if (k == 3) { c = controller(); then(postTask(f,
--         unit, signal(c), 0), unit, g); abort(c, unit); } i = i + 1; }
abbrev storm_4_script : Program
storm_4_script =
    record {
      items =
          (StmtItem (VarStmt (named "i") (Number (pos 0)))) ∷
          (StmtItem (VarStmt (named "s") (Number (pos 1)))) ∷
          (StmtItem (VarStmt (named "k") (Number (pos 0)))) ∷
          (StmtItem (VarStmt (named "c") UnitLiteral)) ∷
          (FnItem (named "f") ([]) (with_stmt (ReturnStmt (Some (Number (pos 1)))) no_stmts)) ∷
          (FnItem (named "g") ((named "v") ∷ []) no_stmts) ∷
          (StmtItem (WhileStmt (Compare (Name (named "i")) Less (Number (pos 4))) (with_stmt (AssignStmt (named "s") (Product (Paren (Sum (Product (Name (named "s")) (with_factor Times (Number (pos 1103515245)) no_factors)) (with_term Plus (Number (pos 12345)) no_terms))) (with_factor Remainder (Number (pos 2147483648)) no_factors))) (with_stmt (AssignStmt (named "k") (Product (Paren (Product (Name (named "s")) (with_factor Divide (Number (pos 65536)) no_factors))) (with_factor Remainder (Number (pos 4)) no_factors))) (with_stmt (IfStmt (Compare (Name (named "k")) Equals (Number (pos 0))) (with_stmt (ExprStmt (Call (named "setTimeout") (with_expr (Name (named "f")) (with_expr (Product (Paren (Product (Name (named "s")) (with_factor Divide (Number (pos 262144)) no_factors))) (with_factor Remainder (Number (pos 1000)) no_factors)) no_exprs)))) no_stmts) no_else_ifs no_else) (with_stmt (IfStmt (Compare (Name (named "k")) Equals (Number (pos 1))) (with_stmt (ExprStmt (Call (named "queueMicrotask") (with_expr (Name (named "f")) no_exprs))) no_stmts) no_else_ifs no_else) (with_stmt (IfStmt (Compare (Name (named "k")) Equals (Number (pos 2))) (with_stmt (ExprStmt (Call (named "postTask") (with_expr (Name (named "f")) (with_expr (TextLiteral (codes "background")) (with_expr UnitLiteral (with_expr (Number (pos 0)) no_exprs)))))) no_stmts) no_else_ifs no_else) (with_stmt (IfStmt (Compare (Name (named "k")) Equals (Number (pos 3))) (with_stmt (AssignStmt (named "c") (Call (named "controller") no_exprs)) (with_stmt (ExprStmt (Call (named "then") (with_expr (Call (named "postTask") (with_expr (Name (named "f")) (with_expr UnitLiteral (with_expr (Call (named "signal") (with_expr (Name (named "c")) no_exprs)) (with_expr (Number (pos 0)) no_exprs))))) (with_expr UnitLiteral (with_expr (Name (named "g")) no_exprs))))) (with_stmt (ExprStmt (Call (named "abort") (with_expr (Name (named "c")) (with_expr UnitLiteral no_exprs)))) no_stmts))) no_else_ifs no_else) (with_stmt (AssignStmt (named "i") (Sum (Name (named "i")) (with_term Plus (Number (pos 1)) no_terms))) no_stmts))))))))) ∷
          [];
      names = codes "f" ∷ codes "g" ∷ [];
    }

abbrev storm_4_setup : Setup
storm_4_setup =
    record { form = 1; trace = 1; policy = (Rank default_list); fuel = 10000000; until = 1000000000000; refresh = 60; late = []; latencies = []; arrivals = [] }

storm_4 : summary_text storm_4_script storm_4_setup four_hosts ([]) ≡ rows (
    codes "turns 3" ∷
    codes "calls 5" ∷
    codes "drops 1" ∷
    codes "settles 4" ∷
    [])
unfolding run run_by
storm_4 = refl

--     var i = 0;
--     var s = 1;
--     var k = 0;
--     var c = unit;
--     fn f() { return 1; }
--     fn g(v) {}
--     while (i < 10) { s = (s * 1103515245 + 12345) % 2147483648; k = (s / 65536) % 4; if (k == 0) { setTimeout(f, (s / 262144) % 1000); } if
--         (k == 1) { queueMicrotask(f); } if (k == 2) { postTask(f, "background", unit, 0); } if (k == 3) { c = controller(); then(postTask(f,
--         unit, signal(c), 0), unit, g); abort(c, unit); } i = i + 1; }
abbrev storm_10_script : Program
storm_10_script =
    record {
      items =
          (StmtItem (VarStmt (named "i") (Number (pos 0)))) ∷
          (StmtItem (VarStmt (named "s") (Number (pos 1)))) ∷
          (StmtItem (VarStmt (named "k") (Number (pos 0)))) ∷
          (StmtItem (VarStmt (named "c") UnitLiteral)) ∷
          (FnItem (named "f") ([]) (with_stmt (ReturnStmt (Some (Number (pos 1)))) no_stmts)) ∷
          (FnItem (named "g") ((named "v") ∷ []) no_stmts) ∷
          (StmtItem (WhileStmt (Compare (Name (named "i")) Less (Number (pos 10))) (with_stmt (AssignStmt (named "s") (Product (Paren (Sum (Product (Name (named "s")) (with_factor Times (Number (pos 1103515245)) no_factors)) (with_term Plus (Number (pos 12345)) no_terms))) (with_factor Remainder (Number (pos 2147483648)) no_factors))) (with_stmt (AssignStmt (named "k") (Product (Paren (Product (Name (named "s")) (with_factor Divide (Number (pos 65536)) no_factors))) (with_factor Remainder (Number (pos 4)) no_factors))) (with_stmt (IfStmt (Compare (Name (named "k")) Equals (Number (pos 0))) (with_stmt (ExprStmt (Call (named "setTimeout") (with_expr (Name (named "f")) (with_expr (Product (Paren (Product (Name (named "s")) (with_factor Divide (Number (pos 262144)) no_factors))) (with_factor Remainder (Number (pos 1000)) no_factors)) no_exprs)))) no_stmts) no_else_ifs no_else) (with_stmt (IfStmt (Compare (Name (named "k")) Equals (Number (pos 1))) (with_stmt (ExprStmt (Call (named "queueMicrotask") (with_expr (Name (named "f")) no_exprs))) no_stmts) no_else_ifs no_else) (with_stmt (IfStmt (Compare (Name (named "k")) Equals (Number (pos 2))) (with_stmt (ExprStmt (Call (named "postTask") (with_expr (Name (named "f")) (with_expr (TextLiteral (codes "background")) (with_expr UnitLiteral (with_expr (Number (pos 0)) no_exprs)))))) no_stmts) no_else_ifs no_else) (with_stmt (IfStmt (Compare (Name (named "k")) Equals (Number (pos 3))) (with_stmt (AssignStmt (named "c") (Call (named "controller") no_exprs)) (with_stmt (ExprStmt (Call (named "then") (with_expr (Call (named "postTask") (with_expr (Name (named "f")) (with_expr UnitLiteral (with_expr (Call (named "signal") (with_expr (Name (named "c")) no_exprs)) (with_expr (Number (pos 0)) no_exprs))))) (with_expr UnitLiteral (with_expr (Name (named "g")) no_exprs))))) (with_stmt (ExprStmt (Call (named "abort") (with_expr (Name (named "c")) (with_expr UnitLiteral no_exprs)))) no_stmts))) no_else_ifs no_else) (with_stmt (AssignStmt (named "i") (Sum (Name (named "i")) (with_term Plus (Number (pos 1)) no_terms))) no_stmts))))))))) ∷
          [];
      names = codes "f" ∷ codes "g" ∷ [];
    }

abbrev storm_10_setup : Setup
storm_10_setup =
    record { form = 1; trace = 1; policy = (Rank default_list); fuel = 10000000; until = 1000000000000; refresh = 60; late = []; latencies = []; arrivals = [] }

storm_10 : summary_text storm_10_script storm_10_setup four_hosts ([]) ≡ rows (
    codes "turns 6" ∷
    codes "calls 11" ∷
    codes "drops 4" ∷
    codes "settles 12" ∷
    [])
unfolding run run_by
storm_10 = refl
