-- A worked example, computed: an abort within an abort, by steps.
use Rattle.std.specs.Prelude.{◌≡◌, ℕ, List, [], ◌∷◌, codes, refl}
use Rattle.page_types.specs.Events.{Event, Log, Stamped}
use Rattle.page_types.specs.Tree.{TextLiteral, UnitLiteral, Name, Call, no_exprs, with_expr, VarStmt, ExprStmt, no_stmts, with_stmt, FnItem, StmtItem, Program}
use Rattle.page_parts.specs.Setup.{Setup, Rank}
use Rattle.page_parts.specs.Sources.{default_list}
use Rattle.page_parts.specs.WrittenChoices.{written}
use Rattle.page_model.specs.Choosing.{choice_rules}
use Rattle.page_model.specs.Turns.{turns, first_state, events_of_run}
use Rattle.page_model.specs.Hosted.{call_by_steps}
use Rattle.page_model.proofs.Examples.Sample.{named, four_hosts}

--     fn l1(s) { log("L1"); abort(d, unit); log("L1 ends"); }
--     fn l2(s) { log("L2"); }
--     fn k1(s) { log("K1"); }
--     fn k2(s) { log("K2"); }
--     var c = controller();
--     var d = controller();
--     listen(signal(c), "abort", l1);
--     listen(signal(c), "abort", l2);
--     listen(signal(d), "abort", k1);
--     listen(signal(d), "abort", k2);
--     abort(c, unit);
--     log("end");
abbrev abort_within_an_abort_script : Program
abort_within_an_abort_script =
    record {
      items =
          (FnItem (named "l1") (named "s" ∷ []) (with_stmt (ExprStmt (Call (named "log") (with_expr (TextLiteral (codes "L1")) no_exprs))) (with_stmt (ExprStmt (Call (named "abort") (with_expr (Name (named "d")) (with_expr UnitLiteral no_exprs)))) (with_stmt (ExprStmt (Call (named "log") (with_expr (TextLiteral (codes "L1 ends")) no_exprs))) no_stmts)))) ∷
          (FnItem (named "l2") (named "s" ∷ []) (with_stmt (ExprStmt (Call (named "log") (with_expr (TextLiteral (codes "L2")) no_exprs))) no_stmts)) ∷
          (FnItem (named "k1") (named "s" ∷ []) (with_stmt (ExprStmt (Call (named "log") (with_expr (TextLiteral (codes "K1")) no_exprs))) no_stmts)) ∷
          (FnItem (named "k2") (named "s" ∷ []) (with_stmt (ExprStmt (Call (named "log") (with_expr (TextLiteral (codes "K2")) no_exprs))) no_stmts)) ∷
          (StmtItem (VarStmt (named "c") (Call (named "controller") no_exprs))) ∷
          (StmtItem (VarStmt (named "d") (Call (named "controller") no_exprs))) ∷
          (StmtItem (ExprStmt (Call (named "listen") (with_expr (Call (named "signal") (with_expr (Name (named "c")) no_exprs)) (with_expr (TextLiteral (codes "abort")) (with_expr (Name (named "l1")) no_exprs)))))) ∷
          (StmtItem (ExprStmt (Call (named "listen") (with_expr (Call (named "signal") (with_expr (Name (named "c")) no_exprs)) (with_expr (TextLiteral (codes "abort")) (with_expr (Name (named "l2")) no_exprs)))))) ∷
          (StmtItem (ExprStmt (Call (named "listen") (with_expr (Call (named "signal") (with_expr (Name (named "d")) no_exprs)) (with_expr (TextLiteral (codes "abort")) (with_expr (Name (named "k1")) no_exprs)))))) ∷
          (StmtItem (ExprStmt (Call (named "listen") (with_expr (Call (named "signal") (with_expr (Name (named "d")) no_exprs)) (with_expr (TextLiteral (codes "abort")) (with_expr (Name (named "k2")) no_exprs)))))) ∷
          (StmtItem (ExprStmt (Call (named "abort") (with_expr (Name (named "c")) (with_expr UnitLiteral no_exprs))))) ∷
          (StmtItem (ExprStmt (Call (named "log") (with_expr (TextLiteral (codes "end")) no_exprs)))) ∷
          [];
      names = codes "l1" ∷ codes "l2" ∷ codes "k1" ∷ codes "k2" ∷ [];
    }

abbrev abort_within_an_abort_setup : Setup
abort_within_an_abort_setup =
    record { form = 1; trace = 1; policy = (Rank default_list); fuel = 1000; until = 10000000; refresh = 60; late = []; latencies = []; arrivals = [] }

-- what was logged
abbrev and_logged : Event → List (List ℕ) → List (List ℕ)
and_logged (Log text) more = text ∷ more
and_logged e more = more

abbrev logged : List Stamped → List (List ℕ)
logged [] = []
logged (e ∷ es) = and_logged e.event (logged es)

-- the inner abort calls its listeners before the outer one goes on
abort_within_an_abort : logged (events_of_run (turns choice_rules (call_by_steps abort_within_an_abort_script) 10000000 1001 (first_state abort_within_an_abort_script abort_within_an_abort_setup four_hosts) (written abort_within_an_abort_setup [])))
    ≡ codes "\"L1\"" ∷ codes "\"K1\"" ∷ codes "\"K2\"" ∷ codes "\"L1 ends\"" ∷ codes "\"L2\"" ∷ codes "\"end\"" ∷ []
abort_within_an_abort = refl
