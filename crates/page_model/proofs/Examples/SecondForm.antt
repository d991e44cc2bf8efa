-- Worked examples, computed: microtasks in the second form, which inherit the nesting level and the scheduling state.
use Rattle.std.specs.Prelude.{◌≡◌, [], ◌∷◌, pos, codes, refl}
use Rattle.page_types.specs.Tree.{Number, TextLiteral, UnitLiteral, Name, Call, no_exprs, with_expr, VarStmt, ExprStmt, no_stmts, with_stmt, FnItem, StmtItem, Program}
use Rattle.page_parts.specs.Setup.{Setup, Rank}
use Rattle.page_parts.specs.Sources.{default_list}
use Rattle.page_model.specs.Turns.{run, run_by}
use Rattle.page_model.specs.PageTrace.{page_trace}
use Rattle.page_model.proofs.Examples.Sample.{named, four_hosts, logs_of, rows}

--     fn g() { log(now()); setTimeout(f, 0); }
--     fn f() { queueMicrotask(g); }
--     setTimeout(f, 0);
abbrev nesting_level_passes_through_a_microtask_script : Program
nesting_level_passes_through_a_microtask_script =
    record {
      items =
          (FnItem (named "g") ([]) (with_stmt (ExprStmt (Call (named "log") (with_expr (Call (named "now") no_exprs) no_exprs))) (with_stmt (ExprStmt (Call (named "setTimeout") (with_expr (Name (named "f")) (with_expr (Number (pos 0)) no_exprs)))) no_stmts))) ∷
          (FnItem (named "f") ([]) (with_stmt (ExprStmt (Call (named "queueMicrotask") (with_expr (Name (named "g")) no_exprs))) no_stmts)) ∷
          (StmtItem (ExprStmt (Call (named "setTimeout") (with_expr (Name (named "f")) (with_expr (Number (pos 0)) no_exprs))))) ∷
          [];
      names = codes "g" ∷ codes "f" ∷ [];
    }

abbrev nesting_level_passes_through_a_microtask_setup : Setup
nesting_level_passes_through_a_microtask_setup =
    record { form = 2; trace = 1; policy = (Rank default_list); fuel = 1000000; until = 10000; refresh = 60; late = []; latencies = []; arrivals = [] }

nesting_level_passes_through_a_microtask : logs_of (page_trace nesting_level_passes_through_a_microtask_script nesting_level_passes_through_a_microtask_setup four_hosts ([])) ≡ rows (
    codes "0 0" ∷
    codes "0 0" ∷
    codes "0 0" ∷
    codes "0 0" ∷
    codes "0 0" ∷
    codes "0 0" ∷
    codes "4000 4000" ∷
    codes "8000 8000" ∷
    [])
unfolding page_trace run run_by
nesting_level_passes_through_a_microtask = refl

--     fn g() { log(now()); setTimeout(f, 0); }
--     fn f() { queueMicrotask(g); }
--     setTimeout(f, 0);
abbrev nesting_level_is_lost_in_a_microtask_in_the_first_form_script : Program
nesting_level_is_lost_in_a_microtask_in_the_first_form_script =
    record {
      items =
          (FnItem (named "g") ([]) (with_stmt (ExprStmt (Call (named "log") (with_expr (Call (named "now") no_exprs) no_exprs))) (with_stmt (ExprStmt (Call (named "setTimeout") (with_expr (Name (named "f")) (with_expr (Number (pos 0)) no_exprs)))) no_stmts))) ∷
          (FnItem (named "f") ([]) (with_stmt (ExprStmt (Call (named "queueMicrotask") (with_expr (Name (named "g")) no_exprs))) no_stmts)) ∷
          (StmtItem (ExprStmt (Call (named "setTimeout") (with_expr (Name (named "f")) (with_expr (Number (pos 0)) no_exprs))))) ∷
          [];
      names = codes "g" ∷ codes "f" ∷ [];
    }

abbrev nesting_level_is_lost_in_a_microtask_in_the_first_form_setup : Setup
nesting_level_is_lost_in_a_microtask_in_the_first_form_setup =
    record { form = 1; trace = 1; policy = (Rank default_list); fuel = 30; until = 10000000; refresh = 60; late = []; latencies = []; arrivals = [] }

nesting_level_is_lost_in_a_microtask_in_the_first_form : logs_of (page_trace nesting_level_is_lost_in_a_microtask_in_the_first_form_script nesting_level_is_lost_in_a_microtask_in_the_first_form_setup four_hosts ([])) ≡ rows (
    codes "0 0" ∷
    codes "0 0" ∷
    codes "0 0" ∷
    codes "0 0" ∷
    codes "0 0" ∷
    codes "0 0" ∷
    codes "0 0" ∷
    [])
unfolding page_trace run run_by
nesting_level_is_lost_in_a_microtask_in_the_first_form = refl

--     fn y(v) { log("y"); }
--     fn m() { then(yieldTask(), y, unit); }
--     fn b() { log("b"); }
--     fn a() { queueMicrotask(m); postTask(b, "user-visible", unit, 0); }
--     postTask(a, "background", unit, 0);
abbrev microtask_yields_with_its_priority_script : Program
microtask_yields_with_its_priority_script =
    record {
      items =
          (FnItem (named "y") ((named "v") ∷ []) (with_stmt (ExprStmt (Call (named "log") (with_expr (TextLiteral (codes "y")) no_exprs))) no_stmts)) ∷
          (FnItem (named "m") ([]) (with_stmt (ExprStmt (Call (named "then") (with_expr (Call (named "yieldTask") no_exprs) (with_expr (Name (named "y")) (with_expr UnitLiteral no_exprs))))) no_stmts)) ∷
          (FnItem (named "b") ([]) (with_stmt (ExprStmt (Call (named "log") (with_expr (TextLiteral (codes "b")) no_exprs))) no_stmts)) ∷
          (FnItem (named "a") ([]) (with_stmt (ExprStmt (Call (named "queueMicrotask") (with_expr (Name (named "m")) no_exprs))) (with_stmt (ExprStmt (Call (named "postTask") (with_expr (Name (named "b")) (with_expr (TextLiteral (codes "user-visible")) (with_expr UnitLiteral (with_expr (Number (pos 0)) no_exprs)))))) no_stmts))) ∷
          (StmtItem (ExprStmt (Call (named "postTask") (with_expr (Name (named "a")) (with_expr (TextLiteral (codes "background")) (with_expr UnitLiteral (with_expr (Number (pos 0)) no_exprs))))))) ∷
          [];
      names = codes "y" ∷ codes "m" ∷ codes "b" ∷ codes "a" ∷ [];
    }

abbrev microtask_yields_with_its_priority_setup : Setup
microtask_yields_with_its_priority_setup =
    record { form = 2; trace = 1; policy = (Rank default_list); fuel = 1000000; until = 10000000; refresh = 60; late = []; latencies = []; arrivals = [] }

microtask_yields_with_its_priority : logs_of (page_trace microtask_yields_with_its_priority_script microtask_yields_with_its_priority_setup four_hosts ([])) ≡ rows (
    codes "0 \"b\"" ∷
    codes "0 \"y\"" ∷
    [])
unfolding page_trace run run_by
microtask_yields_with_its_priority = refl

--     fn y(v) { log("y"); }
--     fn m() { then(yieldTask(), y, unit); }
--     fn b() { log("b"); }
--     fn a() { queueMicrotask(m); postTask(b, "user-visible", unit, 0); }
--     postTask(a, "background", unit, 0);
abbrev microtask_yields_without_a_priority_in_the_first_form_script : Program
microtask_yields_without_a_priority_in_the_first_form_script =
    record {
      items =
          (FnItem (named "y") ((named "v") ∷ []) (with_stmt (ExprStmt (Call (named "log") (with_expr (TextLiteral (codes "y")) no_exprs))) no_stmts)) ∷
          (FnItem (named "m") ([]) (with_stmt (ExprStmt (Call (named "then") (with_expr (Call (named "yieldTask") no_exprs) (with_expr (Name (named "y")) (with_expr UnitLiteral no_exprs))))) no_stmts)) ∷
          (FnItem (named "b") ([]) (with_stmt (ExprStmt (Call (named "log") (with_expr (TextLiteral (codes "b")) no_exprs))) no_stmts)) ∷
          (FnItem (named "a") ([]) (with_stmt (ExprStmt (Call (named "queueMicrotask") (with_expr (Name (named "m")) no_exprs))) (with_stmt (ExprStmt (Call (named "postTask") (with_expr (Name (named "b")) (with_expr (TextLiteral (codes "user-visible")) (with_expr UnitLiteral (with_expr (Number (pos 0)) no_exprs)))))) no_stmts))) ∷
          (StmtItem (ExprStmt (Call (named "postTask") (with_expr (Name (named "a")) (with_expr (TextLiteral (codes "background")) (with_expr UnitLiteral (with_expr (Number (pos 0)) no_exprs))))))) ∷
          [];
      names = codes "y" ∷ codes "m" ∷ codes "b" ∷ codes "a" ∷ [];
    }

abbrev microtask_yields_without_a_priority_in_the_first_form_setup : Setup
microtask_yields_without_a_priority_in_the_first_form_setup =
    record { form = 1; trace = 1; policy = (Rank default_list); fuel = 1000000; until = 10000000; refresh = 60; late = []; latencies = []; arrivals = [] }

microtask_yields_without_a_priority_in_the_first_form : logs_of (page_trace microtask_yields_without_a_priority_in_the_first_form_script microtask_yields_without_a_priority_in_the_first_form_setup four_hosts ([])) ≡ rows (
    codes "0 \"y\"" ∷
    codes "0 \"b\"" ∷
    [])
unfolding page_trace run run_by
microtask_yields_without_a_priority_in_the_first_form = refl

--     fn r(v) { log(now()); setTimeout(q, 0); }
--     fn q() { var p = promise(); then(p, r, unit); resolve(p, 1); }
--     setTimeout(q, 0);
abbrev reaction_has_the_level_at_which_its_job_was_queued_script : Program
reaction_has_the_level_at_which_its_job_was_queued_script =
    record {
      items =
          (FnItem (named "r") ((named "v") ∷ []) (with_stmt (ExprStmt (Call (named "log") (with_expr (Call (named "now") no_exprs) no_exprs))) (with_stmt (ExprStmt (Call (named "setTimeout") (with_expr (Name (named "q")) (with_expr (Number (pos 0)) no_exprs)))) no_stmts))) ∷
          (FnItem (named "q") ([]) (with_stmt (VarStmt (named "p") (Call (named "promise") no_exprs)) (with_stmt (ExprStmt (Call (named "then") (with_expr (Name (named "p")) (with_expr (Name (named "r")) (with_expr UnitLiteral no_exprs))))) (with_stmt (ExprStmt (Call (named "resolve") (with_expr (Name (named "p")) (with_expr (Number (pos 1)) no_exprs)))) no_stmts)))) ∷
          (StmtItem (ExprStmt (Call (named "setTimeout") (with_expr (Name (named "q")) (with_expr (Number (pos 0)) no_exprs))))) ∷
          [];
      names = codes "r" ∷ codes "q" ∷ [];
    }

abbrev reaction_has_the_level_at_which_its_job_was_queued_setup : Setup
reaction_has_the_level_at_which_its_job_was_queued_setup =
    record { form = 2; trace = 1; policy = (Rank default_list); fuel = 1000000; until = 10000; refresh = 60; late = []; latencies = []; arrivals = [] }

reaction_has_the_level_at_which_its_job_was_queued : logs_of (page_trace reaction_has_the_level_at_which_its_job_was_queued_script reaction_has_the_level_at_which_its_job_was_queued_setup four_hosts ([])) ≡ rows (
    codes "0 0" ∷
    codes "0 0" ∷
    codes "0 0" ∷
    codes "0 0" ∷
    codes "0 0" ∷
    codes "0 0" ∷
    codes "4000 4000" ∷
    codes "8000 8000" ∷
    [])
unfolding page_trace run run_by
reaction_has_the_level_at_which_its_job_was_queued = refl
