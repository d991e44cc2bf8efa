-- Worked examples, computed: all, race, any, allSettled and finally.
use Rattle.std.specs.Prelude.{◌≡◌, [], ◌∷◌, Some, pos, codes, refl}
use Rattle.page_types.specs.declared.CompareSign.TheVariants.{Less}
use Rattle.page_types.specs.declared.SumSign.TheVariants.{Plus}
use Rattle.page_types.specs.Tree.{Compare, Sum, Number, TextLiteral, UnitLiteral, Name, Call, ListLiteral, no_exprs, with_expr, no_terms, with_term, VarStmt, AssignStmt, ExprStmt, WhileStmt, ReturnStmt, ThrowStmt, no_stmts, with_stmt, FnItem, StmtItem, Program}
use Rattle.page_parts.specs.Setup.{Setup, Rank}
use Rattle.page_parts.specs.Sources.{default_list}
use Rattle.page_model.specs.Turns.{run, run_by}
use Rattle.page_model.specs.PageTrace.{page_trace}
use Rattle.page_model.proofs.Examples.Sample.{named, four_hosts, logs_of, rows}

--     fn f(v) { log(v); }
--     then(all([resolved(1), 2]), f, unit);
abbrev all_of_a_promise_and_a_value_script : Program
all_of_a_promise_and_a_value_script =
    record {
      items =
          (FnItem (named "f") ((named "v") ∷ []) (with_stmt (ExprStmt (Call (named "log") (with_expr (Name (named "v")) no_exprs))) no_stmts)) ∷
          (StmtItem (ExprStmt (Call (named "then") (with_expr (Call (named "all") (with_expr (ListLiteral (with_expr (Call (named "resolved") (with_expr (Number (pos 1)) no_exprs)) (with_expr (Number (pos 2)) no_exprs))) no_exprs)) (with_expr (Name (named "f")) (with_expr UnitLiteral no_exprs)))))) ∷
          [];
      names = codes "f" ∷ [];
    }

abbrev all_of_a_promise_and_a_value_setup : Setup
all_of_a_promise_and_a_value_setup =
    record { form = 1; trace = 1; policy = (Rank default_list); fuel = 1000000; until = 10000000; refresh = 60; late = []; latencies = []; arrivals = [] }

all_of_a_promise_and_a_value : page_trace all_of_a_promise_and_a_value_script all_of_a_promise_and_a_value_setup four_hosts ([]) ≡ rows (
    codes "trace 1" ∷
    codes "0 turn 1 dom" ∷
    codes "0 call 1" ∷
    codes "0 settle 1 ok 1" ∷
    codes "0 job 1 react 1" ∷
    codes "0 settle 4 ok 2" ∷
    codes "0 job 2 react 4" ∷
    codes "0 reg 2 then" ∷
    codes "0 ret" ∷
    codes "0 run 1" ∷
    codes "0 run 2" ∷
    codes "0 settle 2 ok [1,2]" ∷
    codes "0 job 3 react 2" ∷
    codes "0 run 3" ∷
    codes "0 call 2" ∷
    codes "0 log [1,2]" ∷
    codes "0 ret" ∷
    codes "0 settle 6 ok unit" ∷
    codes "0 end done" ∷
    [])
unfolding page_trace run run_by
all_of_a_promise_and_a_value = refl

--     fn f(v) { log(v); }
--     fn g(v) { log(["g", v]); }
--     var p = promise();
--     then(all([p, rejected(1), rejected(2)]), f, g);
--     resolve(p, 0);
abbrev all_rejects_with_the_first_rejection_script : Program
all_rejects_with_the_first_rejection_script =
    record {
      items =
          (FnItem (named "f") ((named "v") ∷ []) (with_stmt (ExprStmt (Call (named "log") (with_expr (Name (named "v")) no_exprs))) no_stmts)) ∷
          (FnItem (named "g") ((named "v") ∷ []) (with_stmt (ExprStmt (Call (named "log") (with_expr (ListLiteral (with_expr (TextLiteral (codes "g")) (with_expr (Name (named "v")) no_exprs))) no_exprs))) no_stmts)) ∷
          (StmtItem (VarStmt (named "p") (Call (named "promise") no_exprs))) ∷
          (StmtItem (ExprStmt (Call (named "then") (with_expr (Call (named "all") (with_expr (ListLiteral (with_expr (Name (named "p")) (with_expr (Call (named "rejected") (with_expr (Number (pos 1)) no_exprs)) (with_expr (Call (named "rejected") (with_expr (Number (pos 2)) no_exprs)) no_exprs)))) no_exprs)) (with_expr (Name (named "f")) (with_expr (Name (named "g")) no_exprs)))))) ∷
          (StmtItem (ExprStmt (Call (named "resolve") (with_expr (Name (named "p")) (with_expr (Number (pos 0)) no_exprs))))) ∷
          [];
      names = codes "f" ∷ codes "g" ∷ [];
    }

abbrev all_rejects_with_the_first_rejection_setup : Setup
all_rejects_with_the_first_rejection_setup =
    record { form = 1; trace = 1; policy = (Rank default_list); fuel = 1000000; until = 10000000; refresh = 60; late = []; latencies = []; arrivals = [] }

all_rejects_with_the_first_rejection : page_trace all_rejects_with_the_first_rejection_script all_rejects_with_the_first_rejection_setup four_hosts ([]) ≡ rows (
    codes "trace 1" ∷
    codes "0 turn 1 dom" ∷
    codes "0 call 1" ∷
    codes "0 settle 2 err 1" ∷
    codes "0 settle 3 err 2" ∷
    codes "0 job 1 react 2" ∷
    codes "0 job 2 react 3" ∷
    codes "0 reg 2 then" ∷
    codes "0 settle 1 ok 0" ∷
    codes "0 job 3 react 1" ∷
    codes "0 ret" ∷
    codes "0 run 1" ∷
    codes "0 settle 4 err 1" ∷
    codes "0 job 4 react 4" ∷
    codes "0 run 2" ∷
    codes "0 run 3" ∷
    codes "0 run 4" ∷
    codes "0 call 2" ∷
    codes "0 log [\"g\",1]" ∷
    codes "0 ret" ∷
    codes "0 settle 8 ok unit" ∷
    codes "0 end done" ∷
    [])
unfolding page_trace run run_by
all_rejects_with_the_first_rejection = refl

--     fn f(v) { log(v); }
--     fn g(v) { log(["g", v]); }
--     then(any([rejected(1), 2, 3]), f, g);
--     then(any([rejected(1), rejected(2)]), f, g);
--     then(any([]), f, g);
abbrev any_fulfils_with_the_first_value_and_rejects_with_all_reasons_script : Program
any_fulfils_with_the_first_value_and_rejects_with_all_reasons_script =
    record {
      items =
          (FnItem (named "f") ((named "v") ∷ []) (with_stmt (ExprStmt (Call (named "log") (with_expr (Name (named "v")) no_exprs))) no_stmts)) ∷
          (FnItem (named "g") ((named "v") ∷ []) (with_stmt (ExprStmt (Call (named "log") (with_expr (ListLiteral (with_expr (TextLiteral (codes "g")) (with_expr (Name (named "v")) no_exprs))) no_exprs))) no_stmts)) ∷
          (StmtItem (ExprStmt (Call (named "then") (with_expr (Call (named "any") (with_expr (ListLiteral (with_expr (Call (named "rejected") (with_expr (Number (pos 1)) no_exprs)) (with_expr (Number (pos 2)) (with_expr (Number (pos 3)) no_exprs)))) no_exprs)) (with_expr (Name (named "f")) (with_expr (Name (named "g")) no_exprs)))))) ∷
          (StmtItem (ExprStmt (Call (named "then") (with_expr (Call (named "any") (with_expr (ListLiteral (with_expr (Call (named "rejected") (with_expr (Number (pos 1)) no_exprs)) (with_expr (Call (named "rejected") (with_expr (Number (pos 2)) no_exprs)) no_exprs))) no_exprs)) (with_expr (Name (named "f")) (with_expr (Name (named "g")) no_exprs)))))) ∷
          (StmtItem (ExprStmt (Call (named "then") (with_expr (Call (named "any") (with_expr (ListLiteral no_exprs) no_exprs)) (with_expr (Name (named "f")) (with_expr (Name (named "g")) no_exprs)))))) ∷
          [];
      names = codes "f" ∷ codes "g" ∷ [];
    }

abbrev any_fulfils_with_the_first_value_and_rejects_with_all_reasons_setup : Setup
any_fulfils_with_the_first_value_and_rejects_with_all_reasons_setup =
    record { form = 1; trace = 1; policy = (Rank default_list); fuel = 1000000; until = 10000000; refresh = 60; late = []; latencies = []; arrivals = [] }

any_fulfils_with_the_first_value_and_rejects_with_all_reasons : page_trace any_fulfils_with_the_first_value_and_rejects_with_all_reasons_script any_fulfils_with_the_first_value_and_rejects_with_all_reasons_setup four_hosts ([]) ≡ rows (
    codes "trace 1" ∷
    codes "0 turn 1 dom" ∷
    codes "0 call 1" ∷
    codes "0 settle 1 err 1" ∷
    codes "0 job 1 react 1" ∷
    codes "0 settle 4 ok 2" ∷
    codes "0 job 2 react 4" ∷
    codes "0 settle 6 ok 3" ∷
    codes "0 job 3 react 6" ∷
    codes "0 reg 2 then" ∷
    codes "0 settle 9 err 1" ∷
    codes "0 settle 10 err 2" ∷
    codes "0 job 4 react 9" ∷
    codes "0 job 5 react 10" ∷
    codes "0 reg 3 then" ∷
    codes "0 settle 15 err []" ∷
    codes "0 reg 4 then" ∷
    codes "0 job 6 react 15" ∷
    codes "0 ret" ∷
    codes "0 run 1" ∷
    codes "0 run 2" ∷
    codes "0 settle 2 ok 2" ∷
    codes "0 job 7 react 2" ∷
    codes "0 run 3" ∷
    codes "0 run 4" ∷
    codes "0 run 5" ∷
    codes "0 settle 11 err [1,2]" ∷
    codes "0 job 8 react 11" ∷
    codes "0 run 6" ∷
    codes "0 call 4" ∷
    codes "0 log [\"g\",[]]" ∷
    codes "0 ret" ∷
    codes "0 settle 16 ok unit" ∷
    codes "0 run 7" ∷
    codes "0 call 2" ∷
    codes "0 log 2" ∷
    codes "0 ret" ∷
    codes "0 settle 8 ok unit" ∷
    codes "0 run 8" ∷
    codes "0 call 3" ∷
    codes "0 log [\"g\",[1,2]]" ∷
    codes "0 ret" ∷
    codes "0 settle 14 ok unit" ∷
    codes "0 end done" ∷
    [])
unfolding page_trace run run_by
any_fulfils_with_the_first_value_and_rejects_with_all_reasons = refl

--     fn f(v) { log(v); }
--     fn g(v) { log(["g", v]); }
--     var p = promise();
--     then(race([p, resolved(1), rejected(2)]), f, g);
--     then(race([]), f, g);
--     reject(p, 3);
abbrev race_follows_the_first_that_is_settled_script : Program
race_follows_the_first_that_is_settled_script =
    record {
      items =
          (FnItem (named "f") ((named "v") ∷ []) (with_stmt (ExprStmt (Call (named "log") (with_expr (Name (named "v")) no_exprs))) no_stmts)) ∷
          (FnItem (named "g") ((named "v") ∷ []) (with_stmt (ExprStmt (Call (named "log") (with_expr (ListLiteral (with_expr (TextLiteral (codes "g")) (with_expr (Name (named "v")) no_exprs))) no_exprs))) no_stmts)) ∷
          (StmtItem (VarStmt (named "p") (Call (named "promise") no_exprs))) ∷
          (StmtItem (ExprStmt (Call (named "then") (with_expr (Call (named "race") (with_expr (ListLiteral (with_expr (Name (named "p")) (with_expr (Call (named "resolved") (with_expr (Number (pos 1)) no_exprs)) (with_expr (Call (named "rejected") (with_expr (Number (pos 2)) no_exprs)) no_exprs)))) no_exprs)) (with_expr (Name (named "f")) (with_expr (Name (named "g")) no_exprs)))))) ∷
          (StmtItem (ExprStmt (Call (named "then") (with_expr (Call (named "race") (with_expr (ListLiteral no_exprs) no_exprs)) (with_expr (Name (named "f")) (with_expr (Name (named "g")) no_exprs)))))) ∷
          (StmtItem (ExprStmt (Call (named "reject") (with_expr (Name (named "p")) (with_expr (Number (pos 3)) no_exprs))))) ∷
          [];
      names = codes "f" ∷ codes "g" ∷ [];
    }

abbrev race_follows_the_first_that_is_settled_setup : Setup
race_follows_the_first_that_is_settled_setup =
    record { form = 1; trace = 1; policy = (Rank default_list); fuel = 1000000; until = 10000000; refresh = 60; late = []; latencies = []; arrivals = [] }

race_follows_the_first_that_is_settled : page_trace race_follows_the_first_that_is_settled_script race_follows_the_first_that_is_settled_setup four_hosts ([]) ≡ rows (
    codes "trace 1" ∷
    codes "0 turn 1 dom" ∷
    codes "0 call 1" ∷
    codes "0 settle 2 ok 1" ∷
    codes "0 settle 3 err 2" ∷
    codes "0 job 1 react 2" ∷
    codes "0 job 2 react 3" ∷
    codes "0 reg 2 then" ∷
    codes "0 reg 3 then" ∷
    codes "0 settle 1 err 3" ∷
    codes "0 job 3 react 1" ∷
    codes "0 ret" ∷
    codes "0 run 1" ∷
    codes "0 settle 4 ok 1" ∷
    codes "0 job 4 react 4" ∷
    codes "0 run 2" ∷
    codes "0 run 3" ∷
    codes "0 run 4" ∷
    codes "0 call 2" ∷
    codes "0 log 1" ∷
    codes "0 ret" ∷
    codes "0 settle 5 ok unit" ∷
    codes "0 end done" ∷
    [])
unfolding page_trace run run_by
race_follows_the_first_that_is_settled = refl

--     fn f(v) { log(v); }
--     var p = promise();
--     then(allSettled([p, rejected(1), "a"]), f, f);
--     then(allSettled([]), f, f);
--     resolve(p, rejected(7));
abbrev all_settled_tells_each_outcome_script : Program
all_settled_tells_each_outcome_script =
    record {
      items =
          (FnItem (named "f") ((named "v") ∷ []) (with_stmt (ExprStmt (Call (named "log") (with_expr (Name (named "v")) no_exprs))) no_stmts)) ∷
          (StmtItem (VarStmt (named "p") (Call (named "promise") no_exprs))) ∷
          (StmtItem (ExprStmt (Call (named "then") (with_expr (Call (named "allSettled") (with_expr (ListLiteral (with_expr (Name (named "p")) (with_expr (Call (named "rejected") (with_expr (Number (pos 1)) no_exprs)) (with_expr (TextLiteral (codes "a")) no_exprs)))) no_exprs)) (with_expr (Name (named "f")) (with_expr (Name (named "f")) no_exprs)))))) ∷
          (StmtItem (ExprStmt (Call (named "then") (with_expr (Call (named "allSettled") (with_expr (ListLiteral no_exprs) no_exprs)) (with_expr (Name (named "f")) (with_expr (Name (named "f")) no_exprs)))))) ∷
          (StmtItem (ExprStmt (Call (named "resolve") (with_expr (Name (named "p")) (with_expr (Call (named "rejected") (with_expr (Number (pos 7)) no_exprs)) no_exprs))))) ∷
          [];
      names = codes "f" ∷ [];
    }

abbrev all_settled_tells_each_outcome_setup : Setup
all_settled_tells_each_outcome_setup =
    record { form = 1; trace = 1; policy = (Rank default_list); fuel = 1000000; until = 10000000; refresh = 60; late = []; latencies = []; arrivals = [] }

all_settled_tells_each_outcome : page_trace all_settled_tells_each_outcome_script all_settled_tells_each_outcome_setup four_hosts ([]) ≡ rows (
    codes "trace 1" ∷
    codes "0 turn 1 dom" ∷
    codes "0 call 1" ∷
    codes "0 settle 2 err 1" ∷
    codes "0 job 1 react 2" ∷
    codes "0 settle 6 ok \"a\"" ∷
    codes "0 job 2 react 6" ∷
    codes "0 reg 2 then" ∷
    codes "0 settle 9 ok []" ∷
    codes "0 reg 3 then" ∷
    codes "0 job 3 react 9" ∷
    codes "0 settle 11 err 7" ∷
    codes "0 job 4 adopt 1" ∷
    codes "0 ret" ∷
    codes "0 run 1" ∷
    codes "0 run 2" ∷
    codes "0 run 3" ∷
    codes "0 call 3" ∷
    codes "0 log []" ∷
    codes "0 ret" ∷
    codes "0 settle 10 ok unit" ∷
    codes "0 run 4" ∷
    codes "0 job 5 react 11" ∷
    codes "0 run 5" ∷
    codes "0 settle 1 err 7" ∷
    codes "0 job 6 react 1" ∷
    codes "0 run 6" ∷
    codes "0 settle 3 ok [[false,7],[false,1],[true,\"a\"]]" ∷
    codes "0 job 7 react 3" ∷
    codes "0 run 7" ∷
    codes "0 call 2" ∷
    codes "0 log [[false,7],[false,1],[true,\"a\"]]" ∷
    codes "0 ret" ∷
    codes "0 settle 8 ok unit" ∷
    codes "0 end done" ∷
    [])
unfolding page_trace run run_by
all_settled_tells_each_outcome = refl

--     fn f(v) { log(v); }
--     fn g(v) { log(["g", v]); }
--     fn k() { log("k"); return resolved(9); }
--     fn t() { throw 5; }
--     fn r() { return rejected(6); }
--     then(finally(resolved(1), k), f, g);
--     then(finally(rejected(2), k), f, g);
--     then(finally(resolved(3), t), f, g);
--     then(finally(resolved(4), r), f, g);
--     then(finally(rejected(8), unit), f, g);
abbrev finally_passes_the_outcome_on_script : Program
finally_passes_the_outcome_on_script =
    record {
      items =
          (FnItem (named "f") ((named "v") ∷ []) (with_stmt (ExprStmt (Call (named "log") (with_expr (Name (named "v")) no_exprs))) no_stmts)) ∷
          (FnItem (named "g") ((named "v") ∷ []) (with_stmt (ExprStmt (Call (named "log") (with_expr (ListLiteral (with_expr (TextLiteral (codes "g")) (with_expr (Name (named "v")) no_exprs))) no_exprs))) no_stmts)) ∷
          (FnItem (named "k") ([]) (with_stmt (ExprStmt (Call (named "log") (with_expr (TextLiteral (codes "k")) no_exprs))) (with_stmt (ReturnStmt (Some (Call (named "resolved") (with_expr (Number (pos 9)) no_exprs)))) no_stmts))) ∷
          (FnItem (named "t") ([]) (with_stmt (ThrowStmt (Number (pos 5))) no_stmts)) ∷
          (FnItem (named "r") ([]) (with_stmt (ReturnStmt (Some (Call (named "rejected") (with_expr (Number (pos 6)) no_exprs)))) no_stmts)) ∷
          (StmtItem (ExprStmt (Call (named "then") (with_expr (Call (named "finally") (with_expr (Call (named "resolved") (with_expr (Number (pos 1)) no_exprs)) (with_expr (Name (named "k")) no_exprs))) (with_expr (Name (named "f")) (with_expr (Name (named "g")) no_exprs)))))) ∷
          (StmtItem (ExprStmt (Call (named "then") (with_expr (Call (named "finally") (with_expr (Call (named "rejected") (with_expr (Number (pos 2)) no_exprs)) (with_expr (Name (named "k")) no_exprs))) (with_expr (Name (named "f")) (with_expr (Name (named "g")) no_exprs)))))) ∷
          (StmtItem (ExprStmt (Call (named "then") (with_expr (Call (named "finally") (with_expr (Call (named "resolved") (with_expr (Number (pos 3)) no_exprs)) (with_expr (Name (named "t")) no_exprs))) (with_expr (Name (named "f")) (with_expr (Name (named "g")) no_exprs)))))) ∷
          (StmtItem (ExprStmt (Call (named "then") (with_expr (Call (named "finally") (with_expr (Call (named "resolved") (with_expr (Number (pos 4)) no_exprs)) (with_expr (Name (named "r")) no_exprs))) (with_expr (Name (named "f")) (with_expr (Name (named "g")) no_exprs)))))) ∷
          (StmtItem (ExprStmt (Call (named "then") (with_expr (Call (named "finally") (with_expr (Call (named "rejected") (with_expr (Number (pos 8)) no_exprs)) (with_expr UnitLiteral no_exprs))) (with_expr (Name (named "f")) (with_expr (Name (named "g")) no_exprs)))))) ∷
          [];
      names = codes "f" ∷ codes "g" ∷ codes "k" ∷ codes "t" ∷ codes "r" ∷ [];
    }

abbrev finally_passes_the_outcome_on_setup : Setup
finally_passes_the_outcome_on_setup =
    record { form = 1; trace = 1; policy = (Rank default_list); fuel = 1000000; until = 10000000; refresh = 60; late = []; latencies = []; arrivals = [] }

finally_passes_the_outcome_on : logs_of (page_trace finally_passes_the_outcome_on_script finally_passes_the_outcome_on_setup four_hosts ([])) ≡ rows (
    codes "0 \"k\"" ∷
    codes "0 \"k\"" ∷
    codes "0 [\"g\",5]" ∷
    codes "0 [\"g\",8]" ∷
    codes "0 1" ∷
    codes "0 [\"g\",2]" ∷
    codes "0 [\"g\",6]" ∷
    [])
unfolding page_trace run run_by
finally_passes_the_outcome_on = refl

--     fn g(v) { log(v); }
--     then(all(1), unit, g);
--     then(race(unit), unit, g);
--     then(any("a"), unit, g);
--     then(allSettled(unit), unit, g);
--     then(finally(1, g), unit, g);
abbrev arguments_of_a_wrong_kind_reject_script : Program
arguments_of_a_wrong_kind_reject_script =
    record {
      items =
          (FnItem (named "g") ((named "v") ∷ []) (with_stmt (ExprStmt (Call (named "log") (with_expr (Name (named "v")) no_exprs))) no_stmts)) ∷
          (StmtItem (ExprStmt (Call (named "then") (with_expr (Call (named "all") (with_expr (Number (pos 1)) no_exprs)) (with_expr UnitLiteral (with_expr (Name (named "g")) no_exprs)))))) ∷
          (StmtItem (ExprStmt (Call (named "then") (with_expr (Call (named "race") (with_expr UnitLiteral no_exprs)) (with_expr UnitLiteral (with_expr (Name (named "g")) no_exprs)))))) ∷
          (StmtItem (ExprStmt (Call (named "then") (with_expr (Call (named "any") (with_expr (TextLiteral (codes "a")) no_exprs)) (with_expr UnitLiteral (with_expr (Name (named "g")) no_exprs)))))) ∷
          (StmtItem (ExprStmt (Call (named "then") (with_expr (Call (named "allSettled") (with_expr UnitLiteral no_exprs)) (with_expr UnitLiteral (with_expr (Name (named "g")) no_exprs)))))) ∷
          (StmtItem (ExprStmt (Call (named "then") (with_expr (Call (named "finally") (with_expr (Number (pos 1)) (with_expr (Name (named "g")) no_exprs))) (with_expr UnitLiteral (with_expr (Name (named "g")) no_exprs)))))) ∷
          [];
      names = codes "g" ∷ [];
    }

abbrev arguments_of_a_wrong_kind_reject_setup : Setup
arguments_of_a_wrong_kind_reject_setup =
    record { form = 1; trace = 1; policy = (Rank default_list); fuel = 1000000; until = 10000000; refresh = 60; late = []; latencies = []; arrivals = [] }

arguments_of_a_wrong_kind_reject : page_trace arguments_of_a_wrong_kind_reject_script arguments_of_a_wrong_kind_reject_setup four_hosts ([]) ≡ rows (
    codes "trace 1" ∷
    codes "0 turn 1 dom" ∷
    codes "0 call 1" ∷
    codes "0 settle 1 err TypeError(\"\")" ∷
    codes "0 reg 2 then" ∷
    codes "0 job 1 react 1" ∷
    codes "0 settle 3 err TypeError(\"\")" ∷
    codes "0 reg 3 then" ∷
    codes "0 job 2 react 3" ∷
    codes "0 settle 5 err TypeError(\"\")" ∷
    codes "0 reg 4 then" ∷
    codes "0 job 3 react 5" ∷
    codes "0 settle 7 err TypeError(\"\")" ∷
    codes "0 reg 5 then" ∷
    codes "0 job 4 react 7" ∷
    codes "0 settle 9 err TypeError(\"\")" ∷
    codes "0 reg 6 then" ∷
    codes "0 job 5 react 9" ∷
    codes "0 ret" ∷
    codes "0 run 1" ∷
    codes "0 call 2" ∷
    codes "0 log TypeError(\"\")" ∷
    codes "0 ret" ∷
    codes "0 settle 2 ok unit" ∷
    codes "0 run 2" ∷
    codes "0 call 3" ∷
    codes "0 log TypeError(\"\")" ∷
    codes "0 ret" ∷
    codes "0 settle 4 ok unit" ∷
    codes "0 run 3" ∷
    codes "0 call 4" ∷
    codes "0 log TypeError(\"\")" ∷
    codes "0 ret" ∷
    codes "0 settle 6 ok unit" ∷
    codes "0 run 4" ∷
    codes "0 call 5" ∷
    codes "0 log TypeError(\"\")" ∷
    codes "0 ret" ∷
    codes "0 settle 8 ok unit" ∷
    codes "0 run 5" ∷
    codes "0 call 6" ∷
    codes "0 log TypeError(\"\")" ∷
    codes "0 ret" ∷
    codes "0 settle 10 ok unit" ∷
    codes "0 end done" ∷
    [])
unfolding page_trace run run_by
arguments_of_a_wrong_kind_reject = refl

--     fn f(v) { log("ok"); }
--     fn g(v) { log(v); }
--     var l = 1;
--     var i = 0;
--     while (i < 63) { l = [l]; i = i + 1; }
--     then(all([l]), f, g);
--     then(allSettled([l]), f, g);
--     l = [l];
--     then(all([l]), f, g);
abbrev list_that_nests_too_deep_rejects_script : Program
list_that_nests_too_deep_rejects_script =
    record {
      items =
          (FnItem (named "f") ((named "v") ∷ []) (with_stmt (ExprStmt (Call (named "log") (with_expr (TextLiteral (codes "ok")) no_exprs))) no_stmts)) ∷
          (FnItem (named "g") ((named "v") ∷ []) (with_stmt (ExprStmt (Call (named "log") (with_expr (Name (named "v")) no_exprs))) no_stmts)) ∷
          (StmtItem (VarStmt (named "l") (Number (pos 1)))) ∷
          (StmtItem (VarStmt (named "i") (Number (pos 0)))) ∷
          (StmtItem (WhileStmt (Compare (Name (named "i")) Less (Number (pos 63))) (with_stmt (AssignStmt (named "l") (ListLiteral (with_expr (Name (named "l")) no_exprs))) (with_stmt (AssignStmt (named "i") (Sum (Name (named "i")) (with_term Plus (Number (pos 1)) no_terms))) no_stmts)))) ∷
          (StmtItem (ExprStmt (Call (named "then") (with_expr (Call (named "all") (with_expr (ListLiteral (with_expr (Name (named "l")) no_exprs)) no_exprs)) (with_expr (Name (named "f")) (with_expr (Name (named "g")) no_exprs)))))) ∷
          (StmtItem (ExprStmt (Call (named "then") (with_expr (Call (named "allSettled") (with_expr (ListLiteral (with_expr (Name (named "l")) no_exprs)) no_exprs)) (with_expr (Name (named "f")) (with_expr (Name (named "g")) no_exprs)))))) ∷
          (StmtItem (AssignStmt (named "l") (ListLiteral (with_expr (Name (named "l")) no_exprs)))) ∷
          (StmtItem (ExprStmt (Call (named "then") (with_expr (Call (named "all") (with_expr (ListLiteral (with_expr (Name (named "l")) no_exprs)) no_exprs)) (with_expr (Name (named "f")) (with_expr (Name (named "g")) no_exprs)))))) ∷
          [];
      names = codes "f" ∷ codes "g" ∷ [];
    }

abbrev list_that_nests_too_deep_rejects_setup : Setup
list_that_nests_too_deep_rejects_setup =
    record { form = 1; trace = 1; policy = (Rank default_list); fuel = 1000000; until = 10000000; refresh = 60; late = []; latencies = []; arrivals = [] }

list_that_nests_too_deep_rejects : page_trace list_that_nests_too_deep_rejects_script list_that_nests_too_deep_rejects_setup four_hosts ([]) ≡ rows (
    codes "trace 1" ∷
    codes "0 turn 1 dom" ∷
    codes "0 call 1" ∷
    codes "0 settle 2 ok [[[[[[[[[[[[[[[[[[[[[[[[[[[[[[[[[[[[[[[[[[[[[[[[[[[[[[[[[[[[[[[1]]]]]]]]]]]]]]]]]]]]]]]]]]]]]]]]]]]]]]]]]]]]]]]]]]]]]]]]]]]]]]]" ∷
    codes "0 job 1 react 2" ∷
    codes "0 reg 2 then" ∷
    codes "0 settle 6 ok [[[[[[[[[[[[[[[[[[[[[[[[[[[[[[[[[[[[[[[[[[[[[[[[[[[[[[[[[[[[[[[1]]]]]]]]]]]]]]]]]]]]]]]]]]]]]]]]]]]]]]]]]]]]]]]]]]]]]]]]]]]]]]]" ∷
    codes "0 job 2 react 6" ∷
    codes "0 reg 3 then" ∷
    codes "0 throw RangeError(\"\")" ∷
    codes "0 report RangeError(\"\")" ∷
    codes "0 run 1" ∷
    codes "0 settle 1 ok [[[[[[[[[[[[[[[[[[[[[[[[[[[[[[[[[[[[[[[[[[[[[[[[[[[[[[[[[[[[[[[[1]]]]]]]]]]]]]]]]]]]]]]]]]]]]]]]]]]]]]]]]]]]]]]]]]]]]]]]]]]]]]]]]" ∷
    codes "0 job 3 react 1" ∷
    codes "0 run 2" ∷
    codes "0 settle 5 err RangeError(\"\")" ∷
    codes "0 job 4 react 5" ∷
    codes "0 run 3" ∷
    codes "0 call 2" ∷
    codes "0 log \"ok\"" ∷
    codes "0 ret" ∷
    codes "0 settle 4 ok unit" ∷
    codes "0 run 4" ∷
    codes "0 call 3" ∷
    codes "0 log RangeError(\"\")" ∷
    codes "0 ret" ∷
    codes "0 settle 8 ok unit" ∷
    codes "0 end done" ∷
    [])
unfolding page_trace run run_by
list_that_nests_too_deep_rejects = refl
