-- Worked examples, computed: the first runs.
use Rattle.std.specs.Prelude.{◌≡◌, [], ◌∷◌, pos, codes, refl}
use Rattle.page_types.specs.declared.CompareSign.TheVariants.{Equals}
use Rattle.page_types.specs.Tree.{Compare, Sum, Number, TextLiteral, Name, Call, no_exprs, with_expr, no_terms, with_term, ExprStmt, WhileStmt, no_stmts, with_stmt, FnItem, StmtItem, Program}
use Rattle.page_types.specs.declared.SumSign.TheVariants.{Plus}
use Rattle.page_parts.specs.Setup.{Setup, Rank}
use Rattle.page_parts.specs.Sources.{default_list}
use Rattle.page_model.specs.Turns.{run, run_by}
use Rattle.page_model.specs.PageTrace.{page_trace}
use Rattle.page_model.proofs.Examples.Sample.{named, four_hosts, rows}

--     log(1 + 2);
abbrev sum_of_two_numbers_script : Program
sum_of_two_numbers_script =
    record {
      items =
          (StmtItem (ExprStmt (Call (named "log") (with_expr (Sum (Number (pos 1)) (with_term Plus (Number (pos 2)) no_terms)) no_exprs)))) ∷
          [];
      names = [];
    }

abbrev sum_of_two_numbers_setup : Setup
sum_of_two_numbers_setup =
    record { form = 1; trace = 1; policy = (Rank default_list); fuel = 1000000; until = 10000000; refresh = 60; late = []; latencies = []; arrivals = [] }

sum_of_two_numbers : page_trace sum_of_two_numbers_script sum_of_two_numbers_setup four_hosts ([]) ≡ rows (
    codes "trace 1" ∷
    codes "0 turn 1 dom" ∷
    codes "0 call 1" ∷
    codes "0 log 3" ∷
    codes "0 ret" ∷
    codes "0 end done" ∷
    [])
unfolding page_trace run run_by
sum_of_two_numbers = refl

--     (an empty script)
abbrev empty_script_script : Program
empty_script_script =
    record {
      items =
          [];
      names = [];
    }

abbrev empty_script_setup : Setup
empty_script_setup =
    record { form = 1; trace = 1; policy = (Rank default_list); fuel = 1000000; until = 10000000; refresh = 60; late = []; latencies = []; arrivals = [] }

empty_script : page_trace empty_script_script empty_script_setup four_hosts ([]) ≡ rows (
    codes "trace 1" ∷
    codes "0 turn 1 dom" ∷
    codes "0 call 1" ∷
    codes "0 ret" ∷
    codes "0 end done" ∷
    [])
unfolding page_trace run run_by
empty_script = refl

--     fn a() { log("a"); }
--     fn b() { log("b"); }
--     setTimeout(a, 10);
--     busy(5000);
--     setTimeout(b, 5);
abbrev timers_due_together_in_order_of_start_script : Program
timers_due_together_in_order_of_start_script =
    record {
      items =
          (FnItem (named "a") ([]) (with_stmt (ExprStmt (Call (named "log") (with_expr (TextLiteral (codes "a")) no_exprs))) no_stmts)) ∷
          (FnItem (named "b") ([]) (with_stmt (ExprStmt (Call (named "log") (with_expr (TextLiteral (codes "b")) no_exprs))) no_stmts)) ∷
          (StmtItem (ExprStmt (Call (named "setTimeout") (with_expr (Name (named "a")) (with_expr (Number (pos 10)) no_exprs))))) ∷
          (StmtItem (ExprStmt (Call (named "busy") (with_expr (Number (pos 5000)) no_exprs)))) ∷
          (StmtItem (ExprStmt (Call (named "setTimeout") (with_expr (Name (named "b")) (with_expr (Number (pos 5)) no_exprs))))) ∷
          [];
      names = codes "a" ∷ codes "b" ∷ [];
    }

abbrev timers_due_together_in_order_of_start_setup : Setup
timers_due_together_in_order_of_start_setup =
    record { form = 1; trace = 1; policy = (Rank default_list); fuel = 1000000; until = 10000000; refresh = 60; late = []; latencies = []; arrivals = [] }

timers_due_together_in_order_of_start : page_trace timers_due_together_in_order_of_start_script timers_due_together_in_order_of_start_setup four_hosts ([]) ≡ rows (
    codes "trace 1" ∷
    codes "0 turn 1 dom" ∷
    codes "0 call 1" ∷
    codes "0 reg 2 timeout" ∷
    codes "0 arm 2 10000 1" ∷
    codes "5000 reg 3 timeout" ∷
    codes "5000 arm 3 10000 1" ∷
    codes "5000 ret" ∷
    codes "10000 wait 10000" ∷
    codes "10000 due 2" ∷
    codes "10000 due 3" ∷
    codes "10000 turn 2 timer" ∷
    codes "10000 call 2" ∷
    codes "10000 log \"a\"" ∷
    codes "10000 ret" ∷
    codes "10000 turn 3 timer" ∷
    codes "10000 call 3" ∷
    codes "10000 log \"b\"" ∷
    codes "10000 ret" ∷
    codes "10000 end done" ∷
    [])
unfolding page_trace run run_by
timers_due_together_in_order_of_start = refl

--     while (1 == 1) {}
abbrev loop_ends_with_its_fuel_script : Program
loop_ends_with_its_fuel_script =
    record {
      items =
          (StmtItem (WhileStmt (Compare (Number (pos 1)) Equals (Number (pos 1))) no_stmts)) ∷
          [];
      names = [];
    }

abbrev loop_ends_with_its_fuel_setup : Setup
loop_ends_with_its_fuel_setup =
    record { form = 1; trace = 1; policy = (Rank default_list); fuel = 5; until = 10000000; refresh = 60; late = []; latencies = []; arrivals = [] }

loop_ends_with_its_fuel : page_trace loop_ends_with_its_fuel_script loop_ends_with_its_fuel_setup four_hosts ([]) ≡ rows (
    codes "trace 1" ∷
    codes "0 turn 1 dom" ∷
    codes "0 call 1" ∷
    codes "0 end fuel" ∷
    [])
unfolding page_trace run run_by
loop_ends_with_its_fuel = refl

--     (an empty script)
abbrev one_unit_does_not_start_the_script_script : Program
one_unit_does_not_start_the_script_script =
    record {
      items =
          [];
      names = [];
    }

abbrev one_unit_does_not_start_the_script_setup : Setup
one_unit_does_not_start_the_script_setup =
    record { form = 1; trace = 1; policy = (Rank default_list); fuel = 1; until = 10000000; refresh = 60; late = []; latencies = []; arrivals = [] }

one_unit_does_not_start_the_script : page_trace one_unit_does_not_start_the_script_script one_unit_does_not_start_the_script_setup four_hosts ([]) ≡ rows (
    codes "trace 1" ∷
    codes "0 turn 1 dom" ∷
    codes "0 call 1" ∷
    codes "0 end fuel" ∷
    [])
unfolding page_trace run run_by
one_unit_does_not_start_the_script = refl
