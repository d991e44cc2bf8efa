-- Worked examples, computed: the language and open calls.
use Rattle.std.specs.Prelude.{◌≡◌, [], ◌∷◌, Some, pos, codes, refl}
use Rattle.page_types.specs.declared.CompareSign.TheVariants.{Equals}
use Rattle.page_types.specs.Tree.{Compare, Sum, Number, TextLiteral, TrueLiteral, Name, Call, Paren, ListLiteral, no_exprs, with_expr, no_terms, with_term, VarStmt, AssignStmt, ExprStmt, IfStmt, WhileStmt, ReturnStmt, TryStmt, no_stmts, with_stmt, no_else_ifs, no_else, FnItem, StmtItem, Program}
use Rattle.page_types.specs.declared.SumSign.TheVariants.{Plus, Minus}
use Rattle.page_parts.specs.Setup.{Setup, Rank}
use Rattle.page_parts.specs.Sources.{default_list}
use Rattle.page_model.specs.Turns.{run, run_by}
use Rattle.page_model.specs.PageTrace.{page_trace}
use Rattle.page_model.proofs.Examples.Sample.{named, four_hosts, logs_of, rows}

-- The script and 255 calls are 256 open calls, which is as many as may be.
--     fn r(n) { if (n == 0) { return 0; } return 1 + r(n - 1); }
--     log(r(254));
abbrev recursion_of_256_calls_script : Program
recursion_of_256_calls_script =
    record {
      items =
          (FnItem (named "r") ((named "n") ∷ []) (with_stmt (IfStmt (Compare (Name (named "n")) Equals (Number (pos 0))) (with_stmt (ReturnStmt (Some (Number (pos 0)))) no_stmts) no_else_ifs no_else) (with_stmt (ReturnStmt (Some (Sum (Number (pos 1)) (with_term Plus (Call (named "r") (with_expr (Sum (Name (named "n")) (with_term Minus (Number (pos 1)) no_terms)) no_exprs)) no_terms)))) no_stmts))) ∷
          (StmtItem (ExprStmt (Call (named "log") (with_expr (Call (named "r") (with_expr (Number (pos 254)) no_exprs)) no_exprs)))) ∷
          [];
      names = codes "r" ∷ [];
    }

abbrev recursion_of_256_calls_setup : Setup
recursion_of_256_calls_setup =
    record { form = 1; trace = 1; policy = (Rank default_list); fuel = 1000000; until = 10000000; refresh = 60; late = []; latencies = []; arrivals = [] }

recursion_of_256_calls : logs_of (page_trace recursion_of_256_calls_script recursion_of_256_calls_setup four_hosts ([])) ≡ codes "0 254\n"
unfolding page_trace run run_by
recursion_of_256_calls = refl

-- One call more throws, through all that are open, and is reported once.
--     fn r(n) { if (n == 0) { return 0; } return 1 + r(n - 1); }
--     log(r(255));
abbrev one_open_call_too_many_script : Program
one_open_call_too_many_script =
    record {
      items =
          (FnItem (named "r") ((named "n") ∷ []) (with_stmt (IfStmt (Compare (Name (named "n")) Equals (Number (pos 0))) (with_stmt (ReturnStmt (Some (Number (pos 0)))) no_stmts) no_else_ifs no_else) (with_stmt (ReturnStmt (Some (Sum (Number (pos 1)) (with_term Plus (Call (named "r") (with_expr (Sum (Name (named "n")) (with_term Minus (Number (pos 1)) no_terms)) no_exprs)) no_terms)))) no_stmts))) ∷
          (StmtItem (ExprStmt (Call (named "log") (with_expr (Call (named "r") (with_expr (Number (pos 255)) no_exprs)) no_exprs)))) ∷
          [];
      names = codes "r" ∷ [];
    }

abbrev one_open_call_too_many_setup : Setup
one_open_call_too_many_setup =
    record { form = 1; trace = 1; policy = (Rank default_list); fuel = 1000000; until = 10000000; refresh = 60; late = []; latencies = []; arrivals = [] }

one_open_call_too_many : page_trace one_open_call_too_many_script one_open_call_too_many_setup four_hosts ([]) ≡ rows (
    codes "trace 1" ∷
    codes "0 turn 1 dom" ∷
    codes "0 call 1" ∷
    codes "0 throw RangeError(\"\")" ∷
    codes "0 report RangeError(\"\")" ∷
    codes "0 end done" ∷
    [])
unfolding page_trace run run_by
one_open_call_too_many = refl

-- A line feed in a text is written as two bytes, also within a list.
--     log(push([1], "a\n"));
abbrev text_is_escaped_in_a_list_script : Program
text_is_escaped_in_a_list_script =
    record {
      items =
          (StmtItem (ExprStmt (Call (named "log") (with_expr (Call (named "push") (with_expr (ListLiteral (with_expr (Number (pos 1)) no_exprs)) (with_expr (TextLiteral (codes "a\n")) no_exprs))) no_exprs)))) ∷
          [];
      names = [];
    }

abbrev text_is_escaped_in_a_list_setup : Setup
text_is_escaped_in_a_list_setup =
    record { form = 1; trace = 1; policy = (Rank default_list); fuel = 1000000; until = 10000000; refresh = 60; late = []; latencies = []; arrivals = [] }

text_is_escaped_in_a_list : page_trace text_is_escaped_in_a_list_script text_is_escaped_in_a_list_setup four_hosts ([]) ≡ rows (
    codes "trace 1" ∷
    codes "0 turn 1 dom" ∷
    codes "0 call 1" ∷
    codes "0 log [1,\"a\\n\"]" ∷
    codes "0 ret" ∷
    codes "0 end done" ∷
    [])
unfolding page_trace run run_by
text_is_escaped_in_a_list = refl

-- Fifty brackets around each of 250 calls take neither calls nor fuel.
--     fn r(n) { if (n == 0) { return 0; } return ((((((((((((((((((((((((((((((((((((((((((((((((((1 + r(n -
--         1))))))))))))))))))))))))))))))))))))))))))))))))))); }
--     log(r(250));
abbrev deep_brackets_in_deep_calls_script : Program
deep_brackets_in_deep_calls_script =
    record {
      items =
          (FnItem (named "r") ((named "n") ∷ []) (with_stmt (IfStmt (Compare (Name (named "n")) Equals (Number (pos 0))) (with_stmt (ReturnStmt (Some (Number (pos 0)))) no_stmts) no_else_ifs no_else) (with_stmt (ReturnStmt (Some (Paren (Paren (Paren (Paren (Paren (Paren (Paren (Paren (Paren (Paren (Paren (Paren (Paren (Paren (Paren (Paren (Paren (Paren (Paren (Paren (Paren (Paren (Paren (Paren (Paren (Paren (Paren (Paren (Paren (Paren (Paren (Paren (Paren (Paren (Paren (Paren (Paren (Paren (Paren (Paren (Paren (Paren (Paren (Paren (Paren (Paren (Paren (Paren (Paren (Paren (Sum (Number (pos 1)) (with_term Plus (Call (named "r") (with_expr (Sum (Name (named "n")) (with_term Minus (Number (pos 1)) no_terms)) no_exprs)) no_terms)))))))))))))))))))))))))))))))))))))))))))))))))))))) no_stmts))) ∷
          (StmtItem (ExprStmt (Call (named "log") (with_expr (Call (named "r") (with_expr (Number (pos 250)) no_exprs)) no_exprs)))) ∷
          [];
      names = codes "r" ∷ [];
    }

abbrev deep_brackets_in_deep_calls_setup : Setup
deep_brackets_in_deep_calls_setup =
    record { form = 1; trace = 1; policy = (Rank default_list); fuel = 1000000; until = 10000000; refresh = 60; late = []; latencies = []; arrivals = [] }

deep_brackets_in_deep_calls : logs_of (page_trace deep_brackets_in_deep_calls_script deep_brackets_in_deep_calls_setup four_hosts ([])) ≡ codes "0 250\n"
unfolding page_trace run run_by
deep_brackets_in_deep_calls = refl

-- A number within 64 brackets is the number.
--     log((((((((((((((((((((((((((((((((((((((((((((((((((((((((((((((((1))))))))))))))))))))))))))))))))))))))))))))))))))))))))))))))));
abbrev sixty_four_open_brackets_script : Program
sixty_four_open_brackets_script =
    record {
      items =
          (StmtItem (ExprStmt (Call (named "log") (with_expr (Paren (Paren (Paren (Paren (Paren (Paren (Paren (Paren (Paren (Paren (Paren (Paren (Paren (Paren (Paren (Paren (Paren (Paren (Paren (Paren (Paren (Paren (Paren (Paren (Paren (Paren (Paren (Paren (Paren (Paren (Paren (Paren (Paren (Paren (Paren (Paren (Paren (Paren (Paren (Paren (Paren (Paren (Paren (Paren (Paren (Paren (Paren (Paren (Paren (Paren (Paren (Paren (Paren (Paren (Paren (Paren (Paren (Paren (Paren (Paren (Paren (Paren (Paren (Number (pos 1))))))))))))))))))))))))))))))))))))))))))))))))))))))))))))))))) no_exprs)))) ∷
          [];
      names = [];
    }

abbrev sixty_four_open_brackets_setup : Setup
sixty_four_open_brackets_setup =
    record { form = 1; trace = 1; policy = (Rank default_list); fuel = 1000000; until = 10000000; refresh = 60; late = []; latencies = []; arrivals = [] }

sixty_four_open_brackets : logs_of (page_trace sixty_four_open_brackets_script sixty_four_open_brackets_setup four_hosts ([])) ≡ codes "0 1\n"
unfolding page_trace run run_by
sixty_four_open_brackets = refl

-- A variable that is called is read before the arguments, of which one assigns another function to it.
--     fn a(x) { log("a"); }
--     fn b(x) { log("b"); }
--     fn s() { g = b; return 1; }
--     var g = a;
--     g(s());
--     g(1);
abbrev callee_is_read_before_its_arguments_script : Program
callee_is_read_before_its_arguments_script =
    record {
      items =
          (FnItem (named "a") ((named "x") ∷ []) (with_stmt (ExprStmt (Call (named "log") (with_expr (TextLiteral (codes "a")) no_exprs))) no_stmts)) ∷
          (FnItem (named "b") ((named "x") ∷ []) (with_stmt (ExprStmt (Call (named "log") (with_expr (TextLiteral (codes "b")) no_exprs))) no_stmts)) ∷
          (FnItem (named "s") ([]) (with_stmt (AssignStmt (named "g") (Name (named "b"))) (with_stmt (ReturnStmt (Some (Number (pos 1)))) no_stmts))) ∷
          (StmtItem (VarStmt (named "g") (Name (named "a")))) ∷
          (StmtItem (ExprStmt (Call (named "g") (with_expr (Call (named "s") no_exprs) no_exprs)))) ∷
          (StmtItem (ExprStmt (Call (named "g") (with_expr (Number (pos 1)) no_exprs)))) ∷
          [];
      names = codes "a" ∷ codes "b" ∷ codes "s" ∷ [];
    }

abbrev callee_is_read_before_its_arguments_setup : Setup
callee_is_read_before_its_arguments_setup =
    record { form = 1; trace = 1; policy = (Rank default_list); fuel = 1000000; until = 10000000; refresh = 60; late = []; latencies = []; arrivals = [] }

callee_is_read_before_its_arguments : page_trace callee_is_read_before_its_arguments_script callee_is_read_before_its_arguments_setup four_hosts ([]) ≡ rows (
    codes "trace 1" ∷
    codes "0 turn 1 dom" ∷
    codes "0 call 1" ∷
    codes "0 log \"a\"" ∷
    codes "0 log \"b\"" ∷
    codes "0 ret" ∷
    codes "0 end done" ∷
    [])
unfolding page_trace run run_by
callee_is_read_before_its_arguments = refl

-- A return outside functions ends the script, also inside a loop and a try block; its value goes nowhere.
--     while (true) { try { log(1); return 2; } catch (e) { log(3); } }
--     log(4);
abbrev return_ends_the_script_script : Program
return_ends_the_script_script =
    record {
      items =
          (StmtItem (WhileStmt TrueLiteral (with_stmt (TryStmt (with_stmt (ExprStmt (Call (named "log") (with_expr (Number (pos 1)) no_exprs))) (with_stmt (ReturnStmt (Some (Number (pos 2)))) no_stmts)) (named "e") (with_stmt (ExprStmt (Call (named "log") (with_expr (Number (pos 3)) no_exprs))) no_stmts)) no_stmts))) ∷
          (StmtItem (ExprStmt (Call (named "log") (with_expr (Number (pos 4)) no_exprs)))) ∷
          [];
      names = [];
    }

abbrev return_ends_the_script_setup : Setup
return_ends_the_script_setup =
    record { form = 1; trace = 1; policy = (Rank default_list); fuel = 1000000; until = 10000000; refresh = 60; late = []; latencies = []; arrivals = [] }

return_ends_the_script : page_trace return_ends_the_script_script return_ends_the_script_setup four_hosts ([]) ≡ rows (
    codes "trace 1" ∷
    codes "0 turn 1 dom" ∷
    codes "0 call 1" ∷
    codes "0 log 1" ∷
    codes "0 ret" ∷
    codes "0 end done" ∷
    [])
unfolding page_trace run run_by
return_ends_the_script = refl
