-- Worked examples, computed: waits, arrivals and host answers.
use Rattle.std.specs.Prelude.{◌≡◌, [], ◌∷◌, Ok, pos, codes, refl}
use Rattle.page_types.specs.Values.{IntValue}
use Rattle.page_types.specs.declared.Source.TheVariants.{User, Net}
use Rattle.page_types.specs.Tree.{Number, UnitLiteral, Name, Call, no_exprs, with_expr, VarStmt, ExprStmt, no_stmts, with_stmt, FnItem, StmtItem, Program}
use Rattle.page_parts.specs.Setup.{Setup, Fifo, Rank}
use Rattle.page_parts.specs.Sources.{default_list}
use Rattle.page_model.specs.Turns.{run, run_by}
use Rattle.page_model.specs.PageTrace.{page_trace}
use Rattle.page_model.proofs.Examples.Sample.{named, four_hosts, six_hosts, logs_of, rows}

-- Two arrivals are due at the start. No listener hears them, but each is a task, and the first one queued is served first.
--     (an empty script)
abbrev arrivals_without_listeners_by_fifo_script : Program
arrivals_without_listeners_by_fifo_script =
    record {
      items =
          [];
      names = [];
    }

abbrev arrivals_without_listeners_by_fifo_setup : Setup
arrivals_without_listeners_by_fifo_setup =
    record { form = 1; trace = 1; policy = Fifo; fuel = 1000000; until = 10000000; refresh = 60; late = []; latencies = []; arrivals = record { at = 0; source = Net; name = codes "a"; value = (IntValue (pos 1)) } ∷ record { at = 0; source = User; name = codes "a"; value = (IntValue (pos 2)) } ∷ [] }

arrivals_without_listeners_by_fifo : page_trace arrivals_without_listeners_by_fifo_script arrivals_without_listeners_by_fifo_setup four_hosts ([]) ≡ rows (
    codes "trace 1" ∷
    codes "0 turn 1 dom" ∷
    codes "0 call 1" ∷
    codes "0 ret" ∷
    codes "0 turn 2 net" ∷
    codes "0 turn 3 user" ∷
    codes "0 end done" ∷
    [])
unfolding page_trace run run_by
arrivals_without_listeners_by_fifo = refl

-- The same by the default list, in which the user source stands first.
--     (an empty script)
abbrev arrivals_without_listeners_by_rank_script : Program
arrivals_without_listeners_by_rank_script =
    record {
      items =
          [];
      names = [];
    }

abbrev arrivals_without_listeners_by_rank_setup : Setup
arrivals_without_listeners_by_rank_setup =
    record { form = 1; trace = 1; policy = (Rank default_list); fuel = 1000000; until = 10000000; refresh = 60; late = []; latencies = []; arrivals = record { at = 0; source = Net; name = codes "a"; value = (IntValue (pos 1)) } ∷ record { at = 0; source = User; name = codes "a"; value = (IntValue (pos 2)) } ∷ [] }

arrivals_without_listeners_by_rank : page_trace arrivals_without_listeners_by_rank_script arrivals_without_listeners_by_rank_setup four_hosts ([]) ≡ rows (
    codes "trace 1" ∷
    codes "0 turn 1 dom" ∷
    codes "0 call 1" ∷
    codes "0 ret" ∷
    codes "0 turn 2 user" ∷
    codes "0 turn 3 net" ∷
    codes "0 end done" ∷
    [])
unfolding page_trace run run_by
arrivals_without_listeners_by_rank = refl

-- The clock is waited for until 500 and reads 520: the line names the target at the time that was read.
--     (an empty script)
abbrev late_reading_of_the_clock_script : Program
late_reading_of_the_clock_script =
    record {
      items =
          [];
      names = [];
    }

abbrev late_reading_of_the_clock_setup : Setup
late_reading_of_the_clock_setup =
    record { form = 1; trace = 1; policy = (Rank default_list); fuel = 1000000; until = 10000000; refresh = 60; late = 20 ∷ []; latencies = []; arrivals = record { at = 500; source = User; name = codes "a"; value = (IntValue (pos 1)) } ∷ [] }

late_reading_of_the_clock : page_trace late_reading_of_the_clock_script late_reading_of_the_clock_setup four_hosts ([]) ≡ rows (
    codes "trace 1" ∷
    codes "0 turn 1 dom" ∷
    codes "0 call 1" ∷
    codes "0 ret" ∷
    codes "520 wait 500" ∷
    codes "520 turn 2 user" ∷
    codes "520 end done" ∷
    [])
unfolding page_trace run run_by
late_reading_of_the_clock = refl

-- The script is not stopped at the moment at which the run ends at the latest. The run ends when it has returned, at the time then.
--     busy(7);
abbrev run_past_until_ends_by_the_clock_script : Program
run_past_until_ends_by_the_clock_script =
    record {
      items =
          (StmtItem (ExprStmt (Call (named "busy") (with_expr (Number (pos 7)) no_exprs)))) ∷
          [];
      names = [];
    }

abbrev run_past_until_ends_by_the_clock_setup : Setup
run_past_until_ends_by_the_clock_setup =
    record { form = 1; trace = 1; policy = (Rank default_list); fuel = 1000000; until = 5; refresh = 60; late = []; latencies = []; arrivals = record { at = 9; source = User; name = codes "a"; value = (IntValue (pos 1)) } ∷ [] }

run_past_until_ends_by_the_clock : page_trace run_past_until_ends_by_the_clock_script run_past_until_ends_by_the_clock_setup four_hosts ([]) ≡ rows (
    codes "trace 1" ∷
    codes "0 turn 1 dom" ∷
    codes "0 call 1" ∷
    codes "7 ret" ∷
    codes "7 end clock" ∷
    [])
unfolding page_trace run run_by
run_past_until_ends_by_the_clock = refl

-- A closure with no written latency answers at the next turn.
--     host(5, 1, unit);
abbrev closure_without_a_latency_script : Program
closure_without_a_latency_script =
    record {
      items =
          (StmtItem (ExprStmt (Call (named "host") (with_expr (Number (pos 5)) (with_expr (Number (pos 1)) (with_expr UnitLiteral no_exprs)))))) ∷
          [];
      names = [];
    }

abbrev closure_without_a_latency_setup : Setup
closure_without_a_latency_setup =
    record { form = 1; trace = 1; policy = (Rank default_list); fuel = 1000000; until = 10000000; refresh = 60; late = []; latencies = []; arrivals = [] }

closure_without_a_latency : page_trace closure_without_a_latency_script closure_without_a_latency_setup six_hosts (Ok (pos 2) ∷ []) ≡ rows (
    codes "trace 1" ∷
    codes "0 turn 1 dom" ∷
    codes "0 call 1" ∷
    codes "0 reg 2 host" ∷
    codes "0 arm 2 0 0" ∷
    codes "0 ret" ∷
    codes "0 due 2" ∷
    codes "0 turn 2 net" ∷
    codes "0 host 5 1 ok 2" ∷
    codes "0 settle 1 ok 2" ∷
    codes "0 end done" ∷
    [])
unfolding page_trace run run_by
closure_without_a_latency = refl

-- A closure that is not there and a number that the closure does not take both reject the promise with RangeError.
--     fn f(v) { log(v); }
--     then(host(64, 1, unit), f, f);
--     then(host(0, 3037000500, unit), f, f);
abbrev closure_or_number_out_of_range_script : Program
closure_or_number_out_of_range_script =
    record {
      items =
          (FnItem (named "f") ((named "v") ∷ []) (with_stmt (ExprStmt (Call (named "log") (with_expr (Name (named "v")) no_exprs))) no_stmts)) ∷
          (StmtItem (ExprStmt (Call (named "then") (with_expr (Call (named "host") (with_expr (Number (pos 64)) (with_expr (Number (pos 1)) (with_expr UnitLiteral no_exprs)))) (with_expr (Name (named "f")) (with_expr (Name (named "f")) no_exprs)))))) ∷
          (StmtItem (ExprStmt (Call (named "then") (with_expr (Call (named "host") (with_expr (Number (pos 0)) (with_expr (Number (pos 3037000500)) (with_expr UnitLiteral no_exprs)))) (with_expr (Name (named "f")) (with_expr (Name (named "f")) no_exprs)))))) ∷
          [];
      names = codes "f" ∷ [];
    }

abbrev closure_or_number_out_of_range_setup : Setup
closure_or_number_out_of_range_setup =
    record { form = 1; trace = 1; policy = (Rank default_list); fuel = 1000000; until = 10000000; refresh = 60; late = []; latencies = []; arrivals = [] }

closure_or_number_out_of_range : logs_of (page_trace closure_or_number_out_of_range_script closure_or_number_out_of_range_setup four_hosts ([])) ≡ rows (
    codes "0 RangeError(\"\")" ∷
    codes "0 RangeError(\"\")" ∷
    [])
unfolding page_trace run run_by
closure_or_number_out_of_range = refl

-- An answer that is aborted before it is due is no longer pending: no answer is taken, and nothing is left to wait for.
--     fn f(v) { log(v); }
--     var c = controller();
--     then(host(0, 7, signal(c)), f, f);
--     fn k() { abort(c, unit); }
--     setTimeout(k, 1);
abbrev aborted_host_answer_leaves_no_host_line_script : Program
aborted_host_answer_leaves_no_host_line_script =
    record {
      items =
          (FnItem (named "f") ((named "v") ∷ []) (with_stmt (ExprStmt (Call (named "log") (with_expr (Name (named "v")) no_exprs))) no_stmts)) ∷
          (StmtItem (VarStmt (named "c") (Call (named "controller") no_exprs))) ∷
          (StmtItem (ExprStmt (Call (named "then") (with_expr (Call (named "host") (with_expr (Number (pos 0)) (with_expr (Number (pos 7)) (with_expr (Call (named "signal") (with_expr (Name (named "c")) no_exprs)) no_exprs)))) (with_expr (Name (named "f")) (with_expr (Name (named "f")) no_exprs)))))) ∷
          (FnItem (named "k") ([]) (with_stmt (ExprStmt (Call (named "abort") (with_expr (Name (named "c")) (with_expr UnitLiteral no_exprs)))) no_stmts)) ∷
          (StmtItem (ExprStmt (Call (named "setTimeout") (with_expr (Name (named "k")) (with_expr (Number (pos 1)) no_exprs))))) ∷
          [];
      names = codes "f" ∷ codes "k" ∷ [];
    }

abbrev aborted_host_answer_leaves_no_host_line_setup : Setup
aborted_host_answer_leaves_no_host_line_setup =
    record { form = 1; trace = 1; policy = (Rank default_list); fuel = 1000000; until = 10000000; refresh = 60; late = []; latencies = record { closure = 0; latency = 3000 } ∷ []; arrivals = [] }

aborted_host_answer_leaves_no_host_line : page_trace aborted_host_answer_leaves_no_host_line_script aborted_host_answer_leaves_no_host_line_setup four_hosts ([]) ≡ rows (
    codes "trace 1" ∷
    codes "0 turn 1 dom" ∷
    codes "0 call 1" ∷
    codes "0 reg 2 host" ∷
    codes "0 arm 2 3000 0" ∷
    codes "0 reg 3 then" ∷
    codes "0 reg 4 timeout" ∷
    codes "0 arm 4 1000 1" ∷
    codes "0 ret" ∷
    codes "1000 wait 1000" ∷
    codes "1000 due 4" ∷
    codes "1000 turn 2 timer" ∷
    codes "1000 call 4" ∷
    codes "1000 abort 1" ∷
    codes "1000 settle 1 err AbortError(\"\")" ∷
    codes "1000 job 1 react 1" ∷
    codes "1000 drop 2" ∷
    codes "1000 ret" ∷
    codes "1000 run 1" ∷
    codes "1000 call 3" ∷
    codes "1000 log AbortError(\"\")" ∷
    codes "1000 ret" ∷
    codes "1000 settle 2 ok unit" ∷
    codes "1000 end done" ∷
    [])
unfolding page_trace run run_by
aborted_host_answer_leaves_no_host_line = refl

-- The answer is due and its task waits when the signal is aborted: the promise is rejected, and the task has its turn and does nothing.
--     var c = controller();
--     fn f(v) { log(v); }
--     fn k() { abort(c, unit); }
--     then(host(0, 7, signal(c)), f, f);
--     setTimeout(k, 1);
abbrev aborted_host_answer_already_due_script : Program
aborted_host_answer_already_due_script =
    record {
      items =
          (StmtItem (VarStmt (named "c") (Call (named "controller") no_exprs))) ∷
          (FnItem (named "f") ((named "v") ∷ []) (with_stmt (ExprStmt (Call (named "log") (with_expr (Name (named "v")) no_exprs))) no_stmts)) ∷
          (FnItem (named "k") ([]) (with_stmt (ExprStmt (Call (named "abort") (with_expr (Name (named "c")) (with_expr UnitLiteral no_exprs)))) no_stmts)) ∷
          (StmtItem (ExprStmt (Call (named "then") (with_expr (Call (named "host") (with_expr (Number (pos 0)) (with_expr (Number (pos 7)) (with_expr (Call (named "signal") (with_expr (Name (named "c")) no_exprs)) no_exprs)))) (with_expr (Name (named "f")) (with_expr (Name (named "f")) no_exprs)))))) ∷
          (StmtItem (ExprStmt (Call (named "setTimeout") (with_expr (Name (named "k")) (with_expr (Number (pos 1)) no_exprs))))) ∷
          [];
      names = codes "f" ∷ codes "k" ∷ [];
    }

abbrev aborted_host_answer_already_due_setup : Setup
aborted_host_answer_already_due_setup =
    record { form = 1; trace = 1; policy = (Rank default_list); fuel = 1000000; until = 10000000; refresh = 60; late = []; latencies = record { closure = 0; latency = 1000 } ∷ []; arrivals = [] }

aborted_host_answer_already_due : page_trace aborted_host_answer_already_due_script aborted_host_answer_already_due_setup four_hosts ([]) ≡ rows (
    codes "trace 1" ∷
    codes "0 turn 1 dom" ∷
    codes "0 call 1" ∷
    codes "0 reg 2 host" ∷
    codes "0 arm 2 1000 0" ∷
    codes "0 reg 3 then" ∷
    codes "0 reg 4 timeout" ∷
    codes "0 arm 4 1000 1" ∷
    codes "0 ret" ∷
    codes "1000 wait 1000" ∷
    codes "1000 due 2" ∷
    codes "1000 due 4" ∷
    codes "1000 turn 2 timer" ∷
    codes "1000 call 4" ∷
    codes "1000 abort 1" ∷
    codes "1000 settle 1 err AbortError(\"\")" ∷
    codes "1000 job 1 react 1" ∷
    codes "1000 drop 2" ∷
    codes "1000 ret" ∷
    codes "1000 run 1" ∷
    codes "1000 call 3" ∷
    codes "1000 log AbortError(\"\")" ∷
    codes "1000 ret" ∷
    codes "1000 settle 2 ok unit" ∷
    codes "1000 turn 3 net" ∷
    codes "1000 end done" ∷
    [])
unfolding page_trace run run_by
aborted_host_answer_already_due = refl
