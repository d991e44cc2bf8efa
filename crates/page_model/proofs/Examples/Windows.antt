-- Worked examples, computed: a run in pieces, several windows on one loop, and several loops.
use Rattle.std.specs.Prelude.{◌≡◌, ℕ, true, List, [], ◌∷◌, Some, None, pos, codes, refl}
use Rattle.page_types.specs.Values.{IntValue}
use Rattle.page_types.specs.declared.Source.TheVariants.{Dom}
use Rattle.page_types.specs.Tree.{Number, TextLiteral, UnitLiteral, Name, Call, no_exprs, with_expr, ExprStmt, no_stmts, with_stmt, FnItem, StmtItem, Program}
use Rattle.page_parts.specs.Setup.{Setup, Rank}
use Rattle.page_parts.specs.Sources.{default_list}
use Rattle.page_model.proofs.Examples.Sample.{named, is_stuck, rows}
use Rattle.page_parts.specs.Channels.{Channel, message_value}
use Rattle.page_parts.specs.TraceText.{text_of}
use Rattle.page_parts.specs.WrittenChoices.{written}
use Rattle.page_model.specs.Gaps.{Act, Pass, Serve, Rest, Stop, run_gaps, run_gaps_by}
use Rattle.page_model.specs.PageRuns.{PageRun, run_at}
use Rattle.page_model.specs.Windows.{Script, first_windows, rounds}
use Rattle.page_model.specs.Loops.{first_loops, loop_steps}
use Rattle.page_model.specs.Turns.{events_of_run}

--     postMessage(1, 5);
--     postMessage(1, 6);
abbrev posts_two_messages_script : Program
posts_two_messages_script =
    record {
      items =
          (StmtItem (ExprStmt (Call (named "postMessage") (with_expr (Number (pos 1)) (with_expr (Number (pos 5)) no_exprs))))) ∷
          (StmtItem (ExprStmt (Call (named "postMessage") (with_expr (Number (pos 1)) (with_expr (Number (pos 6)) no_exprs))))) ∷
          [];
      names = [];
    }

--     fn m(v) { log(v); }
--     listen(unit, "message", m);
abbrev logs_its_messages_script : Program
logs_its_messages_script =
    record {
      items =
          (FnItem (named "m") ((named "v") ∷ []) (with_stmt (ExprStmt (Call (named "log") (with_expr (Name (named "v")) no_exprs))) no_stmts)) ∷
          (StmtItem (ExprStmt (Call (named "listen") (with_expr UnitLiteral (with_expr (TextLiteral (codes "message")) (with_expr (Name (named "m")) no_exprs)))))) ∷
          [];
      names = codes "m" ∷ [];
    }

--     fn f() { log(now()); }
--     setTimeout(f, 1);
abbrev logs_its_time_after_a_millisecond_script : Program
logs_its_time_after_a_millisecond_script =
    record {
      items =
          (FnItem (named "f") ([]) (with_stmt (ExprStmt (Call (named "log") (with_expr (Call (named "now") no_exprs) no_exprs))) no_stmts)) ∷
          (StmtItem (ExprStmt (Call (named "setTimeout") (with_expr (Name (named "f")) (with_expr (Number (pos 1)) no_exprs))))) ∷
          [];
      names = codes "f" ∷ [];
    }

--     busy(5000);
abbrev is_busy_for_five_milliseconds_script : Program
is_busy_for_five_milliseconds_script =
    record {
      items =
          (StmtItem (ExprStmt (Call (named "busy") (with_expr (Number (pos 5000)) no_exprs)))) ∷
          [];
      names = [];
    }

abbrev plain_setup : Setup
plain_setup =
    record { form = 1; trace = 1; policy = (Rank default_list); fuel = 1000000; until = 10000000; refresh = 60; late = []; latencies = []; arrivals = [] }

abbrev plain : Program → Script
plain program = record { program = program; setup = plain_setup }

abbrev one_channel : List Channel
one_channel = record { from = 1; out = 1; to = 2; port = 1; late = 1000 } ∷ []

abbrev text_at : ℕ → List PageRun → List ℕ
text_at k rs = elim (run_at k rs) [ None ↦ [] | Some r ↦ text_of 1 (events_of_run r.run) ]

abbrev two_windows : List Channel → Program → Program → List PageRun
two_windows cs a b = (rounds cs 100 (first_windows (plain a ∷ plain b ∷ []))).windows

abbrev two_loops : List Channel → Program → Program → List PageRun
two_loops cs a b = loop_steps cs 100 (first_loops (plain a ∷ plain b ∷ []))

messages_are_posted : text_at 1 (two_windows one_channel posts_two_messages_script logs_its_messages_script) ≡ rows (
    codes "trace 1" ∷
    codes "0 turn 1 dom" ∷
    codes "0 call 1" ∷
    codes "0 send 1 5" ∷
    codes "0 send 1 6" ∷
    codes "0 ret" ∷
    codes "1000 end done" ∷
    [])
messages_are_posted = refl

messages_arrive_in_order : text_at 2 (two_windows one_channel posts_two_messages_script logs_its_messages_script) ≡ rows (
    codes "trace 1" ∷
    codes "0 turn 1 dom" ∷
    codes "0 call 1" ∷
    codes "0 reg 2 listener" ∷
    codes "0 ret" ∷
    codes "1000 turn 2 dom" ∷
    codes "1000 call 2" ∷
    codes "1000 log [1,5]" ∷
    codes "1000 ret" ∷
    codes "1000 turn 3 dom" ∷
    codes "1000 call 2" ∷
    codes "1000 log [1,6]" ∷
    codes "1000 ret" ∷
    codes "1000 end done" ∷
    [])
messages_arrive_in_order = refl

abbrev setup_with_messages : Setup
setup_with_messages =
    record plain_setup {
      arrivals =
          record { at = 1000; source = Dom; name = codes "message"; value = message_value 1 (IntValue (pos 5)) } ∷
          record { at = 1000; source = Dom; name = codes "message"; value = message_value 1 (IntValue (pos 6)) } ∷
          [];
    }

abbrev acts_of_the_second : List Act
acts_of_the_second =
    Pass 0 ∷ Pass 0 ∷ Serve ∷ Rest 0 ∷ Pass 0 ∷ Pass 1000 ∷ Serve ∷ Pass 1000 ∷ Serve ∷ Rest 1000 ∷ Pass 1000 ∷ Stop 1000 ∷ []

second_window_by_its_acts :
    text_of 1 (events_of_run (run_gaps logs_its_messages_script setup_with_messages acts_of_the_second (written setup_with_messages []))) ≡ rows (
    codes "trace 1" ∷
    codes "0 turn 1 dom" ∷
    codes "0 call 1" ∷
    codes "0 reg 2 listener" ∷
    codes "0 ret" ∷
    codes "1000 turn 2 dom" ∷
    codes "1000 call 2" ∷
    codes "1000 log [1,5]" ∷
    codes "1000 ret" ∷
    codes "1000 turn 3 dom" ∷
    codes "1000 call 2" ∷
    codes "1000 log [1,6]" ∷
    codes "1000 ret" ∷
    codes "1000 end done" ∷
    [])
unfolding run_gaps run_gaps_by
second_window_by_its_acts = refl

serving_without_a_task_is_stuck : is_stuck (run_gaps logs_its_messages_script plain_setup (Pass 0 ∷ Serve ∷ Serve ∷ []) (written plain_setup [])) ≡ true
unfolding run_gaps run_gaps_by
serving_without_a_task_is_stuck = refl

time_does_not_go_back : is_stuck (run_gaps logs_its_messages_script plain_setup (Pass 5 ∷ Pass 4 ∷ []) (written plain_setup [])) ≡ true
unfolding run_gaps run_gaps_by
time_does_not_go_back = refl

stopping_before_the_end_is_stuck : is_stuck (run_gaps logs_its_messages_script setup_with_messages (Serve ∷ Stop 0 ∷ []) (written setup_with_messages [])) ≡ true
unfolding run_gaps run_gaps_by
stopping_before_the_end_is_stuck = refl

windows_share_one_clock : text_at 1 (two_windows [] logs_its_time_after_a_millisecond_script is_busy_for_five_milliseconds_script) ≡ rows (
    codes "trace 1" ∷
    codes "0 turn 1 dom" ∷
    codes "0 call 1" ∷
    codes "0 reg 2 timeout" ∷
    codes "0 arm 2 1000 1" ∷
    codes "0 ret" ∷
    codes "5000 due 2" ∷
    codes "5000 turn 2 timer" ∷
    codes "5000 call 2" ∷
    codes "5000 log 5000" ∷
    codes "5000 ret" ∷
    codes "5000 end done" ∷
    [])
windows_share_one_clock = refl

loop_ends_where_it_has_nothing_to_do : text_at 1 (two_loops one_channel posts_two_messages_script logs_its_messages_script) ≡ rows (
    codes "trace 1" ∷
    codes "0 turn 1 dom" ∷
    codes "0 call 1" ∷
    codes "0 send 1 5" ∷
    codes "0 send 1 6" ∷
    codes "0 ret" ∷
    codes "0 end done" ∷
    [])
loop_ends_where_it_has_nothing_to_do = refl

loop_waits_for_its_messages : text_at 2 (two_loops one_channel posts_two_messages_script logs_its_messages_script) ≡ rows (
    codes "trace 1" ∷
    codes "0 turn 1 dom" ∷
    codes "0 call 1" ∷
    codes "0 reg 2 listener" ∷
    codes "0 ret" ∷
    codes "1000 wait 1000" ∷
    codes "1000 turn 2 dom" ∷
    codes "1000 call 2" ∷
    codes "1000 log [1,5]" ∷
    codes "1000 ret" ∷
    codes "1000 turn 3 dom" ∷
    codes "1000 call 2" ∷
    codes "1000 log [1,6]" ∷
    codes "1000 ret" ∷
    codes "1000 end done" ∷
    [])
loop_waits_for_its_messages = refl

loops_have_clocks_of_their_own : text_at 1 (two_loops [] logs_its_time_after_a_millisecond_script is_busy_for_five_milliseconds_script) ≡ rows (
    codes "trace 1" ∷
    codes "0 turn 1 dom" ∷
    codes "0 call 1" ∷
    codes "0 reg 2 timeout" ∷
    codes "0 arm 2 1000 1" ∷
    codes "0 ret" ∷
    codes "1000 wait 1000" ∷
    codes "1000 due 2" ∷
    codes "1000 turn 2 timer" ∷
    codes "1000 call 2" ∷
    codes "1000 log 1000" ∷
    codes "1000 ret" ∷
    codes "1000 end done" ∷
    [])
loops_have_clocks_of_their_own = refl
