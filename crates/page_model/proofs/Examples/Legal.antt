-- A trace is legal under another policy than its own, and a pick that is not runnable leaves the run stuck.
use Rattle.std.specs.Prelude.{◌≡◌, true, List, [], ◌∷◌, pos, codes, refl}
use Rattle.page_types.specs.Events.{Stamped}
use Rattle.page_types.specs.declared.Source.TheVariants.{User, Net, Dom, Timer, Render, Sched, Idle}
use Rattle.page_types.specs.Tree.{Number, TextLiteral, UnitLiteral, Name, Call, no_exprs, with_expr, ExprStmt, no_stmts, with_stmt, FnItem, StmtItem, Program}
use Rattle.page_parts.specs.Setup.{Setup, Rank}
use Rattle.page_parts.specs.WrittenChoices.{Choices, Recorded, written}
use Rattle.page_parts.specs.Sources.{default_list}
use Rattle.page_parts.specs.Words.{same_bytes}
use Rattle.page_model.specs.Turns.{Turned, run, run_by, events_of_run}
use Rattle.page_parts.specs.TraceText.{choices_in, text_of}
use Rattle.page_model.proofs.Examples.Sample.{named, four_hosts, has_ended, is_stuck, rows}

--     fn t() { log("t"); }
--     fn a() { log("a"); }
--     setTimeout(t, 0);
--     postTask(a, unit, unit, 0);
abbrev written_rank_serves_the_timer_first_script : Program
written_rank_serves_the_timer_first_script =
    record {
      items =
          (FnItem (named "t") ([]) (with_stmt (ExprStmt (Call (named "log") (with_expr (TextLiteral (codes "t")) no_exprs))) no_stmts)) ∷
          (FnItem (named "a") ([]) (with_stmt (ExprStmt (Call (named "log") (with_expr (TextLiteral (codes "a")) no_exprs))) no_stmts)) ∷
          (StmtItem (ExprStmt (Call (named "setTimeout") (with_expr (Name (named "t")) (with_expr (Number (pos 0)) no_exprs))))) ∷
          (StmtItem (ExprStmt (Call (named "postTask") (with_expr (Name (named "a")) (with_expr UnitLiteral (with_expr UnitLiteral (with_expr (Number (pos 0)) no_exprs))))))) ∷
          [];
      names = codes "t" ∷ codes "a" ∷ [];
    }

abbrev written_rank_serves_the_timer_first_setup : Setup
written_rank_serves_the_timer_first_setup =
    record { form = 1; trace = 1; policy = (Rank (Timer ∷ Sched ∷ User ∷ Render ∷ Net ∷ Dom ∷ Idle ∷ [])); fuel = 1000000; until = 10000000; refresh = 60; late = []; latencies = []; arrivals = [] }

abbrev plain_setup : Setup
plain_setup = record written_rank_serves_the_timer_first_setup { policy = Rank default_list }

abbrev its_events : List Stamped
its_events = events_of_run (run written_rank_serves_the_timer_first_script written_rank_serves_the_timer_first_setup four_hosts (written written_rank_serves_the_timer_first_setup []))

abbrev run_again : Turned Choices
run_again = run written_rank_serves_the_timer_first_script plain_setup four_hosts (choices_in its_events)

-- The trace under the written policy is legal under a setup whose own policy would serve sched first: the run under its choices ends, with the same text.
ended_under_another_policy : has_ended run_again ≡ true
unfolding run run_by
ended_under_another_policy = refl

same_text_under_another_policy : same_bytes (text_of 1 its_events) (text_of 1 (events_of_run run_again)) ≡ true
unfolding run run_by
same_text_under_another_policy = refl

abbrev run_with_a_bad_pick : Turned Choices
run_with_a_bad_pick = run written_rank_serves_the_timer_first_script plain_setup four_hosts (Recorded (Dom ∷ User ∷ []) [] [])

-- a pick that is not runnable: the run is stuck after the lines before it
stuck_at_a_pick : is_stuck run_with_a_bad_pick ≡ true
unfolding run run_by
stuck_at_a_pick = refl

lines_before_it :
    text_of 1 (events_of_run run_with_a_bad_pick) ≡ rows (
    codes "trace 1" ∷
    codes "0 turn 1 dom" ∷
    codes "0 call 1" ∷
    codes "0 reg 2 timeout" ∷
    codes "0 arm 2 0 1" ∷
    codes "0 reg 3 post" ∷
    codes "0 enq 3 user-visible task 2" ∷
    codes "0 ret" ∷
    codes "0 due 2" ∷
    [])
unfolding run run_by
lines_before_it = refl
