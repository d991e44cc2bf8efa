-- Worked examples, computed: runs under recorded choices that are legal, and that are not.
use Rattle.std.specs.Prelude.{ℕ, ◌≡◌, true, List, [], ◌∷◌, Ok, pos, codes, refl}
use Rattle.page_types.specs.Events.{Stamped}
use Rattle.page_types.specs.declared.Source.TheVariants.{Net, Dom}
use Rattle.page_types.specs.Tree.{Number, UnitLiteral, Name, Call, no_exprs, with_expr, ExprStmt, no_stmts, with_stmt, FnItem, StmtItem, Program}
use Rattle.page_parts.specs.Setup.{Setup, Rank}
use Rattle.page_parts.specs.WrittenChoices.{Choices, Recorded, written}
use Rattle.page_parts.specs.Sources.{default_list}
use Rattle.page_parts.specs.TraceText.{choices_in, text_of}
use Rattle.page_model.specs.Turns.{Turned, run, run_by, events_of_run}
use Rattle.page_model.proofs.Examples.Sample.{named, four_hosts, has_ended, is_stuck, rows}

--     fn f(v) { log(v); }
--     then(host(0, 7, unit), f, f);
--     then(host(0, 1, unit), f, f);
abbrev answered_once_script : Program
answered_once_script =
    record {
      items =
          (FnItem (named "f") ((named "v") ∷ []) (with_stmt (ExprStmt (Call (named "log") (with_expr (Name (named "v")) no_exprs))) no_stmts)) ∷
          (StmtItem (ExprStmt (Call (named "then") (with_expr (Call (named "host") (with_expr (Number (pos 0)) (with_expr (Number (pos 7)) (with_expr UnitLiteral no_exprs)))) (with_expr (Name (named "f")) (with_expr (Name (named "f")) no_exprs)))))) ∷
          (StmtItem (ExprStmt (Call (named "then") (with_expr (Call (named "host") (with_expr (Number (pos 0)) (with_expr (Number (pos 1)) (with_expr UnitLiteral no_exprs)))) (with_expr (Name (named "f")) (with_expr (Name (named "f")) no_exprs)))))) ∷
          [];
      names = codes "f" ∷ [];
    }

abbrev answered_once_setup : Setup
answered_once_setup =
    record { form = 1; trace = 1; policy = (Rank default_list); fuel = 1000000; until = 10000000; refresh = 60; late = []; latencies = record { closure = 0; latency = 3000 } ∷ []; arrivals = [] }

abbrev under : Choices → Turned Choices
under c = run answered_once_script answered_once_setup four_hosts c

abbrev text_under : Choices → List ℕ
text_under c = text_of 1 (events_of_run (under c))

abbrev its_events : List Stamped
its_events = events_of_run (under (written answered_once_setup (Ok (pos 49) ∷ [])))

-- The trace of a run with a wait and a host answer is legal: the run under the choices that stand in it ends, with the same text.
ends_under_its_own_choices : has_ended (under (choices_in its_events)) ≡ true
unfolding run run_by
ends_under_its_own_choices = refl

same_text_under_its_own_choices : text_under (choices_in its_events) ≡ rows (
    codes "trace 1" ∷
    codes "0 turn 1 dom" ∷
    codes "0 call 1" ∷
    codes "0 reg 2 host" ∷
    codes "0 arm 2 3000 0" ∷
    codes "0 reg 3 then" ∷
    codes "0 settle 3 err NotAllowedError(\"\")" ∷
    codes "0 reg 4 then" ∷
    codes "0 job 1 react 3" ∷
    codes "0 ret" ∷
    codes "0 run 1" ∷
    codes "0 call 4" ∷
    codes "0 log NotAllowedError(\"\")" ∷
    codes "0 ret" ∷
    codes "0 settle 4 ok unit" ∷
    codes "3000 wait 3000" ∷
    codes "3000 due 2" ∷
    codes "3000 turn 2 net" ∷
    codes "3000 host 0 7 ok 49" ∷
    codes "3000 settle 1 ok 49" ∷
    codes "3000 job 2 react 1" ∷
    codes "3000 run 2" ∷
    codes "3000 call 3" ∷
    codes "3000 log 49" ∷
    codes "3000 ret" ∷
    codes "3000 settle 2 ok unit" ∷
    codes "3000 end done" ∷
    [])
unfolding run run_by
same_text_under_its_own_choices = refl

-- A later reading of the clock is as legal: all that follows stands at that time.
later_reading : text_under (Recorded (Dom ∷ Net ∷ []) (3500 ∷ []) (Ok (pos 49) ∷ [])) ≡ rows (
    codes "trace 1" ∷
    codes "0 turn 1 dom" ∷
    codes "0 call 1" ∷
    codes "0 reg 2 host" ∷
    codes "0 arm 2 3000 0" ∷
    codes "0 reg 3 then" ∷
    codes "0 settle 3 err NotAllowedError(\"\")" ∷
    codes "0 reg 4 then" ∷
    codes "0 job 1 react 3" ∷
    codes "0 ret" ∷
    codes "0 run 1" ∷
    codes "0 call 4" ∷
    codes "0 log NotAllowedError(\"\")" ∷
    codes "0 ret" ∷
    codes "0 settle 4 ok unit" ∷
    codes "3500 wait 3000" ∷
    codes "3500 due 2" ∷
    codes "3500 turn 2 net" ∷
    codes "3500 host 0 7 ok 49" ∷
    codes "3500 settle 1 ok 49" ∷
    codes "3500 job 2 react 1" ∷
    codes "3500 run 2" ∷
    codes "3500 call 3" ∷
    codes "3500 log 49" ∷
    codes "3500 ret" ∷
    codes "3500 settle 2 ok unit" ∷
    codes "3500 end done" ∷
    [])
unfolding run run_by
later_reading = refl

-- A reading before the moment that is waited for is not: the run is stuck there, and no line of the wait is written.
stuck_at_an_early_reading : is_stuck (under (Recorded (Dom ∷ Net ∷ []) (2999 ∷ []) (Ok (pos 49) ∷ []))) ≡ true
unfolding run run_by
stuck_at_an_early_reading = refl

lines_before_an_early_reading : text_under (Recorded (Dom ∷ Net ∷ []) (2999 ∷ []) (Ok (pos 49) ∷ [])) ≡ rows (
    codes "trace 1" ∷
    codes "0 turn 1 dom" ∷
    codes "0 call 1" ∷
    codes "0 reg 2 host" ∷
    codes "0 arm 2 3000 0" ∷
    codes "0 reg 3 then" ∷
    codes "0 settle 3 err NotAllowedError(\"\")" ∷
    codes "0 reg 4 then" ∷
    codes "0 job 1 react 3" ∷
    codes "0 ret" ∷
    codes "0 run 1" ∷
    codes "0 call 4" ∷
    codes "0 log NotAllowedError(\"\")" ∷
    codes "0 ret" ∷
    codes "0 settle 4 ok unit" ∷
    [])
unfolding run run_by
lines_before_an_early_reading = refl

-- Nor is an answer that the closure cannot give: the run is stuck after the line of its turn.
stuck_at_a_wrong_answer : is_stuck (under (Recorded (Dom ∷ Net ∷ []) (3000 ∷ []) (Ok (pos 48) ∷ []))) ≡ true
unfolding run run_by
stuck_at_a_wrong_answer = refl

lines_before_a_wrong_answer : text_under (Recorded (Dom ∷ Net ∷ []) (3000 ∷ []) (Ok (pos 48) ∷ [])) ≡ rows (
    codes "trace 1" ∷
    codes "0 turn 1 dom" ∷
    codes "0 call 1" ∷
    codes "0 reg 2 host" ∷
    codes "0 arm 2 3000 0" ∷
    codes "0 reg 3 then" ∷
    codes "0 settle 3 err NotAllowedError(\"\")" ∷
    codes "0 reg 4 then" ∷
    codes "0 job 1 react 3" ∷
    codes "0 ret" ∷
    codes "0 run 1" ∷
    codes "0 call 4" ∷
    codes "0 log NotAllowedError(\"\")" ∷
    codes "0 ret" ∷
    codes "0 settle 4 ok unit" ∷
    codes "3000 wait 3000" ∷
    codes "3000 due 2" ∷
    codes "3000 turn 2 net" ∷
    [])
unfolding run run_by
lines_before_a_wrong_answer = refl

-- Where the answer is missing altogether the run stands at the same place, and where the source is missing one line before.
stuck_without_an_answer : text_under (Recorded (Dom ∷ Net ∷ []) (3000 ∷ []) []) ≡ rows (
    codes "trace 1" ∷
    codes "0 turn 1 dom" ∷
    codes "0 call 1" ∷
    codes "0 reg 2 host" ∷
    codes "0 arm 2 3000 0" ∷
    codes "0 reg 3 then" ∷
    codes "0 settle 3 err NotAllowedError(\"\")" ∷
    codes "0 reg 4 then" ∷
    codes "0 job 1 react 3" ∷
    codes "0 ret" ∷
    codes "0 run 1" ∷
    codes "0 call 4" ∷
    codes "0 log NotAllowedError(\"\")" ∷
    codes "0 ret" ∷
    codes "0 settle 4 ok unit" ∷
    codes "3000 wait 3000" ∷
    codes "3000 due 2" ∷
    codes "3000 turn 2 net" ∷
    [])
unfolding run run_by
stuck_without_an_answer = refl

stuck_without_a_source : text_under (Recorded (Dom ∷ []) (3000 ∷ []) (Ok (pos 49) ∷ [])) ≡ rows (
    codes "trace 1" ∷
    codes "0 turn 1 dom" ∷
    codes "0 call 1" ∷
    codes "0 reg 2 host" ∷
    codes "0 arm 2 3000 0" ∷
    codes "0 reg 3 then" ∷
    codes "0 settle 3 err NotAllowedError(\"\")" ∷
    codes "0 reg 4 then" ∷
    codes "0 job 1 react 3" ∷
    codes "0 ret" ∷
    codes "0 run 1" ∷
    codes "0 call 4" ∷
    codes "0 log NotAllowedError(\"\")" ∷
    codes "0 ret" ∷
    codes "0 settle 4 ok unit" ∷
    codes "3000 wait 3000" ∷
    codes "3000 due 2" ∷
    [])
unfolding run run_by
stuck_without_a_source = refl
