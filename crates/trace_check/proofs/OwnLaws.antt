-- A legal trace keeps the ten laws of every run: its events are those of a run.
use Rattle.std.proofs.Common.{List, subst}
use Rattle.page_types.specs.Tree.{Program}
use Rattle.page_parts.specs.HostClosures.{HostClosure}
use Rattle.page_parts.specs.Setup.{Setup}
use Rattle.page_parts.specs.TraceText.{choices_in}
use Rattle.page_parts.specs.WrittenChoices.{Choices}
use Rattle.page_model.specs.Numbers.{HoldsNoNumbers}
use Rattle.page_model.specs.Choosing.{choice_rules}
use Rattle.page_model.specs.Turns.{run, events_of_run}
use Rattle.page_laws.proofs.RunLaws.{laws_of_runs, run_timers_in_order, runs_end_truly}
use Rattle.trace_text.specs.EventSeen.{TraceSeen}
use Rattle.loop_turn.specs.Lawful.{AreLawful}
use Rattle.trace_check.specs.Verdicts.{events_of, IsLegalHere}
use Rattle.trace_check.proofs.Judging.{events-are}

-- the laws of a run under given choices
run-lawful : (program : Program) (setup : Setup) (hosts : List HostClosure) (choices : Choices) → HoldsNoNumbers setup → AreLawful setup (events_of_run (run program setup hosts choices))
unfolding run
run-lawful program setup hosts choices h =
    let l = laws_of_runs choice_rules program setup hosts choices h in
    record {
      once = l.3;
      cancel = l.5;
      settle = l.0;
      jobs = l.1;
      nesting = l.2;
      timers = run_timers_in_order choice_rules program setup hosts choices h;
      frames = l.7;
      idle = l.8;
      priority = l.6;
      ends = runs_end_truly choice_rules program setup hosts choices h;
    }

pub legal-lawful : (program : Program) (setup : Setup) (hosts : List HostClosure) (trace : TraceSeen) → HoldsNoNumbers setup → IsLegalHere program setup hosts trace → AreLawful setup (events_of trace)
legal-lawful program setup hosts trace h legal =
    let choices = choices_in (events_of trace) in
    subst (AreLawful setup) (events-are (events_of trace) (run program setup hosts choices) legal.1) (run-lawful program setup hosts choices h)
