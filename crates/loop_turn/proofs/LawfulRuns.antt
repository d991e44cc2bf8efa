-- Every run keeps the ten laws.
use Rattle.std.proofs.Common.{List}
use Rattle.page_types.specs.Tree.{Program}
use Rattle.page_parts.specs.Setup.{Setup}
use Rattle.page_parts.specs.HostClosures.{HostClosure}
use Rattle.page_model.specs.Choosing.{Rules}
use Rattle.page_model.specs.Turns.{run_by}
use Rattle.page_laws.proofs.RunLaws.{laws_of_runs, run_timers_in_order, runs_end_truly}
use Rattle.loop_turn.specs.Lawful.{KeepsLaws}

pub runs-lawful : {C : Type 0} (rules : Rules C) (program : Program) (setup : Setup) (hosts : List HostClosure) (c : C) → KeepsLaws setup (run_by rules program setup hosts c)
runs-lawful rules program setup hosts c h =
    let l = laws_of_runs rules program setup hosts c h in
    record {
      once = l.3;
      cancel = l.5;
      settle = l.0;
      jobs = l.1;
      nesting = l.2;
      timers = run_timers_in_order rules program setup hosts c h;
      frames = l.7;
      idle = l.8;
      priority = l.6;
      ends = runs_end_truly rules program setup hosts c h;
    }
