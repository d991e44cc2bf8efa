use Rattle.turn_rows.specs.Ready.{IsReady}
use Rattle.turn_rows.proofs.driving.walk.Given as goal

abbrev pub invariant-loop-step : goal.invariant-loop-step
invariant-loop-step g l = IsReady l.machine l.page
