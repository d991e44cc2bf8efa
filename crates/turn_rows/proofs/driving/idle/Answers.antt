use Rattle.page_model.specs.PageTime.{idle_step}
use Rattle.turn_rows.proofs.Staying.{free-stays}
use Rattle.turn_rows.proofs.driving.idle.Goals as goal

pub returns-in_ok-idle_step : goal.returns-in_ok-idle_step
returns-in_ok-idle_step g c =
    let does = c.in_ok-idle_step.ensures in
    free-stays idle_step does.does tt does.stops does.same does.fuel
