use Rattle.page_types.specs.Events.{Wait}
use Rattle.page_model.specs.State.{emit}
use Rattle.page_model.specs.Turns.{at_time}
use Rattle.turn_rows.proofs.Staying.{free-stays, change-stays, stays-then}
use Rattle.turn_rows.proofs.driving.wait.Goals as goal

pub returns : goal.returns
returns g c =
    let does = c.in_ok-mark_wait.ensures in
    stays-then (change-stays (at_time _) c.args.page.now c.set_now.ensures)
    (free-stays (emit (Wait c.args.until)) does.does tt does.stops does.same does.fuel)
