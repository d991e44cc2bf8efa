use Rattle.page_model.specs.Parallel.{parallel}
use Rattle.turn_rows.proofs.Staying.{free-stays}
use Rattle.turn_rows.proofs.driving.take_items.Goals as goal

pub returns-in_ok-parallel : goal.returns-in_ok-parallel
returns-in_ok-parallel g c =
    let does = c.in_ok-parallel.ensures in
    free-stays parallel does.does tt does.stops does.same does.fuel
