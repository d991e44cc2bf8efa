use Rattle.arrivals_text.specs.SeenParts.{arrival_of}
use Rattle.page_model.specs.Parallel.{arrive}
use Rattle.turn_rows.proofs.Staying.{free-stays}
use Rattle.turn_rows.proofs.driving.arrive.Goals as goal

pub returns : goal.returns
returns g c =
    let does = c.in_ok-arrive.ensures in
    free-stays (arrive (arrival_of c.args.event)) does.does tt does.stops does.same does.fuel
