use Rattle.page_host.specs.Turning.{run_ended}
use Rattle.turn_rows.proofs.Staying.{free-stays}
use Rattle.turn_rows.proofs.driving.finish.Goals as goal

pub returns : goal.returns
returns g c =
    let does = c.in_ok-finish.ensures in
    free-stays (run_ended c.args.page.now.until c.args.end) does.does tt does.stops does.same does.fuel
