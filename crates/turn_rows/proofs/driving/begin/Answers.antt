use Rattle.std.proofs.Common.{arith}
use Rattle.page_state.specs.JobActs.{turn_counted}
use Rattle.turn_rows.proofs.Staying.{work-stays}
use Rattle.turn_rows.proofs.driving.begin.Goals as goal

pub returns : goal.returns
returns g c =
    let does = c.in_ok-begin_turn.ensures in
    work-stays (turn_counted c.args.source) does.does tt does.stops does.same (let taken = does.fuel in omega (arith, taken))
