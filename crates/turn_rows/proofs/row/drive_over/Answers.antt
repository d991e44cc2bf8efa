use Rattle.turn_rows.proofs.Staying.{starts-ready}
use Rattle.turn_rows.proofs.row.drive_over.Goals as goal

pub walk-did-requires : goal.walk-did-requires
walk-did-requires g c = starts-ready c.in_ok-program.program c.in_ok-machine.ensures.script c.in_ok-page.ensures c.in_ok-setup.setup.has_fuel.1
