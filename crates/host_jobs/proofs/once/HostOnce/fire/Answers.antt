use Rattle.std.proofs.Math.Facts.{to_z-of_z}
use Rattle.host_jobs.proofs.once.HostOnce.fire.Goals as goal

pub returns : goal.returns
returns g c = c.args.self.met c.args.x c.call_once.result c.requires.low c.requires.high (rw (to_z-of_z c.ranges.x) at c.call_once.ensures)
