use Rattle.std.proofs.Common.{◌∙◌, nat_cmp}
use Rattle.std.proofs.Math.Facts.{to_z-of_z}
use Rattle.std.specs.BTreeSet.{contains}
use Rattle.page_hosts.proofs.HostLemmas.{takes_found, takes_not_found}
use Rattle.page_hosts.proofs.hosts.PageHosts.takes.Goals as goal

pub returns-in-Ok : goal.returns-in-Ok
returns-in-Ok g c =
    let number = rw (to_z-of_z c.ranges.k) at c.in-Ok.ensures in
    rw (← c.self.view_is)
    ((rw (to_z-of_z c.ranges.x) at c.fits.ensures)
    ∙ takes_found (contains nat_cmp c.self.inside.asked) c.self.inside.port.closures c.args.k c.args.x c.in-Ok.k number.0 number.1)

pub returns-in-Err : goal.returns-in-Err
returns-in-Err g c =
    rw (← c.self.view_is)
    (takes_not_found (contains nat_cmp c.self.inside.asked) c.self.inside.port.closures c.args.k c.args.x c.self.invariant.of_port.count (rw (to_z-of_z c.ranges.k) at c.in-Err.ensures))
