use Rattle.std.proofs.Common.{◌∙◌, sym}
use Rattle.std.proofs.Math.Facts.{to_z-of_z}
use Rattle.page_hosts.proofs.DeferredLemmas.{takes_is}
use Rattle.page_hosts.proofs.deferred.DeferredPort.fits.Goals as goal

pub returns : goal.returns
returns g c =
    rw (← c.self.view_is)
    ((rw (to_z-of_z c.ranges.x) at c.fits.ensures) ∙ sym (takes_is c.self.inside.given_up.items (g.P.HostPort.closures c.self.inside.port) c.args.k c.args.x))
