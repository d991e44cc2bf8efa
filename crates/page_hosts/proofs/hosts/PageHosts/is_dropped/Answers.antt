use Rattle.std.proofs.Common.{ap, sym, ◌∙◌, not, nat_cmp}
use Rattle.std.specs.BTreeSet.{contains}
use Rattle.page_hosts.proofs.HostLemmas.{unfired_is, undropped_is}
use Rattle.page_hosts.proofs.hosts.PageHosts.is_dropped.Goals as goal

pub returns : goal.returns
returns g c =
    let asked = contains nat_cmp c.self.inside.asked in
    let cs = c.self.inside.port.closures in
    rw (← c.self.view_is)
    (ap not (c.live.ensures ∙ sym (undropped_is asked cs c.args.k (unfired_is asked cs c.args.k c.self.invariant.of_port (rw (← c.self.view_is) at c.requires)))))
