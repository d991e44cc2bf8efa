use Rattle.std.proofs.Common.{List, ap, nat_cmp}
use Rattle.std.specs.BTreeSet.{contains}
use Rattle.page_parts.specs.HostClosures.{HostClosure}
use Rattle.page_hosts.specs.Hosts.{Hosts}
use Rattle.page_hosts.proofs.HostLemmas.{unfired_is, dropped_held, give_up_is}
use Rattle.page_hosts.proofs.hosts.PageHosts.drop_closure.Goals as goal

pub invariant_of-self : goal.invariant_of-self
invariant_of-self g c = rw c.give_up.ensures (dropped_held (contains nat_cmp c.self.inside.asked) c.self.inside.port.closures c.args.k c.self.invariant)

pub returns : goal.returns
returns g c =
    let asked = contains nat_cmp c.self.inside.asked in
    let cs = c.self.inside.port.closures in
    let unfired = unfired_is asked cs c.args.k c.self.invariant.of_port (rw (← c.self.view_is) at c.requires) in
    let seen : List HostClosure → Hosts = λ hosts. record { closures = hosts; at_port = c.self.inside.port.at_port; kept = c.self.inside.port.kept; refusals = c.self.inside.port.refusals } in
    rw (← c.self.view_is, c.give_up.ensures)
    (ap seen (give_up_is asked cs c.args.k unfired))
