use Rattle.std.proofs.Common.{sym, ◌∙◌, nat_cmp}
use Rattle.std.specs.BTreeSet.{contains}
use Rattle.page_hosts.proofs.HostLemmas.{unasked_is}
use Rattle.page_hosts.proofs.hosts.PageHosts.into_port.Goals as goal

pub returns-clause-closures : goal.returns-clause-closures
returns-clause-closures g c =
    rw (← c.self.view_is) (c.into_port.ensures.closures ∙ sym (unasked_is (contains nat_cmp c.self.inside.asked) c.self.inside.port.closures c.self.invariant.of_port.unqueued))
