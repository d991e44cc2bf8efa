use Rattle.std.proofs.Common.{List, ap, nat_cmp}
use Rattle.std.specs.BTreeSet.{contains}
use Rattle.page_parts.specs.HostClosures.{HostClosure}
use Rattle.page_hosts.specs.Hosts.{Hosts}
use Rattle.page_hosts.proofs.HostLemmas.{ask_is, asks_too, asked_held}
use Rattle.page_hosts.proofs.hosts.PageHosts.ask.Goals as goal

pub returns-clause-ok : goal.returns-clause-ok
returns-clause-ok g c =
    let asked = contains nat_cmp c.self.inside.asked in
    let now = contains nat_cmp c.insert.new.self in
    let cs = c.self.inside.port.closures in
    let seen : List HostClosure → Hosts = λ hosts. record { closures = hosts; at_port = c.self.inside.port.at_port; kept = c.self.inside.port.kept; refusals = c.self.inside.port.refusals } in
    rw (← c.self.view_is)
    (ap seen (ask_is asked now cs c.args.k (rw (← c.self.view_is) at c.requires) (asks_too c.args.k asked now c.in_ok-insert.ensures.updates.0)))

pub invariant_of-self-2 : goal.invariant_of-self-2
invariant_of-self-2 g c =
    asked_held (contains nat_cmp c.self.inside.asked) (contains nat_cmp c.insert.new.self) c.self.inside.port.closures c.args.k (rw (← c.self.view_is) at c.requires)
    c.in_ok-insert.ensures.updates.0 c.self.invariant
