use Rattle.std.proofs.Common.{◌∙◌, sym, nat_cmp}
use Rattle.std.specs.BTreeSet.{contains}
use Rattle.page_hosts.proofs.HostLemmas.{asked_unfired, queued_asked}
use Rattle.page_hosts.proofs.hosts.PageHosts.is_asked.Goals as goal

pub returns-clause-unfired : goal.returns-clause-unfired
returns-clause-unfired g c =
    let asked = contains nat_cmp c.self.inside.asked in
    let cs = c.self.inside.port.closures in
    λ is. rw (← c.self.view_is) (asked_unfired asked cs c.args.k c.self.invariant (sym c.contains.ensures ∙ is))

pub returns-clause-queued : goal.returns-clause-queued
returns-clause-queued g c =
    let asked = contains nat_cmp c.self.inside.asked in
    let cs = c.self.inside.port.closures in
    λ found. c.contains.ensures ∙ queued_asked asked cs c.args.k c.self.invariant.of_port (rw (← c.self.view_is) at found)
