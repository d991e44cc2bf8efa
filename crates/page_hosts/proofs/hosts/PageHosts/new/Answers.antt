use Rattle.std.proofs.Common.{List, ap, nat_cmp}
use Rattle.std.specs.List.{list_any}
use Rattle.std.specs.BTreeMap.{is_at}
use Rattle.std.specs.BTreeSet.{contains}
use Rattle.host_jobs.proofs.OverlayLemmas.{none_is}
use Rattle.page_parts.specs.HostClosures.{HostClosure}
use Rattle.page_hosts.specs.Hosts.{Hosts}
use Rattle.page_hosts.proofs.hosts.PageHosts.new.Goals as goal

pub returns-clause-first : goal.returns-clause-first
returns-clause-first g c =
    let cs = g.P.HostPort.closures c.args.port in
    let seen : List HostClosure → Hosts = λ hosts. record { closures = hosts; at_port = cs; kept = g.P.HostPort.kept c.args.port; refusals = g.P.HostPort.refusals c.args.port } in
    rw c.in_ok-new.ensures.ok
    (ap seen (none_is (contains nat_cmp c.new-2.result) cs (λ k. ap (list_any (is_at (nat_cmp k))) c.new-2.ensures.empty)))
