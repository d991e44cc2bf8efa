use Rattle.std.proofs.Common.{arith, ap, List}
use Rattle.page_parts.specs.HostClosures.{HostClosure}
use Rattle.page_hosts.specs.Hosts.{Hosts}
use Rattle.page_hosts.proofs.DeferredLemmas.{given_up_is, none_there}
use Rattle.page_hosts.proofs.deferred.DeferredPort.give_up.Goals as goal

pub returns-then-index-len : goal.returns-then-index-len
returns-then-index-len g c =
    let cs = g.P.HostPort.closures c.self.inside.port in
    let seen : List HostClosure → Hosts = λ hosts. record { closures = hosts; at_port = cs; kept = g.P.HostPort.kept c.self.inside.port; refusals = g.P.HostPort.refusals c.self.inside.port } in
    rw (← c.self.view_is) (ap seen (given_up_is c.self.inside.given_up.items cs c.args.k (omega (arith, c.len.ensures, c.if-index-len.true))))

pub returns-else-index-len : goal.returns-else-index-len
returns-else-index-len g c =
    let cs = g.P.HostPort.closures c.self.inside.port in
    let seen : List HostClosure → Hosts = λ hosts. record { closures = hosts; at_port = cs; kept = g.P.HostPort.kept c.self.inside.port; refusals = g.P.HostPort.refusals c.self.inside.port } in
    rw (← c.self.view_is) (ap seen (none_there c.self.inside.given_up.items cs c.args.k (omega (arith, c.len.ensures, c.if-index-len.false, c.self.invariant.all))))
