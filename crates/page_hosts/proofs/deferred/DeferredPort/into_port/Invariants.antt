use Rattle.std.proofs.Common.{◌≡◌, drop}
use Rattle.page_hosts.proofs.DeferredLemmas.{dropped_from}
use Rattle.page_hosts.proofs.deferred.DeferredPort.into_port.Given as goal

abbrev pub invariant-loop-k : goal.invariant-loop-k
invariant-loop-k g l =
    (dropped_from l.k (drop l.k l.is_given_up-items) (g.P.HostPort.closures l.port)
    ≡ dropped_from 0 l.is_given_up-items (g.P.HostPort.closures l.initial.port))
    × (g.P.HostPort.kept l.port ≡ g.P.HostPort.kept l.initial.port) × (g.P.HostPort.refusals l.port ≡ g.P.HostPort.refusals l.initial.port)
