use Rattle.std.proofs.Common.{◌≡◌}
use Rattle.std.specs.Prelude.{vec_len}
use Rattle.page_hosts.specs.Deferred.{given_up_in}
use Rattle.page_hosts.proofs.deferred.none_given_up.Given as goal

abbrev pub invariant-loop-k : goal.invariant-loop-k
invariant-loop-k g l = (vec_len l.given_up ≡ l.k) × (given_up_in l.given_up.items (g.P.HostPort.closures l.port) ≡ g.P.HostPort.closures l.port)
