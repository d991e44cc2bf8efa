use Rattle.std.proofs.Common.{◌∙◌, sym}
use Rattle.page_hosts.proofs.DeferredLemmas.{all_dropped, all_seen}
use Rattle.page_hosts.proofs.deferred.DeferredPort.into_port.Goals as goal

pub returns-clause-closures : goal.returns-clause-closures
returns-clause-closures g c =
    let bs = c.deref-is_given_up-items.result.now in
    let cs = g.P.HostPort.closures c.self.inside.port in
    rw (← c.self.view_is, ← c.deref-is_given_up-items.ensures.value)
    (sym (all_seen bs (g.P.HostPort.closures c.loop-k.port) c.loop-k.k c.loop-k-test.false) ∙ c.loop-k.invariant.0 ∙ all_dropped bs cs)
