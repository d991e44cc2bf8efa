use Rattle.std.proofs.Common.{ap, sym, ◌∙◌, ◌&&◌, not}
use Rattle.page_hosts.specs.Deferred.{is_given_up}
use Rattle.page_hosts.proofs.DeferredLemmas.{live_is}
use Rattle.page_hosts.proofs.deferred.DeferredPort.live.Goals as goal

pub returns-then-live : goal.returns-then-live
returns-then-live g c =
    let bs = c.self.inside.given_up.items in
    rw (← c.self.view_is)
    (ap not (rw c.deref.ensures.value at c.is_marked.ensures) ∙ sym (live_is bs (g.P.HostPort.closures c.self.inside.port) c.args.k ∙ ap (λ b. b && not (is_given_up bs c.args.k)) (sym c.live.ensures ∙ c.if-live.true)))

pub returns-else-live : goal.returns-else-live
returns-else-live g c =
    let bs = c.self.inside.given_up.items in
    rw (← c.self.view_is)
    (c.if-live.false ∙ sym (live_is bs (g.P.HostPort.closures c.self.inside.port) c.args.k ∙ ap (λ b. b && not (is_given_up bs c.args.k)) (sym c.live.ensures ∙ c.if-live.false)))
