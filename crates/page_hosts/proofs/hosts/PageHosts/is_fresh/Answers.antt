use Rattle.std.proofs.Common.{ap, sym, ◌∙◌, not, ◌&&◌, nat_cmp}
use Rattle.std.specs.BTreeSet.{contains}
use Rattle.page_hosts.proofs.HostLemmas.{fresh_is}
use Rattle.page_hosts.proofs.hosts.PageHosts.is_fresh.Goals as goal

pub returns-then-live : goal.returns-then-live
returns-then-live g c =
    let asked = contains nat_cmp c.self.inside.asked in
    rw (← c.self.view_is)
    (ap not c.contains.ensures ∙ sym (fresh_is asked c.self.inside.port.closures c.args.k ∙ ap (λ b. b && not (asked c.args.k)) (sym c.live.ensures ∙ c.if-live.true)))

pub returns-else-live : goal.returns-else-live
returns-else-live g c =
    let asked = contains nat_cmp c.self.inside.asked in
    rw (← c.self.view_is)
    (c.if-live.false ∙ sym (fresh_is asked c.self.inside.port.closures c.args.k ∙ ap (λ b. b && not (asked c.args.k)) (sym c.live.ensures ∙ c.if-live.false)))
