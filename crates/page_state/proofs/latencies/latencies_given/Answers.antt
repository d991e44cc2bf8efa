use Rattle.std.proofs.Common.{nat_eq, ◌∙◌, sym}
use Rattle.indexmap.proofs.CallerLemmas.{insert_entry-new}
use Rattle.page_state.proofs.Waiting.{is-none, one-more}
use Rattle.page_state.proofs.latencies.latencies_given.Goals as goal

pub loop-host-preserved : goal.loop-host-preserved
loop-host-preserved c =
    let m = c.loop-host.latencies in
    let none = is-none _ (sym c.contains_key.ensures ∙ c.if-contains_key.false) in
    one-more m.entries c.args.hosts.now c.loop-host.host-index _ c.insert.new.self.entries c.loop-host-test.true
    (c.in-Ok.ensures.entries ∙ insert_entry-new nat_eq m _ _ none) c.loop-host.invariant
