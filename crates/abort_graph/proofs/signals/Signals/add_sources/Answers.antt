use Rattle.std.proofs.Common.{◌+◌, drop, sym, ap, ◌∙◌}
use Rattle.std.proofs.lemmas.List.{at_drop_more}
use Rattle.page_parts.specs.AbortGraph as parts
use Rattle.abort_graph.proofs.signals.Signals.add_sources.Goals as goal

pub loop-source-preserved : goal.loop-source-preserved
loop-source-preserved g c =
    let sources = c.sources-sources.result.now in
    let i = c.loop-source.source-index in
    ap (λ known. parts.and_new known (drop (i + 1) sources)) c.in_ok-add.ensures.ok
    ∙ sym (at_drop_more (parts.and_new c.loop-source.known) sources i 0 c.loop-source-test.true)
    ∙ c.loop-source.invariant
