use Rattle.std.proofs.Common.{ℕ, length, reverse, subst, sym, ap, map, ◌∙◌, arith}
use Rattle.page_parts.specs.AbortGraph.{Signals, any}
use Rattle.abort_graph.specs.ByValue.{by_value, value_in}
use Rattle.abort_graph.proofs.AmongLemmas.{any_among}
use Rattle.abort_graph.proofs.ByValueLemmas.{any_by}
use Rattle.page_folds.specs.Seen.{standing}
use Rattle.page_values.specs.Seen.{seen}
use Rattle.page_signals.specs.Kept.{IsKept}
use Rattle.page_signals.proofs.GraphLemmas.{later-any, well-any}
use Rattle.page_signals.proofs.KeptLemmas.{kept-signals}
use Rattle.page_signals.proofs.ViewLemmas.{signals-view}
use Rattle.page_signals.proofs.signals.PageSignals.any.Goals as goal

pub invariant_of-self-2 : goal.invariant_of-self-2
invariant_of-self-2 c =
    let st = standing c.self.inside.folds in
    let n = length c.self.inside.reasons.items in
    let os = reverse c.self.inside.opened.items in
    let ss = st.parts.signals in
    let of = c.args.of.now in
    let P : Signals ℕ → Type 0 = λ new. IsKept n (record st { parts = record st.parts { signals = new } }) os in
    subst P (sym c.in_ok-any.ensures.made)
    (kept-signals n n st os (any of ss) (omega arith) (later-any of ss) (any_among n ss of c.self.invariant.among) (well-any of ss c.self.invariant.sound) c.self.invariant)

pub returns-clause-made : goal.returns-clause-made
returns-clause-made c =
    let values = map seen c.self.inside.reasons.items in
    let ss = c.self.inside.folds.signals in
    let of = c.args.of.now in
    signals-view c.self.inside.reasons.items c.self.inside.folds c.self.inside.opened.items c.args.self.now c.any.new.self (any of)
    (ap (by_value (value_in values)) c.in_ok-any.ensures.made ∙ any_by (value_in values) ss of) c.self.view_is
