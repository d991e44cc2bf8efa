use Rattle.std.proofs.Common.{ℕ, length, reverse, subst, sym, ap, map, ◌∙◌, arith}
use Rattle.page_parts.specs.Words.{and_last}
use Rattle.page_parts.specs.AbortGraph.{Signals, the_signal, add_algorithm}
use Rattle.abort_graph.specs.ByValue.{by_value, value_in}
use Rattle.abort_graph.proofs.AmongLemmas.{algorithms_among}
use Rattle.abort_graph.proofs.ByValueLemmas.{add_algorithm_by}
use Rattle.page_folds.specs.Seen.{standing}
use Rattle.page_values.specs.Seen.{seen}
use Rattle.page_signals.specs.Kept.{IsKept}
use Rattle.page_signals.proofs.GraphLemmas.{later-algorithms, well-add}
use Rattle.page_signals.proofs.KeptLemmas.{kept-signals}
use Rattle.page_signals.proofs.ViewLemmas.{signals-view}
use Rattle.page_signals.proofs.signals.PageSignals.add_algorithm.Goals as goal

pub invariant_of-self-2 : goal.invariant_of-self-2
invariant_of-self-2 c =
    let st = standing c.self.inside.folds in
    let n = length c.self.inside.reasons.items in
    let os = reverse c.self.inside.opened.items in
    let ss = st.parts.signals in
    let s = c.args.s in
    let r = c.args.r in
    let P : Signals ℕ → Type 0 = λ new. IsKept n (record st { parts = record st.parts { signals = new } }) os in
    subst P (sym (c.in_ok-add_algorithm.ensures.added ∙ ap (λ a. add_algorithm s a ss) c.from.ensures))
    (kept-signals n n st os (add_algorithm s r ss) (omega arith) (later-algorithms ss s (and_last (the_signal ss s).algorithms r))
    (algorithms_among n ss s (and_last (the_signal ss s).algorithms r) c.self.invariant.among) (well-add ss s r c.ranges.r.fits c.self.invariant.sound) c.self.invariant)

pub returns-clause-added : goal.returns-clause-added
returns-clause-added c =
    let values = map seen c.self.inside.reasons.items in
    let ss = c.self.inside.folds.signals in
    let s = c.args.s in
    signals-view c.self.inside.reasons.items c.self.inside.folds c.self.inside.opened.items c.args.self.now c.add_algorithm.new.self (add_algorithm s c.args.r)
    (ap (by_value (value_in values)) (c.in_ok-add_algorithm.ensures.added ∙ ap (λ a. add_algorithm s a ss) c.from.ensures) ∙ add_algorithm_by (value_in values) ss s c.args.r)
    c.self.view_is
