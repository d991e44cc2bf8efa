use Rattle.std.proofs.Common.{ℕ, length, reverse, subst, sym, ap, map, ◌∙◌, ◌==◌, arith}
use Rattle.page_parts.specs.Words.{has_number, without}
use Rattle.page_parts.specs.AbortGraph.{Signals, the_signal, remove_algorithm}
use Rattle.abort_graph.specs.ByValue.{by_value, value_in}
use Rattle.abort_graph.proofs.AmongLemmas.{algorithms_among}
use Rattle.abort_graph.proofs.ByValueLemmas.{remove_algorithm_by}
use Rattle.page_folds.specs.Seen.{standing}
use Rattle.page_values.specs.Seen.{seen}
use Rattle.page_signals.specs.Kept.{IsKept}
use Rattle.page_signals.proofs.GraphLemmas.{later-algorithms, well-remove}
use Rattle.page_signals.proofs.KeptLemmas.{kept-signals}
use Rattle.page_signals.proofs.ViewLemmas.{signals-view, algorithms-view}
use Rattle.page_signals.proofs.signals.PageSignals.remove_algorithm.Goals as goal

pub invariant_of-self : goal.invariant_of-self
invariant_of-self c =
    let st = standing c.self.inside.folds in
    let n = length c.self.inside.reasons.items in
    let os = reverse c.self.inside.opened.items in
    let ss = st.parts.signals in
    let s = c.args.s in
    let r = c.args.r in
    let left = without (λ b. b == r) (the_signal ss s).algorithms in
    let P : Signals ℕ → Type 0 = λ new. IsKept n (record st { parts = record st.parts { signals = new } }) os in
    subst P (sym (c.remove_algorithm.ensures.gone ∙ ap (λ a. remove_algorithm s a ss) c.from.ensures))
    (kept-signals n n st os (remove_algorithm s r ss) (omega arith) (later-algorithms ss s left)
    (algorithms_among n ss s left c.self.invariant.among) (well-remove ss s r c.self.invariant.sound) c.self.invariant)

pub returns-clause-was : goal.returns-clause-was
returns-clause-was c =
    let ss = c.self.inside.folds.signals in
    let s = c.args.s in
    c.remove_algorithm.ensures.was
    ∙ ap (has_number (the_signal ss s).algorithms) c.from.ensures
    ∙ ap (λ as'. has_number as' c.args.r) (algorithms-view c.self.inside.reasons.items c.self.inside.folds c.self.inside.opened.items c.args.self.now s c.self.view_is)

pub returns-clause-gone : goal.returns-clause-gone
returns-clause-gone c =
    let values = map seen c.self.inside.reasons.items in
    let ss = c.self.inside.folds.signals in
    let s = c.args.s in
    signals-view c.self.inside.reasons.items c.self.inside.folds c.self.inside.opened.items c.args.self.now c.remove_algorithm.new.self (remove_algorithm s c.args.r)
    (ap (by_value (value_in values)) (c.remove_algorithm.ensures.gone ∙ ap (λ a. remove_algorithm s a ss) c.from.ensures) ∙ remove_algorithm_by (value_in values) ss s c.args.r)
    c.self.view_is
