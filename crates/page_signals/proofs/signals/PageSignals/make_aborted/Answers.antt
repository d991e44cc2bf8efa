use Rattle.std.proofs.Common.{ℕ, [], ◌∷◌, ◌++◌, length, reverse, subst, sym, ap, ◌∙◌}
use Rattle.page_types.specs.Values.{Value}
use Rattle.page_values.specs.Seen.{seen}
use Rattle.page_parts.specs.AbortGraph.{Signals, make_aborted}
use Rattle.abort_graph.specs.ByValue.{by_value, value_in}
use Rattle.abort_graph.proofs.AmongLemmas.{aborted_among}
use Rattle.abort_graph.proofs.ByValueLemmas.{make_aborted_by}
use Rattle.page_folds.specs.Seen.{standing}
use Rattle.page_signals.specs.Kept.{IsKept}
use Rattle.page_signals.proofs.GraphLemmas.{later-aborted, well-aborted}
use Rattle.page_signals.proofs.PushLemmas.{kept-pushed, pushed-view}
use Rattle.page_signals.proofs.signals.PageSignals.make_aborted.Goals as goal

pub invariant_of-self-2 : goal.invariant_of-self-2
invariant_of-self-2 c =
    let items = c.self.inside.reasons.items in
    let reason = c.args.reason in
    let new = c.push_reserved.new.self.items in
    let st = standing c.self.inside.folds in
    let os = reverse c.self.inside.opened.items in
    let ss = st.parts.signals in
    let n = length items in
    let number = c.in_ok-number.ensures.number ∙ c.self.inside.reasons.ok.0 in
    let pushed = c.push_reserved.ensures.items ∙ ap (λ xs. xs ++ reason ∷ []) c.in_ok-number.ensures.items in
    let P : Signals ℕ → Type 0 = λ new_ss. IsKept (length new) (record st { parts = record st.parts { signals = new_ss } }) os in
    subst P (sym (c.in_ok-s.ensures.made ∙ ap (λ r. make_aborted r ss) number))
    (kept-pushed items new reason st os (make_aborted n ss) c.self.invariant pushed (later-aborted n ss) (well-aborted n ss c.self.invariant.sound)
    (λ m less among. aborted_among m ss n less among))

pub returns-clause-made : goal.returns-clause-made
returns-clause-made c =
    let items = c.self.inside.reasons.items in
    let reason = c.args.reason in
    let folds = c.self.inside.folds in
    let ss = folds.signals in
    let n = length items in
    let number = c.in_ok-number.ensures.number ∙ c.self.inside.reasons.ok.0 in
    let pushed = c.push_reserved.ensures.items ∙ ap (λ xs. xs ++ reason ∷ []) c.in_ok-number.ensures.items in
    let made = c.in_ok-s.ensures.made ∙ ap (λ r. make_aborted r ss) number in
    pushed-view items c.push_reserved.new.self.items reason folds c.self.inside.opened.items c.args.self.now c.make_aborted.new.self (make_aborted (seen reason))
    c.self.invariant c.self.view_is pushed
    (λ values at. ap (by_value (value_in values)) made ∙ make_aborted_by (value_in values) ss n
    ∙ ap (λ (v : Value). make_aborted v (by_value (value_in values) ss)) at)
