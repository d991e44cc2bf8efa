use Rattle.std.proofs.Common.{ℕ, List, [], ◌∷◌, ◌++◌, length, reverse, subst, sym, ap, ◌∙◌}
use Rattle.page_types.specs.Values.{Value}
use Rattle.page_values.specs.Seen.{seen}
use Rattle.page_parts.specs.AbortGraph.{Signals, marked, with_reason}
use Rattle.abort_graph.specs.ByValue.{by_value, value_in}
use Rattle.abort_graph.proofs.AmongLemmas.{reasons_among}
use Rattle.abort_graph.proofs.ByValueLemmas.{with_reason_by, marked_by}
use Rattle.page_folds.specs.Seen.{standing}
use Rattle.page_signals.specs.Kept.{IsKept}
use Rattle.page_signals.proofs.GraphLemmas.{later-marked, well-reasons}
use Rattle.page_signals.proofs.PushLemmas.{kept-pushed, pushed-view, marked-view}
use Rattle.page_signals.proofs.signals.PageSignals.abort_mark.Goals as goal

pub invariant_of-self-2 : goal.invariant_of-self-2
invariant_of-self-2 c =
    let items = c.self.inside.reasons.items in
    let reason = c.args.reason in
    let s = c.args.s in
    let new = c.push_reserved.new.self.items in
    let st = standing c.self.inside.folds in
    let os = reverse c.self.inside.opened.items in
    let ss = st.parts.signals in
    let n = length items in
    let number = c.in_ok-number.ensures.number ∙ c.self.inside.reasons.ok.0 in
    let pushed = c.push_reserved.ensures.items ∙ ap (λ xs. xs ++ reason ∷ []) c.in_ok-number.ensures.items in
    let P : Signals ℕ → Type 0 = λ new_ss. IsKept (length new) (record st { parts = record st.parts { signals = new_ss } }) os in
    subst P (sym (c.in_ok-marked.ensures.set ∙ ap (λ r. with_reason r (marked s ss) ss) number))
    (kept-pushed items new reason st os (with_reason n (marked s ss) ss) c.self.invariant pushed (later-marked n s ss)
    (well-reasons n (marked s ss) ss c.self.invariant.sound) (λ m less among. reasons_among m (marked s ss) ss n less among))

pub returns-clause-marked : goal.returns-clause-marked
returns-clause-marked c =
    c.into_signals.ensures ∙ c.in_ok-marked.ensures.marked
    ∙ marked-view c.self.inside.reasons.items c.self.inside.folds c.self.inside.opened.items c.args.self.now c.args.s c.self.view_is

pub returns-clause-set : goal.returns-clause-set
returns-clause-set c =
    let items = c.self.inside.reasons.items in
    let reason = c.args.reason in
    let s = c.args.s in
    let folds = c.self.inside.folds in
    let ss = folds.signals in
    let n = length items in
    let number = c.in_ok-number.ensures.number ∙ c.self.inside.reasons.ok.0 in
    let pushed = c.push_reserved.ensures.items ∙ ap (λ xs. xs ++ reason ∷ []) c.in_ok-number.ensures.items in
    let set = c.in_ok-marked.ensures.set ∙ ap (λ r. with_reason r (marked s ss) ss) number in
    let f : Signals Value → Signals Value = λ qs. with_reason (seen reason) (marked s qs) qs in
    pushed-view items c.push_reserved.new.self.items reason folds c.self.inside.opened.items c.args.self.now c.abort_mark.new.self f
    c.self.invariant c.self.view_is pushed
    (λ values at. ap (by_value (value_in values)) set ∙ with_reason_by (value_in values) n (marked s ss) ss
    ∙ ap (λ (v : Value). with_reason v (marked s ss) (by_value (value_in values) ss)) at
    ∙ ap (λ (ms : List ℕ). with_reason (seen reason) ms (by_value (value_in values) ss)) (sym (marked_by (value_in values) ss s)))
