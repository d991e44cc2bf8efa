use Rattle.std.proofs.Common.{length, map, reverse, ap, sym, subst, ◌∙◌}
use Rattle.std.proofs.lemmas.List.{length-reverse}
use Rattle.page_values.specs.Seen.{seen}
use Rattle.page_folds.specs.Seen.{standing}
use Rattle.page_signals.specs.Signalling.{Signalling}
use Rattle.page_signals.specs.Kept.{AreFitting}
use Rattle.page_signals.proofs.FitLemmas.{kept-fits, opened-count}
use Rattle.page_signals.proofs.signals.PageSignals.open_count.Goals as goal

pub returns-clause-count : goal.returns-clause-count
returns-clause-count c =
    let a = c.self.inside in
    let n = length a.reasons.items in
    let values = map seen a.reasons.items in
    c.len.ensures ∙ a.opened.ok.0
    ∙ sym (opened-count n values (reverse a.opened.items) (standing a.folds) c.self.invariant ∙ length-reverse a.opened.items)
    ∙ ap (λ (st : Signalling). length st.folds) c.self.view_is

pub returns-clause-fit : goal.returns-clause-fit
returns-clause-fit c =
    let a = c.self.inside in
    subst AreFitting c.self.view_is
    (kept-fits (length a.reasons.items) (map seen a.reasons.items) (reverse a.opened.items) (standing a.folds) c.self.invariant)
