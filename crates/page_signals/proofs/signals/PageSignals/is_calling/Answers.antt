use Rattle.std.proofs.Common.{length, map, reverse, ap, ◌∙◌}
use Rattle.page_values.specs.Seen.{seen}
use Rattle.page_folds.specs.Seen.{standing}
use Rattle.page_signals.specs.Signalling.{Signalling}
use Rattle.page_signals.specs.Steps.{is_calling_in}
use Rattle.page_signals.proofs.FitLemmas.{calling-seen}
use Rattle.page_signals.proofs.signals.PageSignals.is_calling.Goals as goal

pub returns : goal.returns
returns c =
    let a = c.self.inside in
    let st = standing a.folds in
    c.is_calling.ensures
    ∙ calling-seen (length a.reasons.items) (map seen a.reasons.items) (reverse a.opened.items) st c.self.invariant
    ∙ ap (λ (st : Signalling). is_calling_in st.folds) c.self.view_is
