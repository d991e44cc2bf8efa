use Rattle.std.proofs.Common.{◌≡◌, ℕ, ◌<◌, Option, Some, length, map, ap, sym, subst, ◌∙◌}
use Rattle.std.specs.Prelude.{option_map}
use Rattle.std.specs.Option.{IfSome, option_copied}
use Rattle.page_values.specs.Seen.{seen}
use Rattle.page_parts.specs.AbortGraph.{reason_of}
use Rattle.abort_graph.specs.ByValue.{value_in}
use Rattle.abort_graph.proofs.AmongLemmas.{of_signal}
use Rattle.abort_graph.proofs.ByValueLemmas.{reason_by}
use Rattle.page_signals.specs.Signalling.{Signalling}
use Rattle.page_signals.proofs.ViewLemmas.{value-at}
use Rattle.page_signals.proofs.signals.PageSignals.reason.Goals as goal

pub returns : goal.returns
returns c =
    let items = c.self.inside.reasons.items in
    let ss = c.self.inside.folds.signals in
    let s = c.args.s in
    let k = c.in_ok-number.field-0.now in
    let n = length items in
    let e : reason_of ss s ≡ Some k = sym c.reason.ensures ∙ ap option_copied c.in_ok-number.was in
    let P : Option ℕ → Type 0 = λ o. IfSome o (λ r. r < n) in
    let less : k < n = subst P e (of_signal n ss s c.self.invariant.among) in
    ap Some (ap seen c.index.ensures ∙ sym (value-at items k c.index.result.now less))
    ∙ sym (reason_by (value_in (map seen items)) ss s ∙ ap (option_map (value_in (map seen items))) e)
    ∙ ap (λ (st : Signalling). reason_of st.signals s) c.self.view_is
