-- What the part is seen as, call by call.
use Rattle.std.proofs.Common.{◌≡◌, ℕ, zero, suc, ◌<◌, List, [], ◌∷◌, length, map, refl, ap, sym, ◌∙◌, arith}
use Rattle.std.specs.Prelude.{slice_index_or}
use Rattle.page_types.specs.Values.{Value}
use Rattle.page_values.specs.declared.Value as code_values
use Rattle.page_values.specs.Seen.{seen}
use Rattle.page_parts.specs.AbortGraph.{SignalRecord, Signals, the_signal}
use Rattle.abort_graph.specs.ByValue.{by_value, value_in}
use Rattle.abort_graph.proofs.ByValueLemmas.{signal_by}
use Rattle.page_folds.specs.declared.folds.Folds.{Folds}
use Rattle.page_signals.specs.declared.opened.Open as code
use Rattle.page_signals.specs.Signalling.{Signalling, on_signals}
use Rattle.page_signals.specs.Seen.{signalling_seen}

-- signals that are changed by the same function as those that are seen
pub signals-view : (reasons : List code_values.Value) (folds : Folds) (opened : List code.Open) (old : Signalling) (ss : Signals ℕ) (f : Signals Value → Signals Value)
    → by_value (value_in (map seen reasons)) ss ≡ f (by_value (value_in (map seen reasons)) folds.signals)
    → signalling_seen reasons folds opened ≡ old
    → signalling_seen reasons (record folds { signals = ss }) opened ≡ on_signals f old
signals-view reasons folds opened old ss f same view =
    ap (λ (x : Signals Value). record (signalling_seen reasons folds opened) { signals = x }) same ∙ ap (on_signals f) view

-- the algorithms of a signal
pub algorithms-view : (reasons : List code_values.Value) (folds : Folds) (opened : List code.Open) (old : Signalling) (s : ℕ)
    → signalling_seen reasons folds opened ≡ old → (the_signal folds.signals s).algorithms ≡ (the_signal old.signals s).algorithms
algorithms-view reasons folds opened old s view =
    sym (ap (λ (q : SignalRecord Value). q.algorithms) (signal_by (value_in (map seen reasons)) folds.signals s))
    ∙ ap (λ (st : Signalling). (the_signal st.signals s).algorithms) view

-- the value of a reason that is there
pub value-at : (reasons : List code_values.Value) (k : ℕ) (d : code_values.Value) → k < length reasons
    → value_in (map seen reasons) k ≡ seen (slice_index_or reasons k d)
value-at [] k d less = absurd (omega arith)
value-at (v ∷ reasons) zero d less = refl
value-at (v ∷ reasons) (suc k) d less = value-at reasons k d (omega arith)
