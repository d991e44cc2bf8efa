-- A further reason.
use Rattle.std.proofs.Common.{◌≡◌, ℕ, zero, suc, ◌<◌, List, [], ◌∷◌, ◌++◌, length, map, reverse, refl, ap, sym, subst, ◌∙◌, arith, length-append}
use Rattle.std.proofs.lemmas.List.{length-map, map-append}
use Rattle.page_types.specs.Values.{Value}
use Rattle.page_values.specs.declared.Value as code_values
use Rattle.page_values.specs.Seen.{seen}
use Rattle.page_parts.specs.Words.{and_last}
use Rattle.page_parts.specs.AbortGraph.{Signals, marked}
use Rattle.page_model.specs.Folds.{Rest, AbortsLeft, ChangesLeft}
use Rattle.abort_graph.specs.ByValue.{by_value, value_in, AreAmong}
use Rattle.abort_graph.proofs.AmongLemmas.{more_among, next_value, further_value}
use Rattle.abort_graph.proofs.ByValueLemmas.{marked_by}
use Rattle.page_folds.specs.declared.folds.Folds.{Folds}
use Rattle.page_folds.specs.Steps.{Parts, OpenFold, Standing}
use Rattle.page_folds.specs.Seen.{open_of, standing}
use Rattle.page_folds.specs.OfModel as kinds
use Rattle.page_signals.specs.declared.opened.Kind.{Kind}
use Rattle.page_signals.specs.declared.opened.Kind.TheVariants.{Dispatch, Abort, Change}
use Rattle.page_signals.specs.declared.opened.Open as code
use Rattle.page_signals.specs.Signalling.{Open, Signalling, with_parts, on_signals}
use Rattle.page_signals.specs.Seen.{when_seen, kind_seen, opens_of, parts_seen, signalling_seen}
use Rattle.page_signals.specs.Kept.{RestFits, AreOpen, IsKept}
use Rattle.page_signals.proofs.GraphLemmas.{Later, AreWell}
use Rattle.page_signals.proofs.KeptLemmas.{kept-signals}
use Rattle.page_signals.proofs.ViewLemmas.{signals-view}

value-before : (values : List Value) (v : Value) (k : ℕ) → k < length values → value_in (and_last values v) k ≡ value_in values k
value-before [] v k less = absurd (omega arith)
value-before (x ∷ values) v zero less = refl
value-before (x ∷ values) v (suc k) less = value-before values v k (omega arith)

kind-further : (values : List Value) (v : Value) (ps : Parts ℕ) (kind : Kind) (rest : Rest) → RestFits (length values) ps kind rest
    → kind_seen (and_last values v) kind ≡ kind_seen values kind
kind-further values v ps (Dispatch args) rest fits = refl
kind-further values v ps (Abort r) (AbortsLeft left) fits = ap kinds.OfAbort (value-before values v r fits.0)
kind-further values v ps (Abort r) (ChangesLeft priority more) fits = absurd fits
kind-further values v ps (Change to before) rest fits = refl

opens-further : (values : List Value) (v : Value) (ps : Parts ℕ) (os : List code.Open) (folds : List OpenFold) → AreOpen (length values) ps os folds
    → opens_of (and_last values v) os folds ≡ opens_of values os folds
opens-further values v ps [] folds fit = refl
opens-further values v ps (o ∷ os) [] fit = refl
opens-further values v ps (o ∷ os) (fold ∷ folds) fit =
    let of_kind : kinds.Kind → Open = λ kind. record { kind = kind; when = when_seen o.when; fold = fold } in
    ap (λ (kind : kinds.Kind). of_kind kind ∷ opens_of (and_last values v) os folds) (kind-further values v ps o.kind fold.rest fit.0)
    ∙ ap (λ (more : List Open). of_kind (kind_seen values o.kind) ∷ more) (opens-further values v ps os folds fit.2)

-- a value behind those of reasons changes nothing
pub further-view : (reasons : List code_values.Value) (reason : code_values.Value) (folds : Folds) (opened : List code.Open)
    → IsKept (length reasons) (standing folds) (reverse opened)
    → signalling_seen (reasons ++ reason ∷ []) folds opened ≡ signalling_seen reasons folds opened
further-view reasons reason folds opened kept =
    let values = map seen reasons in
    let v = seen reason in
    let st = standing folds in
    let os = reverse opened in
    let count : length reasons ≡ length values = sym (length-map reasons seen) in
    let P : ℕ → Type 0 = λ n. IsKept n st os in
    let own = subst P count kept in
    let at : List Value → Signalling = λ vs. with_parts (parts_seen vs folds) (opens_of vs os (open_of folds)) in
    let more = opens_of (and_last values v) os (open_of folds) in
    ap at (map-append seen reasons (reason ∷ []))
    ∙ ap (λ (ss : Signals Value). with_parts (record { listeners = folds.listeners; signals = ss; prios = folds.prios }) more) (further_value values folds.signals v own.among)
    ∙ ap (λ (all : List Open). with_parts (parts_seen values folds) all) (opens-further values v st.parts os (open_of folds) own.folds)

-- and it is the one with the next number
pub next-at : (reasons : List code_values.Value) (reason : code_values.Value) → value_in (map seen (reasons ++ reason ∷ [])) (length reasons) ≡ seen reason
next-at reasons reason =
    let values = map seen reasons in
    ap (λ vs. value_in vs (length reasons)) (map-append seen reasons (reason ∷ []))
    ∙ ap (value_in (and_last values (seen reason))) (sym (length-map reasons seen))
    ∙ next_value values (seen reason)

-- signals that are changed with the next reason
pub pushed-view : (reasons new : List code_values.Value) (reason : code_values.Value) (folds : Folds) (opened : List code.Open) (old : Signalling) (ss : Signals ℕ)
    (f : Signals Value → Signals Value) → IsKept (length reasons) (standing folds) (reverse opened) → signalling_seen reasons folds opened ≡ old
    → new ≡ reasons ++ reason ∷ []
    → ((values : List Value) → value_in values (length reasons) ≡ seen reason → by_value (value_in values) ss ≡ f (by_value (value_in values) folds.signals))
    → signalling_seen new (record folds { signals = ss }) opened ≡ on_signals f old
pushed-view reasons new reason folds opened old ss f kept view e same =
    let all = reasons ++ reason ∷ [] in
    let changed : Folds = record folds { signals = ss } in
    ap (λ rs. signalling_seen rs changed opened) e
    ∙ signals-view all folds opened old ss f (same (map seen all) (next-at reasons reason)) (further-view reasons reason folds opened kept ∙ view)

pub kept-pushed : (reasons new : List code_values.Value) (reason : code_values.Value) (st : Standing ℕ) (os : List code.Open) (ss : Signals ℕ)
    → IsKept (length reasons) st os → new ≡ reasons ++ reason ∷ [] → Later st.parts.signals ss → AreWell ss
    → ((m : ℕ) → length reasons < m → AreAmong m st.parts.signals → AreAmong m ss)
    → IsKept (length new) (record st { parts = record st.parts { signals = ss } }) os
kept-pushed reasons new reason st os ss kept e later well among =
    let n = length reasons in
    let m = length new in
    let less : n < m = omega (arith, ap length e, length-append reasons (reason ∷ [])) in
    kept-signals n m st os ss (omega arith) later (among m less (more_among n st.parts.signals m (omega arith) kept.among)) well kept

-- the signals that an abort sets the reason on
pub marked-view : (reasons : List code_values.Value) (folds : Folds) (opened : List code.Open) (old : Signalling) (s : ℕ)
    → signalling_seen reasons folds opened ≡ old → marked s folds.signals ≡ marked s old.signals
marked-view reasons folds opened old s view =
    sym (marked_by (value_in (map seen reasons)) folds.signals s) ∙ ap (λ (st : Signalling). marked s st.signals) view
