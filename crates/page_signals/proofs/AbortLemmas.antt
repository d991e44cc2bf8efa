-- How an abort and a change are opened.
use Rattle.std.proofs.Common.{◌≡◌, ℕ, ◌-◌, ◌<◌, ◌≤◌, cond, List, [], ◌∷◌, ◌++◌, length, map, reverse, Option, Some, None, inl, inr, refl, ap, sym, subst, ◌∙◌, arith, length-append}
use Rattle.std.proofs.lemmas.List.{reverse-append}
use Rattle.std.specs.Prelude.{unwrap_or, option_map, filter, not}
use Rattle.std.specs.Option.{IfSome}
use Rattle.page_types.specs.Values.{Value, UnitValue}
use Rattle.page_types.specs.declared.Priority.{Priority}
use Rattle.page_values.specs.declared.Value as code_values
use Rattle.page_values.specs.Seen.{seen}
use Rattle.page_parts.specs.Words.{is_there}
use Rattle.page_parts.specs.AbortGraph.{Signals, the_signal, reason_of, is_aborted, marked, with_reason}
use Rattle.page_parts.specs.TaskSignals.{followers, begun}
use Rattle.page_model.specs.Folds.{EndChange}
use Rattle.abort_graph.specs.ByValue.{by_value, value_in, AreAmong}
use Rattle.abort_graph.proofs.AmongLemmas.{of_signal, more_among, reasons_among}
use Rattle.abort_graph.proofs.ByValueLemmas.{count_by_value, reason_by, marked_by, with_reason_by}
use Rattle.page_folds.specs.declared.folds.Folds.{Folds}
use Rattle.page_folds.specs.Seen.{standing}
use Rattle.page_folds.specs.Steps.{Standing, abort_fold, abort_begun, change_fold, change_begun}
use Rattle.page_folds.specs.Steps as folds
use Rattle.page_folds.specs.OfModel.{OfAbort}
use Rattle.page_signals.specs.declared.opened.Kind.{Kind}
use Rattle.page_signals.specs.declared.opened.Kind.TheVariants.{Abort, Change}
use Rattle.page_signals.specs.declared.opened.Open as code
use Rattle.page_signals.specs.Signalling.{Signalling, with_parts}
use Rattle.page_signals.specs.Steps.{reason_at, reason_set, abort_opened}
use Rattle.page_signals.specs.Made.{IsNumbered}
use Rattle.page_signals.specs.Seen.{when_seen, opens_of, signalling_seen}
use Rattle.page_signals.specs.declared.opened.WhenReported as code_when
use Rattle.page_signals.specs.declared.opened.WhenReported.TheVariants as when
use Rattle.page_signals.specs.Kept.{HaveReason, RestFits, StageFits, IsKept}
use Rattle.page_signals.proofs.GraphLemmas.{later-marked, well-reasons, marked-have}
use Rattle.page_signals.proofs.PrioLemmas.{still-begun, followers-begun, can-follow, all-still}
use Rattle.page_signals.proofs.KeptLemmas.{kept-signals, kept-prios, kept-opened}
use Rattle.page_signals.proofs.StepLemmas.{seen_by}
use Rattle.page_signals.proofs.PushLemmas.{next-at, further-view}

-- ---- what is kept

pub change-kept : (n : ℕ) (st : Standing ℕ) (os : List code.Open) (s : ℕ) (priority before : Priority) (o : code.Open) → o.kind ≡ Change priority before
    → IsKept n st os
    → IsKept n (record { parts = change_begun s priority st.parts; folds = change_fold s priority before st.parts ∷ st.folds }) (o ∷ os)
change-kept n st os s priority before o e kept =
    let ps = st.parts.prios in
    let new = begun s priority ps in
    let still = still-begun s priority ps in
    let fold = change_fold s priority before st.parts in
    let then : Standing ℕ = record st { parts = change_begun s priority st.parts } in
    let have = all-still ps new (followers ps s) still (kept.followers s) in
    let P : Kind → Type 0 = λ kind. RestFits n then.parts kind fold.rest × StageFits kind fold.stage in
    let own : P (Change priority before) = ((refl, can-follow new (length ps - 1) (followers ps s) (EndChange s ∷ []) have tt), tt) in
    let fits = subst P (sym e) own in
    kept-opened n then os o fold fits.0 fits.1 (kept-prios n st os new still (followers-begun s priority ps kept.followers) kept)

pub reason-kept : (n m number s : ℕ) (st : Standing ℕ) (os : List code.Open) → n ≤ m → number < m → IsKept n st os
    → IsKept m (record st { parts = folds.reason_set s number st.parts }) os
reason-kept n m number s st os le less kept =
    let ss = st.parts.signals in
    kept-signals n m st os (with_reason number (marked s ss) ss) le (later-marked number s ss)
    (reasons_among m (marked s ss) ss number less (more_among n ss m le kept.among)) (well-reasons number (marked s ss) ss kept.sound) kept

pub abort-kept : (n m number s : ℕ) (st : Standing ℕ) (os : List code.Open) (o : code.Open) → n ≤ m → number < m → (0 < s) × (s ≤ length st.parts.signals)
    → o.kind ≡ Abort number → IsKept n st os → IsKept m (abort_begun s number st) (o ∷ os)
abort-kept n m number s st os o le less made e kept =
    let ss = st.parts.signals in
    let fold = abort_fold (marked s ss) in
    let then : Standing ℕ = record st { parts = folds.reason_set s number st.parts } in
    let P : Kind → Type 0 = λ kind. RestFits m then.parts kind fold.rest × StageFits kind fold.stage in
    let own : P (Abort number) = ((less, marked-have number s ss kept.sound made), tt) in
    let fits = subst P (sym e) own in
    kept-opened m then os o fold fits.0 fits.1 (reason-kept n m number s st os le less kept)

-- ---- the number of a reason

pub numbered-below : (s : ℕ) (ss : Signals ℕ) (old new : List code_values.Value) (reason : code_values.Value) (number : ℕ) → IsNumbered s ss old reason number new
    → AreAmong (length old) ss → (length old ≤ length new) × (number < length new)
numbered-below s ss old new reason number (inl h) among =
    let P : Option ℕ → Type 0 = λ o. IfSome o (λ r. r < length old) in
    let less : number < length old = subst P h.0 (of_signal (length old) ss s among) in
    (omega (arith, ap length h.1), omega (arith, less, ap length h.1))
numbered-below s ss old new reason number (inr h) among =
    (omega (arith, ap length h.2, length-append old (reason ∷ [])), omega (arith, h.1, ap length h.2, length-append old (reason ∷ [])))

marked-own : (s number : ℕ) (ss : Signals ℕ) → reason_of ss s ≡ Some number → marked s ss ≡ []
marked-own s number ss e = ap (λ o. cond (is_there o) [] (s ∷ filter (λ d. not (is_aborted ss d)) (the_signal ss s).dependents)) e

marked-next : (s : ℕ) (ss : Signals ℕ) → reason_of ss s ≡ None → marked s ss ≡ s ∷ filter (λ d. not (is_aborted ss d)) (the_signal ss s).dependents
marked-next s ss e = ap (λ o. cond (is_there o) [] (s ∷ filter (λ d. not (is_aborted ss d)) (the_signal ss s).dependents)) e

-- ---- what is seen

-- the signals on which the reason was set, as they are seen
abbrev IsSet : List Value → (number s : ℕ) → Signals ℕ → Value → Type 0
IsSet values number s ss v =
    by_value (value_in values) (with_reason number (marked s ss) ss)
    ≡ with_reason v (marked s (by_value (value_in values) ss)) (by_value (value_in values) ss)

set-own : (values : List Value) (number s : ℕ) (ss : Signals ℕ) (v : Value) → marked s ss ≡ [] → IsSet values number s ss v
set-own values number s ss v none =
    let f = value_in values in
    ap (λ (ms : List ℕ). by_value f (with_reason number ms ss)) none
    ∙ ap (λ (ms : List ℕ). with_reason v ms (by_value f ss)) (sym (marked_by f ss s ∙ none))

set-next : (values : List Value) (number s : ℕ) (ss : Signals ℕ) (v : Value) → value_in values number ≡ v → IsSet values number s ss v
set-next values number s ss v at =
    let f = value_in values in
    with_reason_by f number (marked s ss) ss
    ∙ ap (λ (w : Value). with_reason w (marked s ss) (by_value f ss)) at
    ∙ ap (λ (ms : List ℕ). with_reason v ms (by_value f ss)) (sym (marked_by f ss s))

set-view : (values : List Value) (number s : ℕ) (os : List code.Open) (st : Standing ℕ) (v : Value) → IsSet values number s st.parts.signals v
    → seen_by values os (record st { parts = folds.reason_set s number st.parts }) ≡ reason_set s v (seen_by values os st)
set-view values number s os st v set =
    ap (λ (qs : Signals Value). with_parts (record { listeners = st.parts.listeners; signals = qs; prios = st.parts.prios }) (opens_of values os st.folds)) set

opened-view : (values : List Value) (number s : ℕ) (os : List code.Open) (st : Standing ℕ) (v : Value) → IsSet values number s st.parts.signals v
    → reason_of (with_reason number (marked s st.parts.signals) st.parts.signals) s ≡ Some number
    → seen_by values (record { kind = Abort number; when = when.Never } ∷ os) (abort_begun s number st) ≡ abort_opened s v (seen_by values os st)
opened-view values number s os st v set own =
    let f = value_in values in
    let ss = st.parts.signals in
    let done = with_reason number (marked s ss) ss in
    let opens = opens_of values os st.folds in
    let all : Signals Value → Value → List ℕ → Signalling = λ qs w ms.
    with_parts (record { listeners = st.parts.listeners; signals = qs; prios = st.parts.prios })
    (record { kind = OfAbort w; when = when_seen when.Never; fold = abort_fold ms } ∷ opens) in
    let now = with_reason v (marked s (by_value f ss)) (by_value f ss) in
    let at : f number ≡ reason_at now s =
    sym (ap (λ (o : Option Value). unwrap_or o UnitValue) (reason_by f done s ∙ ap (option_map f) own)) ∙ ap (λ (qs : Signals Value). reason_at qs s) set in
    ap (λ (qs : Signals Value). all qs (f number) (marked s ss)) set
    ∙ ap (λ (w : Value). all now w (marked s ss)) at
    ∙ ap (all now (reason_at now s)) (sym (marked_by f ss s))

-- the reason of an abort, which is the signal's own one, or the next: with what is seen of both
pub record IsOpened (s number : ℕ) (v : Value) (new : List code_values.Value) (os : List code.Open) (st : Standing ℕ) (old : Signalling) : Type 0 where
  pub set : seen_by (map seen new) os (record st { parts = folds.reason_set s number st.parts }) ≡ reason_set s v old
  pub opened : seen_by (map seen new) (record { kind = Abort number; when = when.Never } ∷ os) (abort_begun s number st) ≡ abort_opened s v old
  pub same : seen_by (map seen new) os st ≡ old

pub numbered-view : (s number : ℕ) (reasons new : List code_values.Value) (reason : code_values.Value) (changed : Folds) (opened : List code.Open) (old : Signalling)
    → IsNumbered s (standing changed).parts.signals reasons reason number new → (0 < s) × (s ≤ length (standing changed).parts.signals)
    → IsKept (length reasons) (standing changed) (reverse opened) → signalling_seen reasons changed opened ≡ old
    → IsOpened s number (seen reason) new (reverse opened) (standing changed) old
numbered-view s number reasons new reason changed opened old (inl h) made kept view =
    let st = standing changed in
    let os = reverse opened in
    let ss = st.parts.signals in
    let v = seen reason in
    let values = map seen new in
    let none = marked-own s number ss h.0 in
    let set = set-own values number s ss v none in
    let own : reason_of (with_reason number (marked s ss) ss) s ≡ Some number = ap (λ (ms : List ℕ). reason_of (with_reason number ms ss) s) none ∙ h.0 in
    let same : seen_by values os st ≡ old = ap (λ (rs : List code_values.Value). seen_by (map seen rs) os st) h.1 ∙ view in
    record {
      set = set-view values number s os st v set ∙ ap (reason_set s v) same;
      opened = opened-view values number s os st v set own ∙ ap (abort_opened s v) same;
      same = same;
    }
numbered-view s number reasons new reason changed opened old (inr h) made kept view =
    let st = standing changed in
    let os = reverse opened in
    let ss = st.parts.signals in
    let v = seen reason in
    let values = map seen new in
    let at : value_in values number ≡ v = ap (value_in values) h.1 ∙ ap (λ (rs : List code_values.Value). value_in (map seen rs) (length reasons)) h.2 ∙ next-at reasons reason in
    let set = set-next values number s ss v at in
    let P : List ℕ → Type 0 = HaveReason number (with_reason number (marked s ss) ss) in
    let own = subst P (marked-next s ss h.0) (marked-have number s ss kept.sound made) in
    let same : seen_by values os st ≡ old = ap (λ (rs : List code_values.Value). seen_by (map seen rs) os st) h.2 ∙ further-view reasons reason changed opened kept ∙ view in
    record {
      set = set-view values number s os st v set ∙ ap (reason_set s v) same;
      opened = opened-view values number s os st v set own.0 ∙ ap (abort_opened s v) same;
      same = same;
    }

-- the open folds with the one that was put behind them
pub pushed-seen : (values : List Value) (number : ℕ) (new then : Standing ℕ) (after left : List code.Open) (o : code.Open) → after ≡ left ++ o ∷ [] → o.kind ≡ Abort number
    → o.when ≡ when.Never → new ≡ then
    → seen_by values (reverse after) new ≡ seen_by values (record { kind = Abort number; when = when.Never } ∷ reverse left) then
pushed-seen values number new then after left o e kind never same =
    ap (λ (os : List code.Open). seen_by values os new) (ap reverse e ∙ reverse-append left (o ∷ []))
    ∙ ap (λ (k : Kind). seen_by values (record { kind = k; when = o.when } ∷ reverse left) new) kind
    ∙ ap (λ (w : code_when.WhenReported). seen_by values (record { kind = Abort number; when = w } ∷ reverse left) new) never
    ∙ ap (seen_by values (record { kind = Abort number; when = when.Never } ∷ reverse left)) same

-- a signal that was made, by the signals with numbers
pub made-seen : (reasons : List code_values.Value) (changed : Folds) (opened : List code.Open) (old : Signalling) (s : ℕ) → signalling_seen reasons changed opened ≡ old
    → (0 < s) × (s ≤ length old.signals) → (0 < s) × (s ≤ length changed.signals)
made-seen reasons changed opened old s view made =
    (made.0, omega (arith, made.1, ap (λ (st : Signalling). length st.signals) view, count_by_value (value_in (map seen reasons)) changed.signals))

-- more reasons keep what is kept
pub more-kept : (n m : ℕ) (st : Standing ℕ) (os : List code.Open) → n ≤ m → IsKept n st os → IsKept m st os
more-kept n m st os le kept =
    kept-signals n m st os st.parts.signals le (λ s r h. h) (more_among n st.parts.signals m le kept.among) kept.sound kept
