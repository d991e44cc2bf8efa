-- The reasons of signals are among the values that a page has.
use Rattle.std.proofs.Common.{◌≡◌, ℕ, zero, suc, ◌<◌, ◌≤◌, List, [], ◌∷◌, Option, None, Some, refl, ap, arith}
use Rattle.std.specs.Prelude.{slice_get, slice_set, unwrap_or, option_map, length}
use Rattle.std.specs.Option.{IfSome}
use Rattle.page_types.specs.Values.{Value}
use Rattle.page_parts.specs.Words.{and_last, with_numbered}
use Rattle.page_parts.specs.AbortGraph.{SignalRecord, Signals, fresh_signal, the_signal, reason_of, make, make_aborted, first_reason, all_sources, with_dependent, depend_on, any, with_reason, with_algorithms}
use Rattle.abort_graph.specs.ByValue.{by_value, value_in, AreAmong, SameReasons}
use Rattle.abort_graph.proofs.ByValueLemmas.{same_by}

-- a reason, where there is one, is among the first n
abbrev IsAmong : ℕ → Option ℕ → Type 0
IsAmong n reason = IfSome reason (λ r. r < n)

module _ (n : ℕ) where
  -- ---- one signal

  at_place : (ss : Signals ℕ) (k : ℕ) → AreAmong n ss → IsAmong n (unwrap_or (slice_get ss k) fresh_signal).reason
  at_place [] k among = tt
  at_place (q ∷ ss) zero among = among.0
  at_place (q ∷ ss) (suc k) among = at_place ss k among.1

  pub of_signal : (ss : Signals ℕ) (s : ℕ) → AreAmong n ss → IsAmong n (reason_of ss s)
  of_signal ss zero among = tt
  of_signal ss (suc k) among = at_place ss k among

  -- ---- a signal at the end, and one that is changed

  last_among : (ss : Signals ℕ) (q : SignalRecord ℕ) → AreAmong n ss → IsAmong n q.reason → AreAmong n (and_last ss q)
  last_among [] q among here = (here, tt)
  last_among (p ∷ ss) q among here = (among.0, last_among ss q among.1 here)

  set_among : (ss : Signals ℕ) (k : ℕ) (q : SignalRecord ℕ) → AreAmong n ss → IsAmong n q.reason → AreAmong n (slice_set ss k q)
  set_among [] k q among here = tt
  set_among (p ∷ ss) zero q among here = (here, among.1)
  set_among (p ∷ ss) (suc k) q among here = (among.0, set_among ss k q among.1 here)

  with_among : (ss : Signals ℕ) (s : ℕ) (q : SignalRecord ℕ) → AreAmong n ss → IsAmong n q.reason → AreAmong n (with_numbered ss s q)
  with_among ss zero q among here = among
  with_among ss (suc k) q among here = set_among ss k q among here

  -- ---- the steps

  pub made_among : (ss : Signals ℕ) → AreAmong n ss → AreAmong n (make ss)
  made_among ss among = last_among ss fresh_signal among tt

  pub aborted_among : (ss : Signals ℕ) (r : ℕ) → r < n → AreAmong n ss → AreAmong n (make_aborted r ss)
  aborted_among ss r less among = last_among ss _ among less

  pub reasons_among : (signals : List ℕ) (ss : Signals ℕ) (r : ℕ) → r < n → AreAmong n ss → AreAmong n (with_reason r signals ss)
  reasons_among [] ss r less among = among
  reasons_among (s ∷ more) ss r less among =
      reasons_among more (with_numbered ss s (record (the_signal ss s) { reason = Some r })) r less (with_among ss s (record (the_signal ss s) { reason = Some r }) among less)

  pub algorithms_among : (ss : Signals ℕ) (s : ℕ) (as' : List ℕ) → AreAmong n ss → AreAmong n (with_algorithms s as' ss)
  algorithms_among ss s as' among = with_among ss s (record (the_signal ss s) { algorithms = as' }) among (of_signal ss s among)

  dependent_among : (d : ℕ) (sources : List ℕ) (ss : Signals ℕ) → AreAmong n ss → AreAmong n (with_dependent d sources ss)
  dependent_among d [] ss among = among
  dependent_among d (s ∷ more) ss among =
      let next = record (the_signal ss s) { dependents = and_last (the_signal ss s).dependents d } in
      dependent_among d more (with_numbered ss s next) (with_among ss s next among (of_signal ss s among))

  first_among : (ss : Signals ℕ) (of : List ℕ) → AreAmong n ss → IsAmong n (first_reason ss of)
  first_among ss [] among = tt
  first_among ss (s ∷ more) among = by (reason_of ss s) (of_signal ss s among) (first_among ss more among)
    where
      by : (o : Option ℕ) → IsAmong n o → IsAmong n (first_reason ss more) → IsAmong n (elim o as (λ _. Option ℕ) [ Some v ↦ Some v | None ↦ first_reason ss more ])
      by None here rest = rest
      by (Some v) here rest = here

  pub any_among : (ss : Signals ℕ) (of : List ℕ) → AreAmong n ss → AreAmong n (any of ss)
  any_among ss of among = by (first_reason ss of) (first_among ss of among)
    where
      by : (o : Option ℕ) → IsAmong n o → AreAmong n (elim o as (λ _. Signals ℕ) [ Some v ↦ make_aborted v ss | None ↦ depend_on (all_sources ss [] of) ss ])
      by (Some v) here = aborted_among ss v here among
      by None here =
          let sources = all_sources ss [] of in
          let made : Signals ℕ = and_last ss (record { reason = None; sources = sources; dependents = []; algorithms = [] }) in
          dependent_among (length made) sources made (last_among ss (record { reason = None; sources = sources; dependents = []; algorithms = [] }) among tt)

-- ---- values

more_reason : (n m : ℕ) (o : Option ℕ) → n ≤ m → IsAmong n o → IsAmong m o
more_reason n m None le here = tt
more_reason n m (Some r) le here = let less : r < n = here in omega arith

pub more_among : (n : ℕ) (ss : Signals ℕ) (m : ℕ) → n ≤ m → AreAmong n ss → AreAmong m ss
more_among n [] m le among = tt
more_among n (q ∷ ss) m le among = (more_reason n m q.reason le among.0, more_among n ss m le among.1)

value_before : (values : List Value) (v : Value) (k : ℕ) → k < length values → value_in (and_last values v) k ≡ value_in values k
value_before [] v k less = absurd (omega arith)
value_before (x ∷ values) v zero less = refl
value_before (x ∷ values) v (suc k) less = value_before values v k (omega arith)

pub next_value : (values : List Value) (v : Value) → value_in (and_last values v) (length values) ≡ v
next_value [] v = refl
next_value (x ∷ values) v = next_value values v

same_reason : (values : List Value) (v : Value) (o : Option ℕ) → IsAmong (length values) o → option_map (value_in (and_last values v)) o ≡ option_map (value_in values) o
same_reason values v None here = refl
same_reason values v (Some r) here = ap Some (value_before values v r here)

same_reasons : (values : List Value) (ss : Signals ℕ) (v : Value) → AreAmong (length values) ss → SameReasons (value_in (and_last values v)) (value_in values) ss
same_reasons values [] v among = tt
same_reasons values (q ∷ ss) v among = (same_reason values v q.reason among.0, same_reasons values ss v among.1)

pub further_value : (values : List Value) (ss : Signals ℕ) (v : Value) → AreAmong (length values) ss → by_value (value_in (and_last values v)) ss ≡ by_value (value_in values) ss
further_value values ss v among = same_by (value_in (and_last values v)) (value_in values) ss (same_reasons values ss v among)
