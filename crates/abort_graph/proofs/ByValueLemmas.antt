-- Signals whose reasons are numbers, and those whose reasons are values.
use Rattle.std.proofs.Common.{◌≡◌, ℕ, zero, suc, cond, not, List, [], ◌∷◌, filter, Option, None, Some, refl, sym, ap, ◌∙◌}
use Rattle.std.specs.Prelude.{slice_get, unwrap_or, option_map, length, ◌==◌}
use Rattle.std.proofs.lemmas.Option.{slice_get-map}
use Rattle.std.proofs.lemmas.List.{map-set, map-append, length-map}
use Rattle.page_parts.specs.Words.{and_last, without, with_numbered, is_empty, is_there}
use Rattle.page_parts.specs.AbortGraph.{SignalRecord, Signals, fresh_signal, the_signal, reason_of, is_aborted, make, make_aborted, first_reason, sources_through, and_new, all_sources, with_dependent, depend_on, any, marked, with_reason, with_algorithms, add_algorithm, remove_algorithm}
use Rattle.abort_graph.specs.ByValue.{record_by, by_value, SameReasons}

module _ {A B : Type 0} (f : A → B) where
  pub count_by_value : (ss : Signals A) → length (by_value f ss) ≡ length ss
  count_by_value ss = length-map ss (record_by f)

  or_fresh : (o : Option (SignalRecord A)) → unwrap_or (option_map (record_by f) o) fresh_signal ≡ record_by f (unwrap_or o fresh_signal)
  or_fresh None = refl
  or_fresh (Some q) = refl

  -- each signal is the one of its number
  pub signal_by : (ss : Signals A) (s : ℕ) → the_signal (by_value f ss) s ≡ record_by f (the_signal ss s)
  signal_by ss zero = refl
  signal_by ss (suc n) = ap (λ o. unwrap_or o fresh_signal) (slice_get-map (record_by f) ss n) ∙ or_fresh (slice_get ss n)

  pub reason_by : (ss : Signals A) (s : ℕ) → reason_of (by_value f ss) s ≡ option_map f (reason_of ss s)
  reason_by ss s = ap (λ q. q.reason) (signal_by ss s)

  last_by : (ss : Signals A) (q : SignalRecord A) → by_value f (and_last ss q) ≡ and_last (by_value f ss) (record_by f q)
  last_by ss q = map-append (record_by f) ss (q ∷ [])

  pub make_by : (ss : Signals A) → by_value f (make ss) ≡ make (by_value f ss)
  make_by ss = last_by ss fresh_signal

  pub make_aborted_by : (ss : Signals A) (r : A) → by_value f (make_aborted r ss) ≡ make_aborted (f r) (by_value f ss)
  make_aborted_by ss r = last_by ss _

  -- a signal is changed
  with_by : (ss : Signals A) (s : ℕ) (q : SignalRecord A) → by_value f (with_numbered ss s q) ≡ with_numbered (by_value f ss) s (record_by f q)
  with_by ss zero q = refl
  with_by ss (suc n) q = map-set (record_by f) ss n q

  pub with_reason_by : (r : A) (signals : List ℕ) (ss : Signals A) → by_value f (with_reason r signals ss) ≡ with_reason (f r) signals (by_value f ss)
  with_reason_by r [] ss = refl
  with_reason_by r (s ∷ more) ss =
      with_reason_by r more (with_numbered ss s (record (the_signal ss s) { reason = Some r }))
      ∙ ap (with_reason (f r) more)
      (with_by ss s (record (the_signal ss s) { reason = Some r })
      ∙ ap (λ (q : SignalRecord B). with_numbered (by_value f ss) s (record q { reason = Some (f r) })) (sym (signal_by ss s)))

  pub with_algorithms_by : (ss : Signals A) (s : ℕ) (ns : List ℕ) → by_value f (with_algorithms s ns ss) ≡ with_algorithms s ns (by_value f ss)
  with_algorithms_by ss s ns =
      with_by ss s (record (the_signal ss s) { algorithms = ns })
      ∙ ap (λ (q : SignalRecord B). with_numbered (by_value f ss) s (record q { algorithms = ns })) (sym (signal_by ss s))

  algorithms_by : (ss : Signals A) (s : ℕ) → (the_signal ss s).algorithms ≡ (the_signal (by_value f ss) s).algorithms
  algorithms_by ss s = sym (ap (λ q. q.algorithms) (signal_by ss s))

  pub add_algorithm_by : (ss : Signals A) (s a : ℕ) → by_value f (add_algorithm s a ss) ≡ add_algorithm s a (by_value f ss)
  add_algorithm_by ss s a = with_algorithms_by ss s _ ∙ ap (λ ns. with_algorithms s (and_last ns a) (by_value f ss)) (algorithms_by ss s)

  pub remove_algorithm_by : (ss : Signals A) (s a : ℕ) → by_value f (remove_algorithm s a ss) ≡ remove_algorithm s a (by_value f ss)
  remove_algorithm_by ss s a = with_algorithms_by ss s _ ∙ ap (λ ns. with_algorithms s (without (λ b. b == a) ns) (by_value f ss)) (algorithms_by ss s)

  with_dependent_by : (d : ℕ) (sources : List ℕ) (ss : Signals A) → by_value f (with_dependent d sources ss) ≡ with_dependent d sources (by_value f ss)
  with_dependent_by d [] ss = refl
  with_dependent_by d (s ∷ more) ss =
      with_dependent_by d more (with_numbered ss s (record (the_signal ss s) { dependents = and_last (the_signal ss s).dependents d }))
      ∙ ap (with_dependent d more)
      (with_by ss s (record (the_signal ss s) { dependents = and_last (the_signal ss s).dependents d })
      ∙ ap (λ (q : SignalRecord B). with_numbered (by_value f ss) s (record q { dependents = and_last q.dependents d })) (sym (signal_by ss s)))

  depend_on_by : (sources : List ℕ) (ss : Signals A) → by_value f (depend_on sources ss) ≡ depend_on sources (by_value f ss)
  depend_on_by sources ss =
      let made : Signals A = and_last ss (record { reason = None; sources = sources; dependents = []; algorithms = [] }) in
      with_dependent_by (length made) sources made
      ∙ ap (λ n. with_dependent n sources (by_value f made)) (sym (length-map made (record_by f)))
      ∙ ap (λ (ms : Signals B). with_dependent (length ms) sources ms) (last_by ss _)

  through_by : (ss : Signals A) (s : ℕ) → sources_through (by_value f ss) s ≡ sources_through ss s
  through_by ss s = ap (λ (q : SignalRecord B). cond (is_empty q.sources) (s ∷ []) q.sources) (signal_by ss s)

  all_sources_by : (ss : Signals A) (known of : List ℕ) → all_sources (by_value f ss) known of ≡ all_sources ss known of
  all_sources_by ss known [] = refl
  all_sources_by ss known (s ∷ more) =
      ap (λ xs. all_sources (by_value f ss) (and_new known xs) more) (through_by ss s) ∙ all_sources_by ss (and_new known (sources_through ss s)) more

  first_reason_by : (ss : Signals A) (of : List ℕ) → first_reason (by_value f ss) of ≡ option_map f (first_reason ss of)
  first_reason_by ss [] = refl
  first_reason_by ss (s ∷ more) =
      ap (λ (o : Option B). elim o as (λ _. Option B) [ Some v ↦ Some v | None ↦ first_reason (by_value f ss) more ]) (reason_by ss s) ∙ by (reason_of ss s) (first_reason_by ss more)
    where
      by : (o : Option A) → first_reason (by_value f ss) more ≡ option_map f (first_reason ss more)
          → (elim (option_map f o) as (λ _. Option B) [ Some v ↦ Some v | None ↦ first_reason (by_value f ss) more ]) ≡ option_map f (elim o as (λ _. Option A) [ Some v ↦ Some v | None ↦ first_reason ss more ])
      by None again = again
      by (Some v) again = refl

  pub any_by : (ss : Signals A) (of : List ℕ) → by_value f (any of ss) ≡ any of (by_value f ss)
  any_by ss of =
      by (first_reason ss of)
      ∙ sym (ap (λ (o : Option B). elim o as (λ _. Signals B) [ Some v ↦ make_aborted v (by_value f ss) | None ↦ depend_on (all_sources (by_value f ss) [] of) (by_value f ss) ]) (first_reason_by ss of))
    where
      by : (o : Option A) → by_value f (elim o as (λ _. Signals A) [ Some v ↦ make_aborted v ss | None ↦ depend_on (all_sources ss [] of) ss ])
          ≡ elim (option_map f o) as (λ _. Signals B) [ Some v ↦ make_aborted v (by_value f ss) | None ↦ depend_on (all_sources (by_value f ss) [] of) (by_value f ss) ]
      by (Some v) = make_aborted_by ss v
      by None = depend_on_by (all_sources ss [] of) ss ∙ ap (λ xs. depend_on xs (by_value f ss)) (sym (all_sources_by ss [] of))

  there_by : (o : Option A) → is_there (option_map f o) ≡ is_there o
  there_by None = refl
  there_by (Some v) = refl

  pub aborted_by : (ss : Signals A) (s : ℕ) → is_aborted (by_value f ss) s ≡ is_aborted ss s
  aborted_by ss s = ap is_there (reason_by ss s) ∙ there_by (reason_of ss s)

  left_by : (ss : Signals A) (ds : List ℕ) → filter (λ d. not (is_aborted (by_value f ss) d)) ds ≡ filter (λ d. not (is_aborted ss d)) ds
  left_by ss [] = refl
  left_by ss (d ∷ ds) =
      ap (λ b. cond (not b) (d ∷ filter (λ d. not (is_aborted (by_value f ss) d)) ds) (filter (λ d. not (is_aborted (by_value f ss) d)) ds)) (aborted_by ss d)
      ∙ ap (λ xs. cond (not (is_aborted ss d)) (d ∷ xs) xs) (left_by ss ds)

  pub marked_by : (ss : Signals A) (s : ℕ) → marked s (by_value f ss) ≡ marked s ss
  marked_by ss s =
      ap (λ b. cond b [] (s ∷ filter (λ d. not (is_aborted (by_value f ss) d)) (the_signal (by_value f ss) s).dependents)) (aborted_by ss s)
      ∙ ap (λ ds. cond (is_aborted ss s) [] (s ∷ filter (λ d. not (is_aborted (by_value f ss) d)) ds)) (ap (λ q. q.dependents) (signal_by ss s))
      ∙ ap (λ xs. cond (is_aborted ss s) [] (s ∷ xs)) (left_by ss (the_signal ss s).dependents)

-- values that agree on the reasons
pub same_by : {A B : Type 0} (f g : A → B) (ss : Signals A) → SameReasons f g ss → by_value f ss ≡ by_value g ss
same_by f g [] same = refl
same_by f g (q ∷ ss) same =
    ap (λ r. record { reason = r; sources = q.sources; dependents = q.dependents; algorithms = q.algorithms } ∷ by_value f ss) same.0 ∙ ap (λ rest. record_by g q ∷ rest) (same_by f g ss same.1)
