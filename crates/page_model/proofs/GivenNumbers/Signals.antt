-- What holds of each signal by its number stays so where signals are made or changed.
use Rattle.std.proofs.Common.{ℕ, zero, suc, List, [], ◌∷◌, Option, Some, None, length, slice_get, unwrap_or}
use Rattle.std.specs.Prelude.{slice_set}
use Rattle.page_types.specs.Values.{Value}
use Rattle.page_parts.specs.Words.{and_last, with_numbered}
use Rattle.page_parts.specs.AbortGraph.{SignalRecord, Signals, fresh_signal, the_signal, make_aborted, first_reason, all_sources, with_dependent, depend_on, with_reason, with_algorithms}
use Rattle.page_parts.specs.AbortGraph as AbortGraph
use Rattle.page_model.specs.Numbers.{Made, Each, IsAbortedBy, AlgorithmsAreOwn}

-- ---- lists

set-keeps : {X : Type 0} (P : ℕ → X → Type 0) (xs : List X) (k : ℕ) (x d : X) → P k x → ((i : ℕ) → P i (unwrap_or (slice_get xs i) d)) → (i : ℕ) → P i (unwrap_or (slice_get (slice_set xs k x) i) d)
set-keeps P [] k x d p h i = h i
set-keeps P (y ∷ xs) zero x d p h zero = p
set-keeps P (y ∷ xs) zero x d p h (suc i) = h (suc i)
set-keeps P (y ∷ xs) (suc k) x d p h zero = h zero
set-keeps P (y ∷ xs) (suc k) x d p h (suc i) = set-keeps (λ j. P (suc j)) xs k x d p (λ j. h (suc j)) i

last-keeps : {X : Type 0} (P : ℕ → X → Type 0) (xs : List X) (x d : X) → P (length xs) x → ((i : ℕ) → P i (unwrap_or (slice_get xs i) d)) → (i : ℕ) → P i (unwrap_or (slice_get (and_last xs x) i) d)
last-keeps P [] x d p h zero = p
last-keeps P [] x d p h (suc i) = h (suc i)
last-keeps P (y ∷ xs) x d p h zero = h zero
last-keeps P (y ∷ xs) x d p h (suc i) = last-keeps (λ j. P (suc j)) xs x d p (λ j. h (suc j)) i

-- ---- signals by their numbers

-- each signal, by its number, is such
abbrev pub ByNumber : (ℕ → SignalRecord Value → Type 0) → Signals Value → Type 0
ByNumber P ss = (s : ℕ) → P s (the_signal ss s)

pub with-by_number : (P : ℕ → SignalRecord Value → Type 0) (ss : Signals Value) (s : ℕ) (x : SignalRecord Value) → P s x → ByNumber P ss → ByNumber P (with_numbered ss s x)
with-by_number P ss zero x p h s = h s
with-by_number P ss (suc k) x p h zero = h zero
with-by_number P ss (suc k) x p h (suc i) = set-keeps (λ j. P (suc j)) ss k x fresh_signal p (λ j. h (suc j)) i

pub last-by_number : (P : ℕ → SignalRecord Value → Type 0) (ss : Signals Value) (x : SignalRecord Value) → P (suc (length ss)) x → ByNumber P ss → ByNumber P (and_last ss x)
last-by_number P ss x p h zero = h zero
last-by_number P ss x p h (suc i) = last-keeps (λ j. P (suc j)) ss x fresh_signal p (λ j. h (suc j)) i

pub with_reason-by_number : (P : ℕ → SignalRecord Value → Type 0) (reason : Value) (of : List ℕ) (ss : Signals Value) → ((s : ℕ) (x : SignalRecord Value) → P s x → P s (record x { reason = Some reason })) → ByNumber P ss → ByNumber P (with_reason reason of ss)
with_reason-by_number P reason [] ss k h = h
with_reason-by_number P reason (s ∷ more) ss k h =
    let x : SignalRecord Value = record (the_signal ss s) { reason = Some reason } in
    with_reason-by_number P reason more (with_numbered ss s x) k (with-by_number P ss s x (k s (the_signal ss s) (h s)) h)

with_dependent-by_number : (P : ℕ → SignalRecord Value → Type 0) (d : ℕ) (of : List ℕ) (ss : Signals Value) → ((s : ℕ) (x : SignalRecord Value) (ds : List ℕ) → P s x → P s (record x { dependents = ds })) → ByNumber P ss → ByNumber P (with_dependent d of ss)
with_dependent-by_number P d [] ss k h = h
with_dependent-by_number P d (s ∷ more) ss k h =
    let ds = and_last (the_signal ss s).dependents d in
    let x : SignalRecord Value = record (the_signal ss s) { dependents = ds } in
    with_dependent-by_number P d more (with_numbered ss s x) k (with-by_number P ss s x (k s (the_signal ss s) ds (h s)) h)

pub any-by_number : (P : ℕ → SignalRecord Value → Type 0) (of : List ℕ) (ss : Signals Value)
    → ((reason : Option Value) (sources : List ℕ) → P (suc (length ss)) (record { reason = reason; sources = sources; dependents = []; algorithms = [] }))
    → ((s : ℕ) (x : SignalRecord Value) (ds : List ℕ) → P s x → P s (record x { dependents = ds })) → ByNumber P ss → ByNumber P (AbortGraph.any of ss)
any-by_number P of ss new k h = by_reason (first_reason ss of)
  where
    by_reason : (o : Option Value) → ByNumber P (elim o [ Some v ↦ make_aborted v ss | None ↦ depend_on (all_sources ss [] of) ss ])
    by_reason (Some v) = last-by_number P ss (record { reason = Some v; sources = []; dependents = []; algorithms = [] }) (new (Some v) []) h
    by_reason None =
        let sources = all_sources ss [] of in
        let made = and_last ss (record { reason = None; sources = sources; dependents = []; algorithms = [] }) in
        with_dependent-by_number P (length made) sources made k (last-by_number P ss (record { reason = None; sources = sources; dependents = []; algorithms = [] }) (new None sources) h)

-- ---- algorithms

module _ (n : Made) where
  abbrev Own : ℕ → SignalRecord Value → Type 0
  Own s x = Each (IsAbortedBy n s) x.algorithms

  pub none-own : AlgorithmsAreOwn n []
  none-own zero = tt
  none-own (suc s) = tt

  pub make-own : (ss : Signals Value) → AlgorithmsAreOwn n ss → AlgorithmsAreOwn n (AbortGraph.make ss)
  make-own ss h = last-by_number Own ss fresh_signal tt h

  pub make_aborted-own : (reason : Value) (ss : Signals Value) → AlgorithmsAreOwn n ss → AlgorithmsAreOwn n (make_aborted reason ss)
  make_aborted-own reason ss h = last-by_number Own ss (record { reason = Some reason; sources = []; dependents = []; algorithms = [] }) tt h

  pub any-own : (of : List ℕ) (ss : Signals Value) → AlgorithmsAreOwn n ss → AlgorithmsAreOwn n (AbortGraph.any of ss)
  any-own of ss h = any-by_number Own of ss (λ reason sources. tt) (λ s x ds k. k) h

  pub with_reason-own : (reason : Value) (of : List ℕ) (ss : Signals Value) → AlgorithmsAreOwn n ss → AlgorithmsAreOwn n (with_reason reason of ss)
  with_reason-own reason of ss h = with_reason-by_number Own reason of ss (λ s x k. k) h

  pub with_algorithms-own : (s : ℕ) (rs : List ℕ) (ss : Signals Value) → Each (IsAbortedBy n s) rs → AlgorithmsAreOwn n ss → AlgorithmsAreOwn n (with_algorithms s rs ss)
  with_algorithms-own s rs ss k h = with-by_number Own ss s (record (the_signal ss s) { algorithms = rs }) k h
