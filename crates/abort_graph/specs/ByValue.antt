-- Signals whose reasons are numbers, as signals whose reasons are the values with these numbers.
use Rattle.std.specs.Prelude.{◌≡◌, ℕ, ◌<◌, ◌≤◌, List, map, length, option_map, slice_get, unwrap_or}
use Rattle.std.specs.List.{AllByRecursion}
use Rattle.std.specs.Option.{IfSome}
use Rattle.page_types.specs.Values.{Value, UnitValue}
use Rattle.page_parts.specs.Words.{and_last}
use Rattle.page_parts.specs.AbortGraph.{SignalRecord, Signals, the_signal, reason_of, is_aborted, make, make_aborted, any, marked}
use Rattle.page_parts.specs.AbortGraph.{with_reason, with_algorithms, add_algorithm, remove_algorithm}

abbrev pub record_by : {A B : Type 0} → (A → B) → SignalRecord A → SignalRecord B
record_by f q = record { reason = option_map f q.reason; sources = q.sources; dependents = q.dependents; algorithms = q.algorithms }

-- signals with the reason f n in place of each reason n
abbrev pub by_value : {A B : Type 0} → (A → B) → Signals A → Signals B
by_value f ss = map (record_by f) ss

-- f and g give the same value of each reason
abbrev pub SameReasons : {A B : Type 0} → (f g : A → B) → Signals A → Type 0
SameReasons f g ss = AllByRecursion (λ q. option_map f q.reason ≡ option_map g q.reason) ss

-- each step on signals gives the same with numbers as with values
module _ (f : ℕ → Value) (ss : Signals ℕ) where
  abbrev pub ReasonIs : Type 0
  ReasonIs = (s : ℕ) → reason_of (by_value f ss) s ≡ option_map f (reason_of ss s)

  abbrev pub SignalIs : Type 0
  SignalIs = (s : ℕ) → the_signal (by_value f ss) s ≡ record_by f (the_signal ss s)

  abbrev pub AbortedIs : Type 0
  AbortedIs = (s : ℕ) → is_aborted (by_value f ss) s ≡ is_aborted ss s

  abbrev pub CountIs : Type 0
  CountIs = length (by_value f ss) ≡ length ss

  abbrev pub MakeIs : Type 0
  MakeIs = by_value f (make ss) ≡ make (by_value f ss)

  abbrev pub MakeAbortedIs : Type 0
  MakeAbortedIs = (n : ℕ) → by_value f (make_aborted n ss) ≡ make_aborted (f n) (by_value f ss)

  abbrev pub AnyIs : Type 0
  AnyIs = (of : List ℕ) → by_value f (any of ss) ≡ any of (by_value f ss)

  abbrev pub MarkedIs : Type 0
  MarkedIs = (s : ℕ) → marked s (by_value f ss) ≡ marked s ss

  abbrev pub WithReasonIs : Type 0
  WithReasonIs = (n : ℕ) (signals : List ℕ) → by_value f (with_reason n signals ss) ≡ with_reason (f n) signals (by_value f ss)

  abbrev pub WithAlgorithmsIs : Type 0
  WithAlgorithmsIs =
      (s : ℕ) (algorithms : List ℕ) → by_value f (with_algorithms s algorithms ss) ≡ with_algorithms s algorithms (by_value f ss)

  abbrev pub AddAlgorithmIs : Type 0
  AddAlgorithmIs = (s a : ℕ) → by_value f (add_algorithm s a ss) ≡ add_algorithm s a (by_value f ss)

  abbrev pub RemoveAlgorithmIs : Type 0
  RemoveAlgorithmIs = (s a : ℕ) → by_value f (remove_algorithm s a ss) ≡ remove_algorithm s a (by_value f ss)

-- ---- reasons in a page's list of values, which are counted from 0

-- the value with this number; what stands for one that is not there counts for nothing
abbrev pub value_in : List Value → ℕ → Value
value_in values n = unwrap_or (slice_get values n) UnitValue

-- each reason is one of the first n values
abbrev pub AreAmong : ℕ → Signals ℕ → Type 0
AreAmong n ss = AllByRecursion (λ q. IfSome q.reason (λ r. r < n)) ss

-- each step on signals keeps its reasons among the values that were there, and the reason that is handed in
module _ (n : ℕ) (ss : Signals ℕ) where
  abbrev pub MoreAreAmong : Type 0
  MoreAreAmong = (m : ℕ) → n ≤ m → AreAmong n ss → AreAmong m ss

  abbrev pub MadeAreAmong : Type 0
  MadeAreAmong = AreAmong n ss → AreAmong n (make ss)

  abbrev pub AbortedAreAmong : Type 0
  AbortedAreAmong = (r : ℕ) → r < n → AreAmong n ss → AreAmong n (make_aborted r ss)

  abbrev pub AnyAreAmong : Type 0
  AnyAreAmong = (of : List ℕ) → AreAmong n ss → AreAmong n (any of ss)

  abbrev pub ReasonsAreAmong : Type 0
  ReasonsAreAmong = (r : ℕ) (signals : List ℕ) → r < n → AreAmong n ss → AreAmong n (with_reason r signals ss)

  abbrev pub AlgorithmsAreAmong : Type 0
  AlgorithmsAreAmong = (s : ℕ) (algorithms : List ℕ) → AreAmong n ss → AreAmong n (with_algorithms s algorithms ss)

-- a further value changes no reason
abbrev pub FurtherValueIs : List Value → Signals ℕ → Type 0
FurtherValueIs values ss =
    (v : Value) → AreAmong (length values) ss → by_value (value_in (and_last values v)) ss ≡ by_value (value_in values) ss

-- and it is the one with the next number
abbrev pub NextValueIs : List Value → Type 0
NextValueIs values = (v : Value) → value_in (and_last values v) (length values) ≡ v
