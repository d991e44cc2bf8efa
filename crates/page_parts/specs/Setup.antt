-- What the arrivals file sets: the choices of a run and what arrives.
use Rattle.std.specs.Prelude.{◌≡◌, ◌⊎◌, ℕ, Bool, true, ◌&&◌, List, [], ◌∷◌, nat_le}
use Rattle.page_types.specs.Values.{Value}
use Rattle.page_types.specs.declared.Source.{Source}

-- ---- Ours: what stands in the arrivals file

-- an arrival: when it comes, on which task source, the name of its event and the value that listeners get
pub record Arrival : Type 0 where
  pub at : ℕ
  pub source : Source
  pub name : List ℕ
  pub value : Value

-- whether a moment is not after the first of these arrivals
abbrev pub is_not_after : ℕ → List Arrival → Bool
is_not_after t [] = true
is_not_after t (a ∷ more) = nat_le t a.at

-- whether arrivals stand in the order of time: none comes before one that stands before it
abbrev pub are_in_order : List Arrival → Bool
are_in_order [] = true
are_in_order (a ∷ more) = is_not_after a.at more && are_in_order more

-- which task source is served: that of the oldest first task, the first in a list, or a fair one, by which a source that was passed over K
-- times goes first
pub data Policy : Type 0 where
  Fifo : Policy
  Rank : List Source → Policy
  Fair : ℕ → Policy

-- how many microseconds a host closure takes to answer
pub record Latency : Type 0 where
  pub closure : ℕ
  pub latency : ℕ

-- the setup of a run: its form, 1 or 2, and that of its trace (in form 2 a microtask inherits, and a trace of form 2 tells more); policy,
-- units of fuel, the moment at which the run ends at the latest, refresh rate in hertz, how late each wait is, latencies and arrivals
pub record Setup : Type 0 where
  pub form : ℕ
  pub trace : ℕ
  pub policy : Policy
  pub fuel : ℕ
  pub until : ℕ
  pub refresh : ℕ
  pub late : List ℕ
  pub latencies : List Latency
  pub arrivals : List Arrival

-- what an arrivals file sets is a setup: its forms are 1 or 2, and its arrivals stand in the order of time
pub record IsSetup (s : Setup) : Type 0 where
  pub form : (s.form ≡ 1) ⊎ (s.form ≡ 2)
  pub trace : (s.trace ≡ 1) ⊎ (s.trace ≡ 2)
  pub in_order : are_in_order s.arrivals ≡ true
