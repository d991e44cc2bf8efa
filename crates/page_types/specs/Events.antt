-- The events of a run, one for each line of a trace.
use Rattle.std.specs.Prelude.{ℕ, Bool, List, ℤ, Option, Result}
use Rattle.page_types.specs.declared.Source.{Source}
use Rattle.page_types.specs.declared.End.{End}
use Rattle.page_types.specs.declared.RegKind.{RegKind}
use Rattle.page_types.specs.declared.Priority.{Priority}

-- ---- Ours: the standards write no trace

-- what a job was queued for: a microtask callback (its registration), a reaction (the promise that was settled), or a resolution with
-- another promise (the promise that was resolved)
pub data Queued : Type 0 where
  MicroJob : ℕ → Queued
  ReactJob : ℕ → Queued
  AdoptJob : ℕ → Queued

-- the queue of a scheduler task in its line: that of a fixed priority, or that of a signal
pub data QueueName : Type 0 where
  FixedQueue : Priority → QueueName
  SignalQueue : ℕ → QueueName

-- one event, with the fields of its line in their order. Values stand in events by their spelling, as bytes.
pub data Event : Type 0 where
  Turn : ℕ → Option Source → Event
  Call : ℕ → Event
  Ret : Event
  Throw : List ℕ → Event
  Report : List ℕ → Event
  Log : List ℕ → Event
  Reg : ℕ → RegKind → Option ℕ → Event  -- with the registration of the innermost open call, which the first form of a trace leaves out
  Arm : (registration due level : ℕ) → Event
  Due : ℕ → Event
  Drop : ℕ → Event
  Job : ℕ → Queued → Event
  Run : ℕ → Event
  Settle : ℕ → Bool → List ℕ → Event
  Period : ℕ → Event
  IdleLine : ℕ → Event
  Frame : ℕ → Event
  Enq : (registration : ℕ) → QueueName → Bool → (order : ℕ) → Event
  Prio : ℕ → Priority → Event
  Abort : ℕ → Event
  Wait : ℕ → Event
  Host : ℕ → ℤ → Result ℤ ℤ → Event
  Unhandled : ℕ → Event
  Handled : ℕ → Event
  Send : ℕ → List ℕ → Event
  EndLine : End → Event

-- an event and the time at which it happens
pub record Stamped : Type 0 where
  pub time : ℕ
  pub event : Event
