-- What parts of the part are seen as.
use Rattle.std.specs.Prelude.{ℕ, List}
use Rattle.page_parts.specs.Setup.{Arrival}
use Rattle.page_model.specs.State.{IdleTimer}

-- the idle timeouts in the order of their handles, and the last handle
pub record IdleTimers : Type 0 where
  pub timers : List IdleTimer
  pub last : ℕ

-- the arrivals in the order of time, and how many there ever were
pub record ArrivalList : Type 0 where
  pub arrivals : List Arrival
  pub made : ℕ
