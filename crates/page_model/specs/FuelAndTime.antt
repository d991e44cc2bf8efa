-- Fuel never rises, and time never falls.
use Rattle.std.specs.Prelude.{◌≡◌, ℕ, suc, ◌<◌, ◌≤◌, List}
use Rattle.page_types.specs.Values.{Value}
use Rattle.lang_meaning.specs.Machine.{Done, Gives, Throws, Returns, OutOfFuel, Caller}
use Rattle.page_model.specs.State.{Page, State}
use Rattle.page_model.specs.Invoke.{Ways}
use Rattle.page_model.specs.Choosing.{Rules}
use Rattle.page_model.specs.Turns.{Turned, GoesOn, Ended, Stuck, step_two_at}

-- ---- Ours: fuel and time have one direction

-- n comes after m: it has no more fuel, and its time is not an earlier one
pub record Later (m n : State) : Type 0 where
  pub fuel : n.fuel ≤ m.fuel
  pub time : m.host.now ≤ n.host.now

-- the state in which a step ends
abbrev pub end_state : Done Page → State
end_state (Gives v m) = m
end_state (Throws v m) = m
end_state (Returns v m) = m
end_state (OutOfFuel m) = m

-- a step goes forward from every state
abbrev pub Forward : (State → Done Page) → Type 0
Forward f = (m : State) → Later m (end_state (f m))

-- calls go forward, whatever function is called with whatever values
abbrev pub CallsForward : Caller Page → Type 0
CallsForward call = (f : ℕ) (args : List Value) → Forward (call f args)

-- so do calls, and what is done when a callback has returned
pub record WaysForward (w : Ways) : Type 0 where
  pub call : CallsForward w.call
  pub after : Forward w.after

-- a turn that goes on has taken a unit of fuel at least, and every turn goes forward
abbrev pub TurnForward : {C : Type 0} → State → Turned C → Type 0
TurnForward m (GoesOn n c) = Later m n × (suc n.fuel ≤ m.fuel)
TurnForward m (Ended end n c) = Later m n
TurnForward m (Stuck at n c) = Later m n

-- a turn that begins again after a wait begins at a time that is not before the target and is after now: what it would do at any other
-- state does not count
abbrev pub BeginsAgainLater : {C : Type 0} → Rules C → Type 0
BeginsAgainLater {C} rules =
    (until t : ℕ) (again other : State → C → Turned C) (next : State → Turned C) (m : State) (c : C)
    → ((n : State) (d : C) → m.host.now < t → t ≤ n.host.now → again n d ≡ other n d)
    → step_two_at rules until t again next c m ≡ step_two_at rules until t other next c m
