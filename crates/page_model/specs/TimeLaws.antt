-- Laws of fuel and time: fuel never rises, time never falls, and arrivals stay in its order.
use Rattle.std.specs.Prelude.{◌≡◌, ℕ, true, List, Bool}
use Rattle.page_types.specs.Tree.{Program}
use Rattle.page_types.specs.Values.{Value}
use Rattle.page_types.specs.declared.Op.{Op}
use Rattle.page_parts.specs.HostClosures.{HostClosure}
use Rattle.page_parts.specs.Listeners.{Target}
use Rattle.page_parts.specs.Setup.{are_in_order, Setup}
use Rattle.lang_meaning.specs.Evaluation.{call_from_outside}
use Rattle.lang_meaning.specs.Machine.{Caller, Done}
use Rattle.page_model.specs.Choosing.{Rules}
use Rattle.page_model.specs.FuelAndTime.{Forward, TurnForward, Later}
use Rattle.page_model.specs.Invoke.{Ways, invoke}
use Rattle.page_model.specs.Operations.{page_operations}
use Rattle.page_model.specs.PageSignals.{dispatch}
use Rattle.page_model.specs.State.{Page, State}
use Rattle.page_model.specs.Turns.{turn, state_of, turns, first_state, run_by}

-- ---- Ours: laws of the one direction of fuel and time

-- the arrivals of a page stand in the order of time
abbrev pub HasArrivalsInOrder : Page → Type 0
HasArrivalsInOrder p = are_in_order p.arrivals ≡ true

-- each operation that calls so goes forward
abbrev pub OperationsGoForward : Caller Page → Type 0
OperationsGoForward call = (op : Op) (args : List Value) → Forward (page_operations call op args)

-- each callback goes forward, and what is done when it has returned
abbrev pub CallbacksGoForward : Ways → Type 0
CallbacksGoForward w = (r : ℕ) (second : Bool) (args : List Value) → Forward (invoke w r second args)

-- an event that is fired at a target goes forward
abbrev pub DispatchGoesForward : Ways → Type 0
DispatchGoesForward w =
    (target : Target) (name : List ℕ) (args : List Value) → Forward (dispatch w target name args)

-- what is done with each of these goes forward
abbrev pub EachGoesForward : {X : Type 0} → (X → State → Done Page) → Type 0
EachGoesForward {X} does = (x : X) → Forward (does x)

-- each turn goes forward, and one that goes on has taken a unit of fuel at least
abbrev pub EachTurnGoesForward : {C : Type 0} → Rules C → Program → Type 0
EachTurnGoesForward {C} rules program =
    (until : ℕ) (m : State) (c : C)
    → TurnForward m (turn rules (call_from_outside program page_operations) until m c)

-- fuel never rises and time never falls by turns
abbrev pub TurnsGoForward : {C : Type 0} → Rules C → Program → Type 0
TurnsGoForward {C} rules program =
    (until n : ℕ) (m : State) (c : C)
    → Later m (state_of (turns rules (call_from_outside program page_operations) until n m c))

-- nor by a whole run
abbrev pub RunsGoForward : {C : Type 0} → Rules C → Program → Type 0
RunsGoForward {C} rules program =
    (setup : Setup) (hosts : List HostClosure) (c : C)
    → Later (first_state program setup hosts) (state_of (run_by rules program setup hosts c))
