-- Laws of numbers: those that stand in a page were given out before.
use Rattle.std.specs.Prelude.{◌≡◌, ℕ, List}
use Rattle.page_types.specs.Tree.{Program}
use Rattle.page_types.specs.Values.{Value}
use Rattle.page_types.specs.declared.Op.{Op}
use Rattle.page_parts.specs.HostClosures.{HostClosure}
use Rattle.page_parts.specs.Setup.{Setup}
use Rattle.lang_meaning.specs.Evaluation.{call_from_outside}
use Rattle.lang_meaning.specs.Machine.{Caller}
use Rattle.page_model.specs.Choosing.{Rules}
use Rattle.page_model.specs.Invoke.{in_script}
use Rattle.page_model.specs.Numbers.{HoldsNoNumbers, AllAreGiven, Each, IsKnown, made_by, EndsGiven, IsAfter}
use Rattle.page_model.specs.Operations.{page_operations, operation}
use Rattle.page_model.specs.State.{Page, State}
use Rattle.page_model.specs.Turns.{first_state, state_of, turn, turns, run_by}

-- ---- Ours: laws by which numbers may stand for things that are there

-- in the first state of a run all numbers were given out
abbrev pub FirstStatesAreGiven : Program → Type 0
FirstStatesAreGiven program =
    (setup : Setup) (hosts : List HostClosure) → HoldsNoNumbers setup
    → AllAreGiven (first_state program setup hosts)

-- each operation that calls so keeps it, where its arguments are known
abbrev pub OperationsKeepGiven : Caller Page → Type 0
OperationsKeepGiven call =
    (op : Op) (args : List Value) (m : State) → AllAreGiven m → Each (IsKnown (made_by m.host)) args
    → EndsGiven (made_by m.host) (page_operations call op args m)

-- each turn keeps it
abbrev pub EachTurnKeepsGiven : {C : Type 0} → Rules C → Program → Type 0
EachTurnKeepsGiven {C} rules program =
    (until : ℕ) (m : State) (c : C) → AllAreGiven m
    → IsAfter (made_by m.host) (state_of (turn rules (call_from_outside program page_operations) until m c))

-- turns keep it
abbrev pub TurnsKeepGiven : {C : Type 0} → Rules C → Program → Type 0
TurnsKeepGiven {C} rules program =
    (until most : ℕ) (m : State) (c : C) → AllAreGiven m
    → IsAfter (made_by m.host)
    (state_of (turns rules (call_from_outside program page_operations) until most m c))

-- in each state that a run reaches after some turns all numbers were given out
abbrev pub StatesOfRunsAreGiven : {C : Type 0} → Rules C → Program → Type 0
StatesOfRunsAreGiven {C} rules program =
    (setup : Setup) (hosts : List HostClosure) (c : C) (most : ℕ) → HoldsNoNumbers setup
    → AllAreGiven (state_of
    (turns rules (call_from_outside program page_operations) setup.until most (first_state program setup hosts)
    c))

-- so they were at its end
abbrev pub EndsOfRunsAreGiven : {C : Type 0} → Rules C → Program → Type 0
EndsOfRunsAreGiven {C} rules program =
    (setup : Setup) (hosts : List HostClosure) (c : C) → HoldsNoNumbers setup
    → AllAreGiven (state_of (run_by rules program setup hosts c))

-- with known arguments an operation does what is told of it, and its test of them passes
abbrev pub OperationsMeetGiven : Caller Page → Type 0
OperationsMeetGiven call =
    (op : Op) (args : List Value) (m : State) → Each (IsKnown (made_by m.host)) args
    → page_operations call op args m ≡ operation (in_script call) op args m
