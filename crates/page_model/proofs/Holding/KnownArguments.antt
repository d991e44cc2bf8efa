-- Arguments that hold only numbers which were given out pass the test before an operation.
use Rattle.std.proofs.Common.{◌≡◌, ℕ, Bool, true, false, ◌&&◌, ◌||◌, List, [], ◌∷◌, refl, arith}
use Rattle.std.proofs.lemmas.Bool.Decides.{nat_tests}
use Rattle.page_types.specs.Values.{Value, UnitValue, BoolValue, IntValue, TextValue, ListValue, FunValue, PromiseValue, SignalValue, ControllerValue, DeadlineValue, FaultValue, Values, no_values, with_value}
use Rattle.page_types.specs.declared.Op.{Op}
use Rattle.lang_meaning.specs.Machine.{Caller}
use Rattle.lang_meaning.specs.HostSteps.{is_busy}
use Rattle.page_model.specs.State.{Page, State}
use Rattle.page_model.specs.Invoke.{in_script}
use Rattle.page_model.specs.Operations.{was_given, is_known, are_known, all_known, operation, page_operations}
use Rattle.page_model.specs.Numbers.{Each, Made, made_by, IsGiven, IsKnown, AreKnown}

both : (a b : Bool) → a ≡ true → b ≡ true → (a && b) ≡ true
both a b h k = rw (h, k) refl

either : (a b : Bool) → b ≡ true → (a || b) ≡ true
either true b h = refl
either false b h = h

given : (last number : ℕ) → IsGiven last number → was_given last number ≡ true
given last number h = let low = h.from_one in let high = h.to_last in grind (arith, nat_tests, low, high)

mutual
  known : (n : Made) (v : Value) → IsKnown n v → is_known n.promises n.signals v ≡ true
  known n UnitValue h = refl
  known n (BoolValue b) h = refl
  known n (IntValue i) h = refl
  known n (TextValue bs) h = refl
  known n (ListValue vs) h = row n vs h
  known n (FunValue f vs) h = row n vs h
  known n (PromiseValue k) h = given n.promises k h
  known n (SignalValue k) h = given n.signals k h
  known n (ControllerValue k) h = given n.signals k h
  known n (DeadlineValue t) h = refl
  known n (FaultValue name bs) h = refl

  row : (n : Made) (vs : Values) → AreKnown n vs → are_known n.promises n.signals vs ≡ true
  row n no_values h = refl
  row n (with_value v vs) h = both (is_known n.promises n.signals v) (are_known n.promises n.signals vs) (known n v h.0) (row n vs h.1)

all : (n : Made) (args : List Value) → Each (IsKnown n) args → all_known n.promises n.signals args ≡ true
all n [] h = refl
all n (v ∷ args) h = both (is_known n.promises n.signals v) (all_known n.promises n.signals args) (known n v h.0) (all n args h.1)

pub operates-known : (call : Caller Page) (op : Op) (args : List Value) (m : State) → Each (IsKnown (made_by m.host)) args → page_operations call op args m ≡ operation (in_script call) op args m
operates-known call op args m h =
    let passes = either (is_busy op) (all_known (made_by m.host).promises (made_by m.host).signals args) (all (made_by m.host) args h) in
    rw passes refl
