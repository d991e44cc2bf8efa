-- The test of numbers is the fact.
use Rattle.std.proofs.Common.{ℕ, ◌<◌, Bool, true, false, List, [], ◌∷◌, refl, arith, nat_lt}
use Rattle.std.specs.Prelude.{◌&&◌, IsTrue}
use Rattle.std.proofs.lemmas.Bool.{false≢true}
use Rattle.std.proofs.lemmas.Bool.Decides.{nat_tests}
use Rattle.page_types.specs.Values.{Value, UnitValue, BoolValue, IntValue, TextValue, ListValue, FunValue, PromiseValue, SignalValue, ControllerValue, DeadlineValue, FaultValue, Values, no_values, with_value}
use Rattle.page_values.specs.Written.{IsNumbered, AreNumbered}
use Rattle.lang_meaning.specs.Machine as M
use Rattle.page_interp.specs.NumberTests.{is_numbered, are_numbered, are_numbered_in}
use Rattle.page_interp.specs.Runs.{AreNumberedIn}

left : (a b : Bool) → IsTrue (a && b) → IsTrue a
left true b p = refl
left false b p = absurd (false≢true p)

right : (a b : Bool) → IsTrue (a && b) → IsTrue b
right true b p = p
right false b p = absurd (false≢true p)

both : (a b : Bool) → IsTrue a → IsTrue b → IsTrue (a && b)
both true b p q = q
both false b p q = absurd (false≢true p)

below : (f count : ℕ) → IsTrue (nat_lt f count) → f < count
below f count h = grind (arith, nat_tests)

tested_below : (f count : ℕ) → f < count → IsTrue (nat_lt f count)
tested_below f count h = grind (arith, nat_tests)

mutual
  known : (count : ℕ) (v : Value) → IsTrue (is_numbered count v) → IsNumbered count v
  known count UnitValue h = tt
  known count (BoolValue b) h = tt
  known count (IntValue n) h = tt
  known count (TextValue bs) h = tt
  known count (ListValue vs) h = all_known count vs h
  known count (FunValue f vs) h = (below f count (left (nat_lt f count) (are_numbered count vs) h), all_known count vs (right (nat_lt f count) (are_numbered count vs) h))
  known count (PromiseValue n) h = tt
  known count (SignalValue n) h = tt
  known count (ControllerValue n) h = tt
  known count (DeadlineValue t) h = tt
  known count (FaultValue name bs) h = tt

  all_known : (count : ℕ) (vs : Values) → IsTrue (are_numbered count vs) → AreNumbered count vs
  all_known count no_values h = tt
  all_known count (with_value v vs) h = (known count v (left (is_numbered count v) (are_numbered count vs) h), all_known count vs (right (is_numbered count v) (are_numbered count vs) h))

mutual
  tested : (count : ℕ) (v : Value) → IsNumbered count v → IsTrue (is_numbered count v)
  tested count UnitValue h = refl
  tested count (BoolValue b) h = refl
  tested count (IntValue n) h = refl
  tested count (TextValue bs) h = refl
  tested count (ListValue vs) h = all_tested count vs h
  tested count (FunValue f vs) h = both (nat_lt f count) (are_numbered count vs) (tested_below f count h.0) (all_tested count vs h.1)
  tested count (PromiseValue n) h = refl
  tested count (SignalValue n) h = refl
  tested count (ControllerValue n) h = refl
  tested count (DeadlineValue t) h = refl
  tested count (FaultValue name bs) h = refl

  all_tested : (count : ℕ) (vs : Values) → AreNumbered count vs → IsTrue (are_numbered count vs)
  all_tested count no_values h = refl
  all_tested count (with_value v vs) h = both (is_numbered count v) (are_numbered count vs) (tested count v h.0) (all_tested count vs h.1)

pub variables_known : (count : ℕ) (xs : List M.Variable) → IsTrue (are_numbered_in count xs) → AreNumberedIn count xs
variables_known count [] h = tt
variables_known count (x ∷ xs) h = (known count x.value (left (is_numbered count x.value) (are_numbered_in count xs) h), variables_known count xs (right (is_numbered count x.value) (are_numbered_in count xs) h))

pub variables_tested : (count : ℕ) (xs : List M.Variable) → AreNumberedIn count xs → IsTrue (are_numbered_in count xs)
variables_tested count [] h = refl
variables_tested count (x ∷ xs) h = both (is_numbered count x.value) (are_numbered_in count xs) (tested count x.value h.0) (variables_tested count xs h.1)
