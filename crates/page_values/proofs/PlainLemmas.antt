-- What is plain names nothing.
use Rattle.std.proofs.Common.{ℕ, Bool, true, false, refl}
use Rattle.std.specs.Prelude.{◌&&◌, IsTrue}
use Rattle.std.proofs.lemmas.Bool.{false≢true}
use Rattle.page_types.specs.Values.{Value, UnitValue, BoolValue, IntValue, TextValue, ListValue, FunValue, PromiseValue, SignalValue, ControllerValue, DeadlineValue, FaultValue, Values, no_values, with_value}
use Rattle.page_values.specs.Plain.{is_plain, are_plain}
use Rattle.page_values.specs.Written.{IsNumbered, AreNumbered}

left : (a b : Bool) → IsTrue (a && b) → IsTrue a
left true b p = refl
left false b p = absurd (false≢true p)

right : (a b : Bool) → IsTrue (a && b) → IsTrue b
right true b p = p
right false b p = absurd (false≢true p)

mutual
  value-numbered : (count : ℕ) (v : Value) → IsTrue (is_plain v) → IsNumbered count v
  value-numbered count UnitValue p = tt
  value-numbered count (BoolValue b) p = tt
  value-numbered count (IntValue n) p = tt
  value-numbered count (TextValue bs) p = tt
  value-numbered count (ListValue vs) p = plain-numbered count vs p
  value-numbered count (FunValue f vs) p = absurd (false≢true p)
  value-numbered count (PromiseValue n) p = tt
  value-numbered count (SignalValue n) p = tt
  value-numbered count (ControllerValue n) p = tt
  value-numbered count (DeadlineValue t) p = tt
  value-numbered count (FaultValue name bs) p = tt

  pub plain-numbered : (count : ℕ) (vs : Values) → IsTrue (are_plain vs) → AreNumbered count vs
  plain-numbered count no_values p = tt
  plain-numbered count (with_value v vs) p = (value-numbered count v (left (is_plain v) (are_plain vs) p), plain-numbered count vs (right (is_plain v) (are_plain vs) p))
