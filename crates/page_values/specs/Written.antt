-- What holds of each value of the code, at any depth.
use Rattle.std.specs.Prelude.{ℕ, ◌<◌, ◌^◌, FitsSigned, IsTrue, Some, None}
use Rattle.std.specs.Int.{w64}
use Rattle.page_types.specs.Values.{Value, UnitValue, BoolValue, IntValue, TextValue, ListValue, FunValue, PromiseValue, SignalValue, ControllerValue, DeadlineValue, FaultValue, Values, no_values, with_value}
use Rattle.page_values.specs.Texts.{is_text}

-- texts are texts, and numbers fit
abbrev mutual
  pub IsWritten : Value → Type 0
  IsWritten UnitValue = Unit {0}
  IsWritten (BoolValue b) = Unit {0}
  IsWritten (IntValue n) = FitsSigned w64 n
  IsWritten (TextValue bs) = IsTrue (is_text bs)
  IsWritten (ListValue vs) = AreWritten vs
  IsWritten (FunValue f vs) = AreWritten vs
  IsWritten (PromiseValue n) = n < 2 ^ 32
  IsWritten (SignalValue n) = n < 2 ^ 32
  IsWritten (ControllerValue n) = n < 2 ^ 32
  IsWritten (DeadlineValue None) = Unit {0}
  IsWritten (DeadlineValue (Some t)) = t < 2 ^ 64
  IsWritten (FaultValue name bs) = IsTrue (is_text bs)

  pub AreWritten : Values → Type 0
  AreWritten no_values = Unit {0}
  AreWritten (with_value v vs) = IsWritten v × AreWritten vs

-- each function's number is below the number of functions
abbrev mutual
  pub IsNumbered : ℕ → Value → Type 0
  IsNumbered count UnitValue = Unit {0}
  IsNumbered count (BoolValue b) = Unit {0}
  IsNumbered count (IntValue n) = Unit {0}
  IsNumbered count (TextValue bs) = Unit {0}
  IsNumbered count (ListValue vs) = AreNumbered count vs
  IsNumbered count (FunValue f vs) = (f < count) × AreNumbered count vs
  IsNumbered count (PromiseValue n) = Unit {0}
  IsNumbered count (SignalValue n) = Unit {0}
  IsNumbered count (ControllerValue n) = Unit {0}
  IsNumbered count (DeadlineValue t) = Unit {0}
  IsNumbered count (FaultValue name bs) = Unit {0}

  pub AreNumbered : ℕ → Values → Type 0
  AreNumbered count no_values = Unit {0}
  AreNumbered count (with_value v vs) = IsNumbered count v × AreNumbered count vs
