-- Values that name nothing of a script's functions or of a page.
use Rattle.std.specs.Prelude.{Bool, true, false, ◌&&◌}
use Rattle.page_types.specs.Values.{Value, UnitValue, BoolValue, IntValue, TextValue, ListValue, FunValue, PromiseValue, SignalValue, ControllerValue, DeadlineValue, FaultValue, Values, no_values, with_value}

-- neither a function, a promise, a signal nor a controller, and in a list none of these at any depth
abbrev mutual
  pub is_plain : Value → Bool
  is_plain UnitValue = true
  is_plain (BoolValue b) = true
  is_plain (IntValue n) = true
  is_plain (TextValue bs) = true
  is_plain (ListValue vs) = are_plain vs
  is_plain (FunValue f vs) = false
  is_plain (PromiseValue n) = false
  is_plain (SignalValue n) = false
  is_plain (ControllerValue n) = false
  is_plain (DeadlineValue t) = true
  is_plain (FaultValue name bs) = true

  pub are_plain : Values → Bool
  are_plain no_values = true
  are_plain (with_value v vs) = is_plain v && are_plain vs
