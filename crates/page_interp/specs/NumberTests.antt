-- Whether the functions that values name have numbers below a number, as a test.
use Rattle.std.specs.Prelude.{ℕ, Bool, true, ◌&&◌, List, [], ◌∷◌, nat_lt}
use Rattle.page_types.specs.Values.{Value, UnitValue, BoolValue, IntValue, TextValue, ListValue, FunValue, PromiseValue, SignalValue, ControllerValue, DeadlineValue, FaultValue, Values, no_values, with_value}
use Rattle.lang_meaning.specs.Machine as M

-- ---- Ours: functions are numbered from 0 in the order of the text

abbrev mutual
  pub is_numbered : ℕ → Value → Bool
  is_numbered count UnitValue = true
  is_numbered count (BoolValue b) = true
  is_numbered count (IntValue n) = true
  is_numbered count (TextValue bs) = true
  is_numbered count (ListValue vs) = are_numbered count vs
  is_numbered count (FunValue f vs) = nat_lt f count && are_numbered count vs
  is_numbered count (PromiseValue n) = true
  is_numbered count (SignalValue n) = true
  is_numbered count (ControllerValue n) = true
  is_numbered count (DeadlineValue t) = true
  is_numbered count (FaultValue name bs) = true

  pub are_numbered : ℕ → Values → Bool
  are_numbered count no_values = true
  are_numbered count (with_value v vs) = is_numbered count v && are_numbered count vs

abbrev pub are_numbered_in : ℕ → List M.Variable → Bool
are_numbered_in count [] = true
are_numbered_in count (x ∷ xs) = is_numbered count x.value && are_numbered_in count xs
