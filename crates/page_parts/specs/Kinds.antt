-- Equality, weight and kinds of values.
use Rattle.std.specs.Prelude.{ℕ, ◌+◌, max, Bool, true, false, if◌then◌else◌, not, ◌&&◌, List, [], length, Option, Some, None, ℤ, codes, nat_le, ◌==◌}
use Rattle.page_types.specs.Values.{Value, UnitValue, BoolValue, IntValue, TextValue, ListValue, FunValue, PromiseValue, SignalValue, ControllerValue, DeadlineValue, FaultValue, Values, no_values, with_value}
use Rattle.page_types.specs.declared.FaultName.{FaultName}
use Rattle.page_parts.specs.Words.{same_bytes, same_int}
use Rattle.page_parts.specs.Spelling.{fault_text}

-- ---- Ours: kinds, equality and limits of the values of the script language

-- whether a value is unit
abbrev pub is_unit : Value → Bool
is_unit UnitValue = true
is_unit v = false

-- the Bool that a value is, else nothing; the same for each kind below
abbrev pub bool_in : Value → Option Bool
bool_in (BoolValue b) = Some b
bool_in v = None

-- the integer
abbrev pub int_in : Value → Option ℤ
int_in (IntValue n) = Some n
int_in v = None

-- the bytes of a text
abbrev pub text_in : Value → Option (List ℕ)
text_in (TextValue bs) = Some bs
text_in v = None

-- the items of a list
abbrev pub list_in : Value → Option Values
list_in (ListValue vs) = Some vs
list_in v = None

-- a function: its number and its bound arguments
pub record Func : Type 0 where
  pub function : ℕ
  pub bound : Values

-- the function that a value is
abbrev pub func_in : Value → Option Func
func_in (FunValue f vs) = Some (record { function = f; bound = vs })
func_in v = None

-- the number of a promise
abbrev pub promise_in : Value → Option ℕ
promise_in (PromiseValue n) = Some n
promise_in v = None

-- the number of a signal
abbrev pub signal_in : Value → Option ℕ
signal_in (SignalValue n) = Some n
signal_in v = None

-- the number of a controller, which is that of its signal
abbrev pub controller_in : Value → Option ℕ
controller_in (ControllerValue n) = Some n
controller_in v = None

-- the deadline: nothing inside for that of a period, else the time at which it is fixed
abbrev pub deadline_in : Value → Option (Option ℕ)
deadline_in (DeadlineValue t) = Some t
deadline_in v = None

-- a fault: its name and its text
pub record Fault : Type 0 where
  pub name : FaultName
  pub text : List ℕ

-- the fault that a value is
abbrev pub fault_in : Value → Option Fault
fault_in (FaultValue name bs) = Some (record { name = name; text = bs })
fault_in v = None

-- the test of what is there, and false where nothing is
abbrev pub there_and : {X : Type 0} → Option X → (X → Bool) → Bool
there_and None test = false
there_and (Some x) test = test x

-- whether two deadlines are equal
abbrev pub same_deadline : (a b : Option ℕ) → Bool
same_deadline None None = true
same_deadline (Some a) (Some b) = a == b
same_deadline a b = false

-- whether no value is left
abbrev pub none_left : Values → Bool
none_left no_values = true
none_left (with_value v vs) = false

-- the test of the first value and the rest, and false where there is none
abbrev pub split_and : Values → (Value → Values → Bool) → Bool
split_and no_values test = false
split_and (with_value v vs) test = test v vs

abbrev mutual
  -- whether two values are equal by structure
  pub same : (a b : Value) → Bool
  same UnitValue b = is_unit b
  same (BoolValue x) b = there_and (bool_in b) (λ y. if x then y else not y)
  same (IntValue x) b = there_and (int_in b) (same_int x)
  same (TextValue x) b = there_and (text_in b) (same_bytes x)
  same (ListValue xs) b = there_and (list_in b) (same_all xs)
  same (FunValue f xs) b = there_and (func_in b) (λ g. (f == g.function) && same_all xs g.bound)
  same (PromiseValue x) b = there_and (promise_in b) (λ y. x == y)
  same (SignalValue x) b = there_and (signal_in b) (λ y. x == y)
  same (ControllerValue x) b = there_and (controller_in b) (λ y. x == y)
  same (DeadlineValue x) b = there_and (deadline_in b) (same_deadline x)
  same (FaultValue name x) b = there_and (fault_in b) (λ y. same_bytes (fault_text name) (fault_text y.name) && same_bytes x y.text)

  -- the same of values in a row
  pub same_all : (no_values ys : Values) → Bool
  same_all no_values ys = none_left ys
  same_all (with_value x xs) ys = split_and ys (λ y ys'. same x y && same_all xs ys')

abbrev mutual
  -- the weight of a value: 1, plus the bytes of a text, plus the weights of items and bound arguments
  pub weight : Value → ℕ
  weight UnitValue = 1
  weight (BoolValue x) = 1
  weight (IntValue x) = 1
  weight (TextValue x) = 1 + length x
  weight (ListValue xs) = 1 + all_weights xs
  weight (FunValue f xs) = 1 + all_weights xs
  weight (PromiseValue x) = 1
  weight (SignalValue x) = 1
  weight (ControllerValue x) = 1
  weight (DeadlineValue x) = 1
  weight (FaultValue name x) = 1 + length x

  -- the weights of values together
  pub all_weights : Values → ℕ
  all_weights no_values = 0
  all_weights (with_value x xs) = weight x + all_weights xs

abbrev mutual
  -- how deep lists and bound lists nest; the bound list of a function counts, as an empty list does
  pub nesting : Value → ℕ
  nesting UnitValue = 0
  nesting (BoolValue x) = 0
  nesting (IntValue x) = 0
  nesting (TextValue x) = 0
  nesting (ListValue xs) = 1 + greatest_nesting xs
  nesting (FunValue f xs) = 1 + greatest_nesting xs
  nesting (PromiseValue x) = 0
  nesting (SignalValue x) = 0
  nesting (ControllerValue x) = 0
  nesting (DeadlineValue x) = 0
  nesting (FaultValue name x) = 0

  -- the greatest nesting among values, 0 of none
  pub greatest_nesting : Values → ℕ
  greatest_nesting no_values = 0
  greatest_nesting (with_value x xs) = max (nesting x) (greatest_nesting xs)

-- the value, unless it weighs more than 65,536 or nests deeper than 64
abbrev pub within_limits : Value → Option Value
within_limits v = if nat_le (weight v) 65536 && nat_le (nesting v) 64 then Some v else None

abbrev mutual
  -- whether a value may be sent to another page: it holds no function, promise, signal, controller or deadline at any depth
  pub is_sendable : Value → Bool
  is_sendable UnitValue = true
  is_sendable (BoolValue x) = true
  is_sendable (IntValue x) = true
  is_sendable (TextValue x) = true
  is_sendable (ListValue xs) = are_sendable xs
  is_sendable (FunValue f xs) = false
  is_sendable (PromiseValue x) = false
  is_sendable (SignalValue x) = false
  is_sendable (ControllerValue x) = false
  is_sendable (DeadlineValue x) = false
  is_sendable (FaultValue name x) = true

  -- the same of values in a row
  pub are_sendable : Values → Bool
  are_sendable no_values = true
  are_sendable (with_value x xs) = is_sendable x && are_sendable xs

-- the word that `kind` answers
abbrev pub kind_text : Value → List ℕ
kind_text UnitValue = codes "unit"
kind_text (BoolValue x) = codes "bool"
kind_text (IntValue x) = codes "int"
kind_text (TextValue x) = codes "text"
kind_text (ListValue xs) = codes "list"
kind_text (FunValue f xs) = codes "fun"
kind_text (PromiseValue x) = codes "promise"
kind_text (SignalValue x) = codes "signal"
kind_text (ControllerValue x) = codes "controller"
kind_text (DeadlineValue x) = codes "deadline"
kind_text (FaultValue name x) = codes "fault"

-- a fault that is made here: its text is empty
abbrev pub a_fault : FaultName → Value
a_fault name = FaultValue name []
