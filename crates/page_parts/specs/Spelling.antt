-- How values are spelled.
use Rattle.std.specs.Prelude.{ℕ, Bool, true, false, if◌then◌else◌, List, [], ◌∷◌, ◌++◌, Option, Some, None, codes, ◌==◌, slice_get, unwrap_or}
use Rattle.page_types.specs.Values.{Value, UnitValue, BoolValue, IntValue, TextValue, ListValue, FunValue, PromiseValue, SignalValue, ControllerValue, DeadlineValue, FaultValue, Values, no_values, with_value}
use Rattle.page_types.specs.declared.FaultName.{FaultName}
use Rattle.page_types.specs.declared.FaultName.TheVariants.{Error, TypeError, RangeError, AbortError, TimeoutError, NotAllowedError}
use Rattle.page_types.specs.declared.Priority.{Priority}
use Rattle.page_types.specs.declared.Priority.TheVariants.{Background, UserVisible, UserBlocking}
use Rattle.page_parts.specs.Words.{decimal_of, int_decimal}

-- ---- Ours: each value has one spelling, which `text`, `log` and the trace use

-- the name of a fault: names of ECMA-262's error objects and of Web IDL's DOMException
abbrev pub fault_text : FaultName → List ℕ
fault_text Error = codes "Error"
fault_text TypeError = codes "TypeError"
fault_text RangeError = codes "RangeError"
fault_text AbortError = codes "AbortError"
fault_text TimeoutError = codes "TimeoutError"
fault_text NotAllowedError = codes "NotAllowedError"

-- the text of a priority (Prioritized Task Scheduling, "The Scheduler Interface")
abbrev pub priority_text : Priority → List ℕ
priority_text Background = codes "background"
priority_text UserVisible = codes "user-visible"
priority_text UserBlocking = codes "user-blocking"

-- a byte of a text: a quotation mark, a backslash and LF are escaped
abbrev pub escaped : ℕ → List ℕ
escaped b = if b == 34 then 92 ∷ 34 ∷ [] else if b == 92 then 92 ∷ 92 ∷ [] else if b == 10 then 92 ∷ 110 ∷ [] else b ∷ []

-- all bytes of a text, escaped
abbrev pub all_escaped : List ℕ → List ℕ
all_escaped [] = []
all_escaped (b ∷ bs) = escaped b ++ all_escaped bs

-- a text between quotation marks
abbrev pub quoted : List ℕ → List ℕ
quoted bs = 34 ∷ all_escaped bs ++ 34 ∷ []

-- the deadline of a period, or one fixed at a time
abbrev pub deadline_text : Option ℕ → List ℕ
deadline_text None = codes "deadline"
deadline_text (Some t) = codes "deadline@" ++ decimal_of t

-- a Bool by its word
abbrev pub bool_text : Bool → List ℕ
bool_text true = codes "true"
bool_text false = codes "false"

abbrev mutual
  -- the spelling of a value, where names are those of the functions
  pub spelled : List (List ℕ) → Value → List ℕ
  spelled names UnitValue = codes "unit"
  spelled names (BoolValue b) = bool_text b
  spelled names (IntValue n) = int_decimal n
  spelled names (TextValue bs) = quoted bs
  spelled names (ListValue vs) = 91 ∷ all_spelled names vs ++ 93 ∷ []
  spelled names (FunValue f vs) = codes "fn:" ++ unwrap_or (slice_get names f) [] ++ 40 ∷ all_spelled names vs ++ 41 ∷ []
  spelled names (PromiseValue n) = codes "promise#" ++ decimal_of n
  spelled names (SignalValue n) = codes "signal#" ++ decimal_of n
  spelled names (ControllerValue n) = codes "controller#" ++ decimal_of n
  spelled names (DeadlineValue t) = deadline_text t
  spelled names (FaultValue name bs) = fault_text name ++ 40 ∷ quoted bs ++ 41 ∷ []

  -- the values with a comma between each two
  pub all_spelled : List (List ℕ) → Values → List ℕ
  all_spelled names no_values = []
  all_spelled names (with_value v vs) = spelled names v ++ more_spelled names vs

  -- the further values, each behind a comma
  pub more_spelled : List (List ℕ) → Values → List ℕ
  more_spelled names no_values = []
  more_spelled names (with_value v vs) = 44 ∷ spelled names v ++ more_spelled names vs
