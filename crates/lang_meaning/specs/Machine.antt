-- The state of the script machine, around whatever host it has, and how a step of it ends.
use Rattle.std.specs.Prelude.{ℕ, zero, suc, Bool, true, false, if◌then◌else◌, List, [], ◌∷◌, Option, Some, None}
use Rattle.page_types.specs.declared.FaultName.{FaultName}
use Rattle.page_types.specs.Values.{Value, UnitValue, FaultValue}
use Rattle.page_types.specs.declared.Op.{Op}
use Rattle.page_parts.specs.Words.{same_bytes, is_there}

-- ---- Ours: the meaning of the script language

-- a variable and its value now
pub record Variable : Type 0 where
  pub name : List ℕ
  pub value : Value

-- the global variables, the local variables of each call that is open (the innermost first), the units of fuel that are left, and the host
pub record Machine (H : Type 0) : Type 0 where
  pub globals : List Variable
  pub open_calls : List (List Variable)  -- the local variables of each call that is open, the innermost first
  pub fuel : ℕ
  pub host : H

-- how a step ends, and the state then: it gives a value, throws one, returns one from the call around it, or finds no fuel
pub data Done (H : Type 0) : Type 0 where
  Gives : Value → Machine H → Done H
  Throws : Value → Machine H → Done H
  Returns : Value → Machine H → Done H
  OutOfFuel : Machine H → Done H

-- the machine with another host
abbrev pub hosted : {H K : Type 0} → (H → K) → Machine H → Machine K
hosted φ m = record { globals = m.globals; open_calls = m.open_calls; fuel = m.fuel; host = φ m.host }

-- how a step ends, with another host
abbrev pub done_hosted : {H K : Type 0} → (H → K) → Done H → Done K
done_hosted φ (Gives v m) = Gives v (hosted φ m)
done_hosted φ (Throws v m) = Throws v (hosted φ m)
done_hosted φ (Returns v m) = Returns v (hosted φ m)
done_hosted φ (OutOfFuel m) = OutOfFuel (hosted φ m)

-- what is done with a value, where the step gives one
abbrev pub and_then : {H : Type 0} → Done H → (Value → Machine H → Done H) → Done H
and_then (Gives v m) next = next v m
and_then (Throws v m) next = Throws v m
and_then (Returns v m) next = Returns v m
and_then (OutOfFuel m) next = OutOfFuel m

-- what is done where the step throws
abbrev pub or_catch : {H : Type 0} → Done H → (Value → Machine H → Done H) → Done H
or_catch (Gives v m) handle = Gives v m
or_catch (Throws v m) handle = handle v m
or_catch (Returns v m) handle = Returns v m
or_catch (OutOfFuel m) handle = OutOfFuel m

-- what is done afterwards, whether or not the step throws
abbrev pub afterwards : {H : Type 0} → Done H → (Machine H → Done H) → Done H
afterwards (Gives v m) next = next m
afterwards (Throws v m) next = next m
afterwards (Returns v m) next = next m
afterwards (OutOfFuel m) next = OutOfFuel m

-- a fault that the machine makes is thrown, with an empty text
abbrev pub throw_fault : {H : Type 0} → FaultName → Machine H → Done H
throw_fault name m = Throws (FaultValue name []) m

-- a step that has nothing to give gives unit
abbrev pub finish : {H : Type 0} → Machine H → Done H
finish m = Gives UnitValue m

-- the value that is there, or a fault
abbrev pub given : {H X : Type 0} → Option X → FaultName → Machine H → (X → Machine H → Done H) → Done H
given None fault m next = throw_fault fault m
given (Some x) fault m next = next x m

-- one way or the other
abbrev pub branch : {H : Type 0} → Bool → Machine H → (held failed : Machine H → Done H) → Done H
branch true m held failed = held m
branch false m held failed = failed m

-- a unit is taken of so much fuel, and then comes the rest; with no unit left the step ends so
abbrev pub with_fuel : {H : Type 0} → ℕ → Machine H → (Machine H → Done H) → Done H
with_fuel zero m next = OutOfFuel m
with_fuel (suc left) m next = next (record m { fuel = left })

-- a unit of fuel is taken, and then comes the rest
abbrev pub take_unit : {H : Type 0} → Machine H → (Machine H → Done H) → Done H
take_unit m next = with_fuel m.fuel m next

-- the value of a variable in a list
abbrev pub value_in : List Variable → List ℕ → Option Value
value_in [] x = None
value_in (a ∷ more) x = if same_bytes a.name x then Some a.value else value_in more x

-- the first of two that is there
abbrev pub or_else : {X : Type 0} → (first second : Option X) → Option X
or_else None o = o
or_else (Some x) o = Some x

-- the local variables of the innermost open call
abbrev pub locals : List (List Variable) → List Variable
locals [] = []
locals (innermost ∷ others) = innermost

-- the value of a variable: a local one hides a global one
abbrev pub variable : {H : Type 0} → Machine H → List ℕ → Option Value
variable m x = or_else (value_in (locals m.open_calls) x) (value_in m.globals x)

-- the variables with v for x
abbrev pub with_value_in : List Variable → List ℕ → Value → List Variable
with_value_in [] x v = []
with_value_in (a ∷ more) x v = if same_bytes a.name x then record a { value = v } ∷ more else a ∷ with_value_in more x v

-- the local variables of the innermost open call with v for x
abbrev pub with_local : List (List Variable) → List ℕ → Value → List (List Variable)
with_local [] x v = []
with_local (innermost ∷ others) x v = with_value_in innermost x v ∷ others

-- x is assigned v: a local variable where there is one of this name, else a global one
abbrev pub assigned : {H : Type 0} → Machine H → List ℕ → Value → Machine H
assigned m x v =
    if is_there (value_in (locals m.open_calls) x)
    then record m { open_calls = with_local m.open_calls x v }
    else record m { globals = with_value_in m.globals x v }

-- how a function is called with values: its number and all its arguments
abbrev pub Caller : Type 0 → Type 0
Caller H = ℕ → List Value → Machine H → Done H

-- what an operation does, where functions are called so
abbrev pub Operations : Type 0 → Type 0
Operations H = Caller H → Op → List Value → Machine H → Done H
