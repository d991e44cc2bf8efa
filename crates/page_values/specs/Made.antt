-- What comes of making a value.
use Rattle.std.specs.Prelude.{◌≡◌, ◌++◌, Option, Some, None, Result, Ok, Err}
use Rattle.page_types.specs.Values as Model
use Rattle.page_types.specs.Values.{FunValue, Values, values_of, items_of}
use Rattle.page_values.specs.Seen.{seen}
use Rattle.page_values.specs.declared.Func.{Func}
use Rattle.page_values.specs.declared.Value.{Value}
use Rattle.page_values.specs.declared.faults.ValueFault.{ValueFault}
use Rattle.page_values.specs.declared.faults.ValueFault.TheVariants.{Is, OutOfMemory}

-- the function with more arguments bound, after those that are bound already
abbrev pub with_bound : Func → Values → Model.Value
with_bound function more = FunValue function.function (values_of (items_of function.bound ++ items_of more))

-- The value that is wanted, or the refusal where there is none. Memory may run out in any case.
abbrev pub IsMade : Result Value ValueFault → Option Model.Value → Type 0
IsMade (Ok v) wanted = wanted ≡ Some (seen v)
IsMade (Err (Is heavy)) wanted = wanted ≡ None
IsMade (Err OutOfMemory) wanted = Unit {0}
