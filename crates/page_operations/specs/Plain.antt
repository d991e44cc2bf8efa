-- Operations that call nothing back.
use Rattle.std.specs.Prelude.{◌≡◌, Bool, true, false, List, map, Result, Ok, Err}
use Rattle.page_types.specs.Values.{Value}
use Rattle.page_types.specs.declared.Op.{Op}
use Rattle.page_types.specs.declared.Op.TheVariants.{AbortOp, SetPriority}
use Rattle.page_values.specs.declared.Value as code
use Rattle.page_values.specs.Seen.{seen}
use Rattle.lang_meaning.specs.Machine.{Done}
use Rattle.lang_ast.specs.declared.host.HostStep.{HostStep}
use Rattle.trace_text.specs.declared.lines.NoLine.{NoLine}
use Rattle.trace_text.specs.declared.lines.NoLine.TheVariants.{OutOfMemory}
use Rattle.page_model.specs.State.{Page, State}
use Rattle.page_model.specs.Operations.{operation}
use Rattle.page_model.specs.Invoke.{in_script}
use Rattle.page_model.specs.PageHost.{no_calls}

-- whether an operation calls nothing back
abbrev pub is_plain : Op → Bool
is_plain AbortOp = false
is_plain SetPriority = false
is_plain op = true

-- what such an operation does
abbrev pub plain_operation : Op → List Value → State → Done Page
plain_operation op args = operation (in_script no_calls) op args

-- the same with arguments as the code has them
abbrev pub plain_of : Op → List code.Value → State → Done Page
plain_of op args = plain_operation op (map seen args)

-- an answer is handed on as it is, or memory is wanting in its place
abbrev pub IsSameOrWants : (done result : Result HostStep NoLine) → Type 0
IsSameOrWants done (Ok step) = done ≡ Ok step
IsSameOrWants (Ok step) (Err why) = why ≡ OutOfMemory
IsSameOrWants (Err cause) (Err why) = why ≡ cause
