-- What an answer of an operation on values is as a step of a host.
use Rattle.std.specs.Prelude.{◌≡◌, [], Option, Result, Ok, Err, IfOk}
use Rattle.std.specs.Option.{option_map}
use Rattle.page_types.specs.Values.{FaultValue}
use Rattle.page_base.specs.declared.memory.MemoryFault.{MemoryFault}
use Rattle.lang_meaning.specs.Evaluation.{Answer}
use Rattle.lang_meaning.specs.HostSteps as Model
use Rattle.lang_meaning.specs.HostSteps.{StepValue, StepThrow}
use Rattle.lang_ast.specs.declared.host.HostStep.{HostStep}
use Rattle.lang_ast.specs.Steps.{seen_step}

-- ---- Ours: how a host and the script machine take turns

-- the value of an answer, or the fault with an empty text that it throws
abbrev pub step_of : Answer → Model.HostStep
step_of (Ok v) = StepValue v
step_of (Err name) = StepThrow (FaultValue name [])

-- the step is that of the answer, where there was memory for it
abbrev pub IsStepOf : Result HostStep MemoryFault → Answer → Type 0
IsStepOf result answer = IfOk result (λ s. seen_step s ≡ step_of answer)

-- the same where there is an answer; no step, where there is none
abbrev pub IsPureStepOf : Result (Option HostStep) MemoryFault → Option Answer → Type 0
IsPureStepOf result answer = IfOk result (λ step. option_map seen_step step ≡ option_map step_of answer)
